-- Values and columns side by side, and codes one after the other. Serves the rows of indexes.
use Rattle.std.proofs.Common.{◌≡◌, ◌∙◌, ◌<◌, ℕ, zero, suc, arith, Bool, true, false, true≢false, List, [], ◌∷◌, ◌++◌}
use Rattle.std.proofs.Common.{refl, sym, ap, append_assoc, length, map, take, ◌&&◌}
use Rattle.std.specs.List.{All}
use Rattle.bt_value.specs.Values.{AreInRange, IsInRange, fits_kind}
use Rattle.bt_row.specs.Schemas.{fit_columns}
use Rattle.bt_row.specs.declared.rows.schema.Column.{Column}
use Rattle.bt_value.specs.declared.value.Value.{Value}
use Rattle.bt_keycode.specs.Codes.{code_of, code_of_value}
use Rattle.bt_fanout.specs.Entries.{picked, value_in}
use Rattle.bt_show.specs.Ranges.{column_in}

both_true : (a b : Bool) → (a && b) ≡ true → (a ≡ true) × (b ≡ true)
both_true true b is = (refl, is)
both_true false b is = absurd (true≢false (sym is))

pub fit-append : (cs ds : List Column) (vs ws : List Value) → fit_columns cs vs ≡ true → fit_columns ds ws ≡ true → fit_columns (cs ++ ds) (vs ++ ws) ≡ true
fit-append [] ds [] ws f g = g
fit-append [] ds (v ∷ vs) ws f g = absurd (true≢false (sym f))
fit-append (c ∷ cs) ds [] ws f g = absurd (true≢false (sym f))
fit-append (c ∷ cs) ds (v ∷ vs) ws f g =
    let both = both_true (fits_kind c.kind v) (fit_columns cs vs) f in
    ap (λ b. b && fit_columns (cs ++ ds) (vs ++ ws)) both.0 ∙ fit-append cs ds vs ws both.1 g

pub fit-take : (n : ℕ) (cs : List Column) (vs : List Value) → fit_columns cs vs ≡ true → fit_columns (take n cs) (take n vs) ≡ true
fit-take zero cs vs f = refl
fit-take (suc n) [] [] f = refl
fit-take (suc n) [] (v ∷ vs) f = absurd (true≢false (sym f))
fit-take (suc n) (c ∷ cs) [] f = absurd (true≢false (sym f))
fit-take (suc n) (c ∷ cs) (v ∷ vs) f =
    let both = both_true (fits_kind c.kind v) (fit_columns cs vs) f in
    ap (λ b. b && fit_columns (take n cs) (take n vs)) both.0 ∙ fit-take n cs vs both.1

fit-at : (cs : List Column) (vs : List Value) (place : ℕ) → fit_columns cs vs ≡ true → place < length cs → fits_kind (column_in cs place).kind (value_in vs place) ≡ true
fit-at [] vs place f under = absurd (omega (arith, under))
fit-at (c ∷ cs) [] place f under = absurd (true≢false (sym f))
fit-at (c ∷ cs) (v ∷ vs) zero f under = (both_true (fits_kind c.kind v) (fit_columns cs vs) f).0
fit-at (c ∷ cs) (v ∷ vs) (suc place) f under = fit-at cs vs place (both_true (fits_kind c.kind v) (fit_columns cs vs) f).1 (omega (arith, under))

pub fit-picked : (cs : List Column) (vs : List Value) (places : List ℕ) → fit_columns cs vs ≡ true → All (λ place. place < length cs) places
    → fit_columns (map (column_in cs) places) (picked places vs) ≡ true
fit-picked cs vs [] f under = refl
fit-picked cs vs (place ∷ places) f under =
    ap (λ b. b && fit_columns (map (column_in cs) places) (picked places vs)) (fit-at cs vs place f (under 0 0 (omega arith)))
    ∙ fit-picked cs vs places f (λ k d less. under (suc k) d (omega (arith, less)))

pub in_range-append : (vs ws : List Value) → AreInRange vs → AreInRange ws → AreInRange (vs ++ ws)
in_range-append [] ws f g = g
in_range-append (v ∷ vs) ws f g = (f.0, in_range-append vs ws f.1 g)

in_range-at : (vs : List Value) (place : ℕ) → AreInRange vs → IsInRange (value_in vs place)
in_range-at [] place f = tt
in_range-at (v ∷ vs) zero f = f.0
in_range-at (v ∷ vs) (suc place) f = in_range-at vs place f.1

pub in_range-picked : (vs : List Value) (places : List ℕ) → AreInRange vs → AreInRange (picked places vs)
in_range-picked vs [] f = tt
in_range-picked vs (place ∷ places) f = (in_range-at vs place f, in_range-picked vs places f)

pub code-append : (vs ws : List Value) → code_of (vs ++ ws) ≡ code_of vs ++ code_of ws
code-append [] ws = refl
code-append (v ∷ vs) ws = ap (λ bytes. code_of_value v ++ bytes) (code-append vs ws) ∙ sym (append_assoc (code_of_value v) (code_of vs) (code_of ws))
