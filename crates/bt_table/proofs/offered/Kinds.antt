-- The kinds of the first values of a row of a schema. The order of a table's rows rests on it, and that of their groups.
use Rattle.std.proofs.Common.{◌≡◌, ℕ, Bool, true, false, ◌&&◌, List, [], ◌∷◌, refl, map, take, suc, zero}
use Rattle.bt_row.specs.Schemas.{fit_columns}
use Rattle.bt_value.specs.Values.{fits_kind}
use Rattle.bt_row.specs.declared.rows.schema.Column.{Column}
use Rattle.bt_value.specs.declared.value.Value.{Value}
use Rattle.bt_value.proofs.offered.Kinds.{fits_kind_of}
use Rattle.bt_keycode.specs.Codes.{kind_of}

pub key_kinds : (n : ℕ) (columns : List Column) (row : List Value) → fit_columns columns row ≡ true → map kind_of (take n row) ≡ map (λ c. c.kind) (take n columns)
key_kinds zero columns row e = refl
key_kinds (suc n) [] [] e = refl
key_kinds (suc n) [] (v ∷ vs) e = cc
key_kinds (suc n) (c ∷ cs) [] e = cc
key_kinds (suc n) (c ∷ cs) (v ∷ vs) e = by_first (fits_kind c.kind v) refl e (λ others. key_kinds n cs vs others)
  where
    by_first : (b : Bool) → fits_kind c.kind v ≡ b → (b && fit_columns cs vs) ≡ true → (fit_columns cs vs ≡ true → map kind_of (take n vs) ≡ map (λ d. d.kind) (take n cs))
        → map kind_of (v ∷ take n vs) ≡ map (λ d. d.kind) (c ∷ take n cs)
    by_first true fits others rest = λ i. fits_kind_of c.kind v fits i ∷ rest others i
    by_first false fits others rest = absurd cc
