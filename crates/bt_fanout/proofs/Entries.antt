-- Entries of rows of the same kinds: those of two keys have two keys.
use Rattle.std.proofs.Common.{◌≡◌, ℕ, Bool, true, false, List, [], ◌∷◌, ◌++◌, get_or, map, refl, sym, ap, ◌∙◌, ◌⊎◌, inl, inr, Some, None, if◌then◌else◌}
use Rattle.std.proofs.Math.ListN.{get_or-map}
use Rattle.bt_value.specs.declared.value.Kind.{Kind}
use Rattle.bt_value.specs.declared.value.Value.{Value}
use Rattle.bt_value.specs.declared.value.Value.TheVariants as value
use Rattle.bt_keycode.specs.Codes.{HaveSameKinds, code_of, kind_of}
use Rattle.bt_keycode.proofs.offered.Codes.{no_proper_prefix}
use Rattle.bt_fanout.specs.Entries.{Definition, StandsUnder, entry_of, passes, picked, value_in}
use Rattle.bt_fanout.specs.Selections.{AreApart}

-- of two lists that are equal once something is appended to each, one begins the other
abbrev Begins : List ℕ → List ℕ → List ℕ → List ℕ → Type 0
Begins first xs longer ys = (more : List ℕ) × ((longer ≡ first ++ more) × (xs ≡ more ++ ys))

one_begins : (one xs other ys : List ℕ) → one ++ xs ≡ other ++ ys → Begins one xs other ys ⊎ Begins other ys one xs
one_begins [] xs other ys e = inl (other, (refl, e))
one_begins (a ∷ one) xs [] ys e = inr (a ∷ one, (refl, sym e))
one_begins (a ∷ one) xs (b ∷ other) ys e =
    let head : a ≡ b = cc in
    let tail : one ++ xs ≡ other ++ ys = cc in
    elim (one_begins one xs other ys tail) as (λ _. Begins (a ∷ one) xs (b ∷ other) ys ⊎ Begins (b ∷ other) ys (a ∷ one) xs) [
      | inl f ↦ inl (f.0, (ap (λ c. c ∷ other) (sym head) ∙ ap (λ cs. a ∷ cs) f.1.0, f.1.1))
      | inr f ↦ inr (f.0, (ap (λ c. c ∷ one) head ∙ ap (λ cs. b ∷ cs) f.1.0, f.1.1))
    ]

-- if two codes of the same kinds, each followed by something, are equal together with it, what follows is equal
pub following_all : (vs ws : List Value) → HaveSameKinds vs ws → (xs ys : List ℕ) → code_of vs ++ xs ≡ code_of ws ++ ys → xs ≡ ys
following_all vs ws kinds xs ys e = elim (one_begins (code_of vs) xs (code_of ws) ys e) as (λ _. xs ≡ ys) [
  | inl f ↦ f.1.1 ∙ ap (λ more. more ++ ys) (no_proper_prefix vs ws kinds f.0 f.1.0)
  | inr f ↦ sym (f.1.1 ∙ ap (λ more. more ++ xs) (no_proper_prefix ws vs (sym kinds) f.0 f.1.0))
]

kind_in : (x y : List Value) → HaveSameKinds x y → (place : ℕ) → kind_of (value_in x place) ≡ kind_of (value_in y place)
kind_in x y e place =
    sym (get_or-map kind_of x place (value.Flag false)) ∙ ap (λ kinds. get_or kinds place (kind_of (value.Flag false))) e ∙ get_or-map kind_of y place (value.Flag false)

kinds_picked : (places : List ℕ) (x y : List Value) → HaveSameKinds x y → HaveSameKinds (picked places x) (picked places y)
kinds_picked [] x y e = refl
kinds_picked (p ∷ places) x y e =
    ap (λ kind. kind ∷ map kind_of (picked places x)) (kind_in x y e p) ∙ ap (λ kinds. kind_of (value_in y p) ∷ kinds) (kinds_picked places x y e)

key_is : (p : Bool) (key : List ℕ) (values : List Value) (a : List ℕ × List Value) → (if p then Some (key, values) else None) ≡ Some a → key ≡ a.0
key_is true key values a e = let pair : (key, values) ≡ a = cc in ap (λ z. z.0) pair
key_is false key values a e = cc

pub apart : (def : Definition) (kinds : List Kind) → AreApart (StandsUnder def kinds) (entry_of def)
apart def kinds j k x y a b s t e f same =
    following_all (picked def.on x) (picked def.on y) (kinds_picked def.on x y (s.of_kinds ∙ sym t.of_kinds)) j k
    (key_is (passes def.condition x) (code_of (picked def.on x) ++ j) (picked def.include x) a e ∙ same
    ∙ sym (key_is (passes def.condition y) (code_of (picked def.on y) ++ k) (picked def.include y) b f))
