-- Siblings put under inner nodes, as the code does it: there are fewer, with the same crown.
use Rattle.std.proofs.Common.{◌≡◌, ◌<◌, ◌≤◌, List, [], ◌∷◌, length, map, refl, sym, ap, subst, ◌∙◌, arith}
use Rattle.std.proofs.lemmas.List.{length-map}
use Rattle.bt_value.specs.Lists.{concatenation}
use Rattle.bt_form.specs.Children.{AreDivided}
use Rattle.bt_form.specs.Trees.{Shape, Siblings, Tree}
use Rattle.bt_form.specs.Flushes.{Child, crown, grouped, none_pending}
use Rattle.bt_form.proofs.offered.flushes.Divisions.{divided-none}
use Rattle.bt_flush.proofs.offered.Levels.{crown-again, raised-shorter}

nothing-pending : {V M : Type 0} (xs : Siblings V M) → concatenation (map (λ c. c.pending) (none_pending xs)) ≡ []
nothing-pending [] = refl
nothing-pending (x ∷ xs) = nothing-pending xs

module _ {V M : Type 0} (cs : List (Child V M)) (xs : Siblings V M) (is : cs ≡ none_pending xs) where
  -- no pending messages, which lie between any pivots
  pub none_divided : AreDivided cs
  none_divided = subst AreDivided (sym is) (divided-none (none_pending xs) (nothing-pending xs))

  pub children_some : 1 ≤ length xs → 1 ≤ length cs
  children_some some = omega (arith, some, ap length is, length-map {B = Child V M} xs (λ x. record { pivot = x.0; tree = x.1; pending = [] }))

  module _ (s : Shape) (two : 2 ≤ s.fanout) (several : 1 < length xs) (ys : Siblings V M) (made : ys ≡ grouped s cs) where
    pub crown_kept : crown s ys ≡ crown s xs
    crown_kept = ap (crown s) (made ∙ ap (grouped s) is) ∙ sym (crown-again s two xs (omega (arith, several)))

    pub fewer : length ys < length xs
    fewer = omega (arith, ap length (made ∙ ap (grouped s) is), raised-shorter s two xs (omega (arith, several)))

-- the crown of one node
pub crown_one : {V M : Type 0} (s : Shape) (level : Siblings V M) (t : Tree V M) → level ≡ ([], t) ∷ [] → t ≡ crown s level
crown_one s level t e = sym (ap (crown s) e)
