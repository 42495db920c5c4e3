-- Children of a node during a flush, side by side with their bins.
use Rattle.std.specs.Prelude.{List, [], ◌∷◌, map}
use Rattle.bt_keycode.specs.Keys.{Key}
use Rattle.bt_messages.specs.Bins.{LieBetween}
use Rattle.bt_form.specs.Flushes.{Child, none_pending}
use Rattle.bt_form.specs.Messages.{Messages}
use Rattle.bt_form.specs.Trees.{Siblings}

module _ {V M : Type 0} where
  -- siblings, each with its bin
  abbrev pub with_pending : Siblings V M → List (Messages M) → List (Child V M)
  with_pending [] bins = []
  with_pending (x ∷ xs) [] = []
  with_pending (x ∷ xs) (b ∷ bs) = record { pivot = x.0; tree = x.1; pending = b } ∷ with_pending xs bs

  -- the siblings that replace one child: the first has the pivot and the pending messages of the child
  abbrev pub after_pivot : Key → Messages M → Siblings V M → List (Child V M)
  after_pivot k pending [] = []
  after_pivot k pending (x ∷ xs) = record { pivot = k; tree = x.1; pending = pending } ∷ none_pending xs

  -- the pending messages of each child lie between the pivots around it
  abbrev pub AreDivided : List (Child V M) → Type 0
  AreDivided [] = Unit {0}
  AreDivided (c ∷ cs) = LieBetween (map (λ d. d.pivot) cs) (map (λ d. d.pending) (c ∷ cs))
