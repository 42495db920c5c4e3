use Rattle.std.proofs.Common.{◌≡◌, ◌++◌, ◌∷◌, [], false}
use Rattle.bt_message.specs.Effects.{effect_of}
use Rattle.bt_form.specs.Portions.{Divide}
use Rattle.bt_form.specs.Walks.{is_leaf}
use Rattle.bt_read.specs.inside.Openings.{children_left}
use Rattle.bt_read.proofs.portions.child_portions.Given as goal

-- the children so far, and then the rest of the portion
abbrev pub invariant-loop-parts : goal.invariant-loop-parts
invariant-loop-parts g l = record {
  divided : Divide (effect_of g.V.Merge.terms.merged) (l.fn.portion ∷ []) (l.parts.items ++ l.rest ∷ []);
  inner : is_leaf l.rest.tree ≡ false;
}

abbrev pub decreases-loop-parts : goal.decreases-loop-parts
decreases-loop-parts g l = children_left l.rest
