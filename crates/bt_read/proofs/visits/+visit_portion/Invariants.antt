use Rattle.std.proofs.Common.{◌≡◌, false, fold}
use Rattle.bt_message.specs.Effects.{effect_of}
use Rattle.bt_form.specs.Portions.{rows_of}
use Rattle.bt_form.specs.Trees.{height}
use Rattle.bt_form.specs.Walks.{is_leaf}
use Rattle.bt_read.specs.inside.Limits.{limited}
use Rattle.bt_read.specs.inside.Openings.{children_left}
use Rattle.bt_read.proofs.visits.+visit_portion.Given as goal

-- what is still to be shown, which begins with the rest of the portion
abbrev pub invariant-loop-alloc : goal.invariant-loop-alloc
invariant-loop-alloc g l =
    let effect = effect_of g.V.Merge.terms.merged in
    let visited = limited g.S.Visitor.visited in
    record {
      wanted : fold visited (l.fn.visitor, l.fn.limit) (rows_of effect l.fn.portion) ≡ fold visited (l.visitor, l.limit) (rows_of effect l.rest);
      inner : is_leaf l.rest.tree ≡ false;
      same : l.rest.tree ≡ l.fn.portion.tree;
    }

abbrev pub decreases-loop-alloc : goal.decreases-loop-alloc
decreases-loop-alloc g l = children_left l.rest

abbrev pub decreases-visit_portion : goal.decreases-visit_portion
decreases-visit_portion g l = height l.portion.tree
