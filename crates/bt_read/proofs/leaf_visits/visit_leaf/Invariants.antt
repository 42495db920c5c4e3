use Rattle.std.proofs.Common.{◌≡◌, true, fold, length}
use Rattle.std.specs.FinMap.{is_sorted}
use Rattle.bt_keycode.specs.Keys.{IsSorted, key_cmp}
use Rattle.bt_message.specs.Effects.{effect_of}
use Rattle.bt_form.specs.Messages.{rows_after}
use Rattle.bt_read.specs.inside.Limits.{limited}
use Rattle.bt_read.proofs.leaf_visits.visit_leaf.Given as goal

-- the rows that were shown, and then those after the messages that are left
abbrev pub invariant-loop-key : goal.invariant-loop-key
invariant-loop-key g l = record {
  wanted : fold (limited g.S.Visitor.visited) (l.fn.visitor, l.fn.limit) (rows_after (effect_of g.V.Merge.terms.merged) l.fn.messages l.fn.rows)
      ≡ fold (limited g.S.Visitor.visited) (l.visitor, l.limit) (rows_after (effect_of g.V.Merge.terms.merged) l.messages l.left);
  rows : is_sorted key_cmp l.left ≡ true;
  messages : IsSorted l.messages;
}

abbrev pub decreases-loop-key : goal.decreases-loop-key
decreases-loop-key g l = length l.messages
