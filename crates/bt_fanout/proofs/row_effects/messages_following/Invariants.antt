use Rattle.std.proofs.Common.{◌≡◌, ◌+◌, length}
use Rattle.bt_fanout.specs.inside.Groups.{after_group, group_count}
use Rattle.bt_fanout.proofs.row_effects.messages_following.Given as goal

abbrev pub invariant-loop-at : goal.invariant-loop-at
invariant-loop-at l = record {
  count : group_count l.key l.fn.messages ≡ l.count + group_count l.key l.messages;
  following : after_group l.key l.fn.messages ≡ after_group l.key l.messages;
  few : l.count + length l.messages ≡ length l.fn.messages;
}

abbrev pub decreases-loop-at : goal.decreases-loop-at
decreases-loop-at l = length l.messages
