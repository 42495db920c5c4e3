use Rattle.std.proofs.Common.{◌≡◌, ◌+◌, ◌≤◌, drop, length, take}
use Rattle.bt_message.specs.Weights.{weigh_of, weight}
use Rattle.bt_messages.proofs.stream_messages.StreamMessages.weigh_next.Given as goal

abbrev pub invariant-loop-left : goal.invariant-loop-left
invariant-loop-left g l = record {
  sum : l.sum + weight (weigh_of g.V.Merge.terms) (take l.left l.self) ≡ weight (weigh_of g.V.Merge.terms) (take l.count l.fn.self);
  left : drop l.left l.self ≡ drop l.count l.fn.self;
  enough : l.left ≤ length l.self;
}

abbrev pub decreases-loop-left : goal.decreases-loop-left
decreases-loop-left g l = l.left
