use Rattle.std.proofs.Common.{◌≡◌, ◌+◌, ◌*◌, ◌≤◌, drop}
use Rattle.bt_message.specs.Weights.{weigh_of, weight}
use Rattle.bt_message.proofs.measure.weigh_all.Given as goal

abbrev pub invariant-loop-key : goal.invariant-loop-key
invariant-loop-key g l = record {
  sum : l.sum + weight (weigh_of g.V.Merge.terms) (drop l.key-index l.messages) ≡ weight (weigh_of g.V.Merge.terms) l.messages;
  bound : l.sum ≤ l.key-index * 16777215;
}
