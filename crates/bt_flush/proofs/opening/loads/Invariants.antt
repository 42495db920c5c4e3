use Rattle.std.proofs.Common.{◌≡◌, ◌≤◌, length, take, vec_capacity, vec_len}
use Rattle.bt_messages.specs.Parts.{parted}
use Rattle.bt_messages.specs.Shares.{counts}
use Rattle.bt_message.specs.Weights.{weigh_of}
use Rattle.bt_flush.proofs.lemmas.code.LoadLoop.{loads}
use Rattle.bt_flush.proofs.opening.loads.Given as goal

-- the loads so far
abbrev pub invariant-loop-child : goal.invariant-loop-child
invariant-loop-child g l = record {
  made : l.loads.items ≡ take l.child (loads (weigh_of g.V.Merge.terms) l.measure (parted (counts l.shares) l.stream) l.bins);
  len : vec_len l.loads ≤ l.child;
  room : length l.shares ≤ vec_capacity l.loads;
}
