use Rattle.std.proofs.Common.{◌≡◌, ◌<◌, ◌≤◌, ◌++◌, ◌^◌, drop, length, map, take}
use Rattle.bt_messages.specs.Parts.{parted, total}
use Rattle.bt_messages.specs.Shares.{counts, share_of}
use Rattle.bt_message.specs.Weights.{weigh_of}
use Rattle.bt_message.specs.declared.measure.Measure.TheVariants as measures
use Rattle.bt_messages.proofs.stream_messages.StreamMessages.weighed_shares.Given as goal

abbrev pub invariant-loop-place : goal.invariant-loop-place
invariant-loop-place g l =
    let all = counts l.fn.shares.items in
    let share = share_of (weigh_of g.V.Merge.terms) measures.Bytes in
    record {
      done : take l.place l.shares.items ++ map share (parted (drop l.place all) l.left) ≡ map share (parted all l.fn.self);
      rest : drop l.place l.shares.items ≡ drop l.place l.fn.shares.items;
      len : length l.shares.items ≡ length l.fn.shares.items;
      enough : total (drop l.place all) ≤ length l.left;
      bound : length l.left < 2 ^ 63;
    }
