use Rattle.std.proofs.Common.{◌≡◌, ◌++◌, drop, length, take}
use Rattle.bt_messages.specs.Bins.{each_with}
use Rattle.bt_messages.specs.Parts.{parted, total}
use Rattle.bt_messages.specs.Shares.{AreShares, counts}
use Rattle.bt_message.specs.Weights.{weigh_of}
use Rattle.bt_messages.specs.inside.Rooms.{HaveRoom}
use Rattle.bt_messages.proofs.share.move_each.Given as goal

abbrev pub invariant-loop-place : goal.invariant-loop-place
invariant-loop-place g l = record {
  moved : take l.place l.buffers.items ++ each_with (parted (drop l.place (counts l.shares)) l.stream) (drop l.place l.buffers.items)
      ≡ each_with (parted (counts l.shares) l.fn.stream) l.fn.buffers.items;
  len : length l.shares ≡ length l.buffers.items;
  rooms_len : length l.rooms.items ≡ length l.shares;
  room : HaveRoom (drop l.place (counts l.shares)) (drop l.place l.buffers.items) (drop l.place l.rooms.items);
  left : drop (total (drop l.place (counts l.shares))) l.stream ≡ drop (total (counts l.shares)) l.fn.stream;
  shares : AreShares (weigh_of g.V.Merge.terms) l.stream (drop l.place l.shares);
}
