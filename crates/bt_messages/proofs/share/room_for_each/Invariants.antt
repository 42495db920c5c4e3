use Rattle.std.proofs.Common.{◌≡◌, ◌≤◌, length, take, vec_capacity}
use Rattle.bt_messages.specs.Shares.{counts}
use Rattle.bt_messages.specs.inside.Rooms.{HaveRoom}
use Rattle.bt_messages.proofs.share.room_for_each.Given as goal

abbrev pub invariant-loop-place : goal.invariant-loop-place
invariant-loop-place g l = record {
  room : HaveRoom (take l.place (counts l.shares)) l.buffers l.rooms.items;
  len : length l.rooms.items ≡ l.place;
  capacity : length l.shares ≤ vec_capacity l.rooms;
}
