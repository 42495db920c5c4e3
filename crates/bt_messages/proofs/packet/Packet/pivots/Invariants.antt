use Rattle.std.proofs.Common.{◌+◌, ◌-◌, ◌≤◌, length}
use Rattle.bt_messages.proofs.packet.Packet.pivots.Given as goal

abbrev pub invariant-loop : goal.invariant-loop
invariant-loop g l = record {
  so_far : length l.keys.items + 1 ≤ l.counter;
  few : length l.keys.items ≤ l.parts - 1;
}
