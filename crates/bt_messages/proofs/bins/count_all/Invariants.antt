use Rattle.std.proofs.Common.{◌≡◌, ◌+◌, ◌*◌, ◌≤◌, drop}
use Rattle.bt_messages.proofs.Totals.{held}
use Rattle.bt_messages.proofs.bins.count_all.Given as goal

abbrev pub invariant-loop-buffer : goal.invariant-loop-buffer
invariant-loop-buffer g l = record {
  sum : l.count + held (drop l.buffer-index l.buffers) ≡ held l.buffers;
  bound : l.count ≤ l.buffer-index * 18446744073709551615;
}
