use Rattle.std.proofs.Common.{◌≡◌, drop}
use Rattle.bt_load.proofs.lines.skip.Given as goal

abbrev pub invariant-loop : goal.invariant-loop
invariant-loop l = l.records ≡ drop l.counter l.fn.records
