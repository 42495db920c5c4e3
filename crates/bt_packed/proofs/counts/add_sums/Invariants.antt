use Rattle.std.proofs.Common.{◌≡◌, ◌++◌, drop}
use Rattle.bt_packed.specs.Calls.{sums_bytes}
use Rattle.bt_packed.proofs.counts.add_sums.Given as goal

-- the bytes so far come before those of the groups from here on
abbrev pub invariant-loop-sum : goal.invariant-loop-sum
invariant-loop-sum l = l.fn.out.items ++ sums_bytes l.sums ≡ l.out.items ++ sums_bytes (drop l.sum-index l.sums)
