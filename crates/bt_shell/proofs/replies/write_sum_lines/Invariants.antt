use Rattle.std.proofs.Common.{◌≡◌, ◌++◌, drop}
use Rattle.std.specs.Prelude.{flat_map}
use Rattle.bt_shell.specs.Replies.{sum_line}
use Rattle.bt_shell.proofs.replies.write_sum_lines.Given as goal

-- the lines so far, followed by those of the groups that are left
abbrev pub invariant-loop-sum : goal.invariant-loop-sum
invariant-loop-sum l = l.out.items ++ flat_map sum_line (drop l.sum-index l.sums) ≡ l.fn.out.items ++ flat_map sum_line l.sums
