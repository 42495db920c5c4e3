use Rattle.std.proofs.Common.{◌≡◌, length}
use Rattle.std.specs.Option.{option_copied}
use Rattle.std.specs.declared.option.Option.TheVariants.{None}
use Rattle.bt_gather.specs.inside.NewLeaves.{are_new_rows}
use Rattle.bt_gather.proofs.new_leaves.are_new_rows.Given as goal

-- the result depends on the messages that are left
abbrev pub invariant-loop-key : goal.invariant-loop-key
invariant-loop-key g l = are_new_rows None l.packet ≡ are_new_rows (option_copied l.last) l.messages

abbrev pub decreases-loop-key : goal.decreases-loop-key
decreases-loop-key g l = length l.messages
