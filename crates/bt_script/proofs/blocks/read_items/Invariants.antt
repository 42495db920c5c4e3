use Rattle.std.proofs.Common.{length, ◌-◌, ◌≡◌, codes}
use Rattle.bt_script.proofs.Machine.{HasRead}
use Rattle.bt_script.specs.Commands.{items_of}
use Rattle.bt_script.proofs.blocks.read_items.Given as goal

-- the messages are those of the lines so far
abbrev pub invariant-loop-at : goal.invariant-loop-at
invariant-loop-at l = HasRead l.script l.start l.at (codes "end") (λ block. l.items ≡ items_of block)

abbrev pub decreases-loop-at : goal.decreases-loop-at
decreases-loop-at l = length l.script - l.at
