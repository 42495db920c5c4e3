use Rattle.std.proofs.Common.{length}
use Rattle.std.specs.Int.{div_ceil}
use Rattle.bt_gather.proofs.DealtTrees.{IsDealing}
use Rattle.bt_gather.proofs.new_leaves.deal_packet.Given as goal

-- the jobs so far, and the messages that are left
abbrev pub invariant-parts : goal.invariant-parts
invariant-parts g l = IsDealing g.V.Merge.terms l.fn.tree.0 l.fn.packet (div_ceil (length l.fn.packet) l.fn.tree.0.leaf) l.starts.items l.jobs.items l.stream l.leaves

abbrev pub decreases-parts : goal.decreases-parts
decreases-parts g l = l.leaves
