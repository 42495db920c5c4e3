use Rattle.std.proofs.Common.{map}
use Rattle.bt_gather.specs.Views.{pieces_of}
use Rattle.bt_message.specs.Meanings.{meaning_of}
use Rattle.bt_plan.specs.Views.{node_place}
use Rattle.test_cuts.specs.Turns.{AreInOrder, AreRunBefore}
use Rattle.test_cuts.proofs.odd.run_at.Given as goal

-- the results of the jobs so far
abbrev pub invariant-loop-job : goal.invariant-loop-job
invariant-loop-job g l = record {
  run : AreRunBefore (meaning_of g.V.Merge.terms) l.shape l.fn.jobs.items l.job-iterator.rest.items (pieces_of l.pieces.items) (map node_place l.left.items);
  in_order : AreInOrder l.job-iterator.rest.items;
}
