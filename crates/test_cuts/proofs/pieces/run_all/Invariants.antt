use Rattle.std.proofs.Common.{◌≡◌, ◌++◌, map}
use Rattle.bt_gather.specs.Views.{pieces_of}
use Rattle.bt_message.specs.Meanings.{meaning_of}
use Rattle.bt_plan.specs.Cuts.{outcomes}
use Rattle.bt_plan.specs.Views.{job_of}
use Rattle.test_cuts.specs.Turns.{AreInOrder}
use Rattle.test_cuts.proofs.pieces.run_all.Given as goal

-- the results of the jobs so far, followed by those of the jobs that are left
abbrev pub invariant-loop-job : goal.invariant-loop-job
invariant-loop-job g l = record {
  done : pieces_of l.pieces.items ++ outcomes (meaning_of g.V.Merge.terms) l.shape (map job_of l.job-iterator.rest.items)
      ≡ outcomes (meaning_of g.V.Merge.terms) l.fn.shape (map job_of l.fn.jobs.items);
  in_order : AreInOrder l.job-iterator.rest.items;
}
