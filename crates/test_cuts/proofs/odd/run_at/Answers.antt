use Rattle.std.proofs.Common.{map, rules}
use Rattle.bt_message.specs.Meanings.{meaning_of}
use Rattle.bt_plan.specs.Views.{node_place}
use Rattle.test_cuts.proofs.Turning.{left-step, run-step}
use Rattle.test_cuts.proofs.odd.run_at.Goals as goal

pub loop-job-preserved-then-is_free : goal.loop-job-preserved-then-is_free
loop-job-preserved-then-is_free g c = record {
  run = run-step (meaning_of g.V.Merge.terms) c.args.shape c.args.jobs.items c.next.new.self.rest.items c.loop-job.job-iterator.rest.items c.in-Some.job (search rules) c.loop-job.pieces.items
      (map node_place c.loop-job.left.items) c.loop-job.invariant.run (search rules) c.in_ok-run_job.field-0 c.in_ok-run_job.ensures c.push.new.self.items (search rules);
  in_order = search rules;
}

pub loop-job-preserved : goal.loop-job-preserved
loop-job-preserved g c = record {
  run = left-step (meaning_of g.V.Merge.terms) c.args.shape c.args.jobs.items c.next.new.self.rest.items c.loop-job.job-iterator.rest.items c.in-Some.job (search rules) c.loop-job.pieces.items
      c.loop-job.left.items c.loop-job.invariant.run c.copy-place.result c.copy-place.ensures c.push-else-is_eq.new.self.items (search rules);
  in_order = search rules;
}
