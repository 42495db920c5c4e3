use Rattle.crossbeam_queue.specs.Passes.{view, IsPassOf}
use Rattle.bt_gang.specs.Answers.{Gains}
use Rattle.bt_gang.proofs.worker_loop.serve.Given as goal

abbrev pub invariant-loop : goal.invariant-loop
invariant-loop g l = record {
  pass : IsPassOf l.jobs.queue l.pass;
  gains : Gains (g.W.Work.allows l.work) (view l.fn.pass) (view l.pass) l.fn.out l.out;
}
