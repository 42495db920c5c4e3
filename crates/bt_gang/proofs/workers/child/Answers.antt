use Rattle.std.proofs.Common.{ap, ◌∙◌}
use denote.Param.Send.{sendable}
use Rattle.bt_gang.proofs.workers.child.Goals as goal

pub spawn_scoped_with-requires-clause-runs : goal.spawn_scoped_with-requires-clause-runs
spawn_scoped_with-requires-clause-runs g c κs within = (
  (c.requires.worker, c.requires.accepts),
  (
    search sendable depth 20,
    search sendable depth 20,
    search sendable depth 20,
    search sendable depth 20,
    search
        sendable depth 20,
    search sendable depth 20,
  ),
)

pub returns-in-Ok : goal.returns-in-Ok
returns-in-Ok g c =
    let p = c.in-Ok.ensures.ok in
    record {
      work_is = ap (λ p. p.work.value) p ∙ c.of.ensures;
      jobs_is = ap (λ p. p.jobs.value) p ∙ c.of-2.ensures;
      all_is = ap (λ p. p.all.value.value.items) p ∙ ap (λ a. a.value.items) c.of-3.ensures;
      number_is = ap (λ p. p.number) p;
    }
