use Rattle.std.proofs.Common.{◌∙◌, ap, sym, length, arith}
use Rattle.bt_gang.specs.declared.crew.TheConstants.{MOST_WORKERS}
use Rattle.bt_gang.proofs.Rules.{begins, pushes, learns}
use Rattle.bt_gang.proofs.Serving.{lists_length, never_full}
use Rattle.bt_gang.proofs.jobs.Jobs.new.Goals as goal

pub ruled-requires-clause-rule : goal.ruled-requires-clause-rule
ruled-requires-clause-rule g c = begins MOST_WORKERS

pub push_as-requires-clause-rule : goal.push_as-requires-clause-rule
push_as-requires-clause-rule g c =
    let i = c.loop-job.invariant in
    let all = lists_length MOST_WORKERS _ _ i.knows in
    (pushes MOST_WORKERS _ _ _ _ all (omega arith) (i.number ∙ sym (ap (λ v. length v.jobs) i.knows)), learns MOST_WORKERS _ _ (omega arith))

pub unreachable-requires-in-Err : goal.unreachable-requires-in-Err
unreachable-requires-in-Err g c =
    let i = c.loop-job.invariant in
    let full = never_full MOST_WORKERS _ c.loop-job.yielded _ i.knows c.in-Err.ensures.rule.2 in
    let places = c.in_ok-queue.ensures.0 in
    let more = c.in-Some.ensures.steps.1 in
    absurd (omega (arith, full, places, c.len.ensures, i.number, i.left, more))
