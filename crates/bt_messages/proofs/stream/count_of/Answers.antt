use Rattle.std.proofs.Common.{◌≡◌, ◌+◌, ◌<◌, ap, arith, length, suc, take}
use Rattle.bt_value.specs.Lists.{concatenation}
use Rattle.bt_messages.proofs.RunLists.{one_more_run, run_within}
use Rattle.bt_messages.proofs.stream.count_of.Goals as goal

pub loop-run-preserved : goal.loop-run-preserved
loop-run-preserved g c =
    let runs = c.args.runs.now.items in
    let within : c.loop-run.run < length runs = omega (arith, c.loop-run-test.true, c.requires.count) in
    let next : c.loop-run.run + 1 ≡ suc c.loop-run.run = omega arith in
    omega (
      arith,
      c.loop-run.invariant,
      c.count-messages.ensures.count,
      ap length c.index.ensures,
      one_more_run runs c.loop-run.run c.index.result.now within,
      ap (λ n. length (concatenation (take n runs))) next,
    )

pub overflow_add-messages : goal.overflow_add-messages
overflow_add-messages g c =
    let runs = c.args.runs.now.items in
    let within : c.loop-run.run < length runs = omega (arith, c.loop-run-test.true, c.requires.count) in
    omega (arith, c.loop-run.invariant, c.count-messages.ensures.count, ap length c.index.ensures, run_within runs c.loop-run.run c.index.result.now within, c.requires.bound)
