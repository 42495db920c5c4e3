use Rattle.std.proofs.Common.{None}
use Rattle.std.proofs.lemmas.Result.{err_from_is_err_and}
use Rattle.bt_script.specs.Streams.{source_of}
use Rattle.bt_shell.proofs.Turns.{on_err, prefix-kept, replies-kept, written-prefix}
use Rattle.bt_shell.proofs.program_run.run_and_flush.Goals as goal

-- the run ended early
pub returns-in_err-ended-clause-err : goal.returns-in_err-ended-clause-err
returns-in_err-ended-clause-err g c =
    let held = g.W.Write.contents in
    let flushed = c.flush_output-flushed.ensures in
    let old = c.args.output.now in
    let mid = c.run_arguments-ended.new.output in
    let new = c.flush_output-flushed.new.writer in
    let wrote = c.in_err-ended.ensures.err in
    on_err c.from_residual.result _ (
      λ to_read. prefix-kept held (g.I.Read.remaining (source_of c.args.input.now)) old mid new flushed.bytes flushed.count (wrote.0 to_read),
      λ to_run. prefix-kept held None old mid new flushed.bytes flushed.count (wrote.1 to_run),
    )

pub returns-in_err-ended-clause-replies : goal.returns-in_err-ended-clause-replies
returns-in_err-ended-clause-replies g c =
    let held = g.W.Write.contents in
    let flushed = c.flush_output-flushed.ensures in
    let old = c.args.output.now in
    let mid = c.run_arguments-ended.new.output in
    let new = c.flush_output-flushed.new.writer in
    let p = err_from_is_err_and c.from_residual.result c.from_residual.ensures.1 in
    rw (p.1, p.2) (λ memory. (
      λ to_read. replies-kept held (g.I.Read.remaining (source_of c.args.input.now)) old mid new flushed.bytes flushed.count ((c.in_err-ended.ensures.replies memory).0 to_read),
      λ to_run. replies-kept held None old mid new flushed.bytes flushed.count ((c.in_err-ended.ensures.replies memory).1 to_run),
    ))

-- the run ended well, and the flush failed
pub returns-in_err-flushed-clause-err : goal.returns-in_err-flushed-clause-err
returns-in_err-flushed-clause-err g c =
    let held = g.W.Write.contents in
    let flushed = c.flush_output-flushed.ensures in
    let input = g.I.Read.remaining (source_of c.args.input.now) in
    let old = c.args.output.now in
    let mid = c.run_arguments-ended.new.output in
    let new = c.flush_output-flushed.new.writer in
    let wrote = c.in_ok-ended.ensures.ok in
    on_err c.from_residual-in_err-flushed.result _ (
      λ to_read. prefix-kept held input old mid new flushed.bytes flushed.count (written-prefix held input old mid (wrote.0 to_read)),
      λ to_run. prefix-kept held None old mid new flushed.bytes flushed.count (written-prefix held None old mid (wrote.1 to_run)),
    )
