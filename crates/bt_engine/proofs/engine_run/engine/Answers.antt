use Rattle.std.proofs.Common.{◌∙◌, sym}
use Rattle.bt_script.specs.Streams.{source_of}
use Rattle.bt_engine.specs.Options.{most_given}
use Rattle.bt_engine.proofs.Runs.{ends_by, has_status, written_prefix}
use Rattle.bt_engine.proofs.engine_run.engine.Goals as goal

pub returns-in-Ok-clause-prefix : goal.returns-in-Ok-clause-prefix
returns-in-Ok-clause-prefix g c = λ serves.
    written_prefix g.W.Write.contents (most_given c.args.arguments.now) (g.I.Read.remaining (source_of c.args.input.now)) c.args.output.now c.serve_arguments.new.output
    (c.in-Ok.ensures.ok serves)

pub returns-in-Err-clause-ok : goal.returns-in-Err-clause-ok
returns-in-Err-clause-ok g c = λ none. absurd (has_status c.in-Err.fault (sym c.report.ensures.status ∙ none))

pub returns-in-Err-clause-cause : goal.returns-in-Err-clause-cause
returns-in-Err-clause-cause g c =
    let cause = c.in-Err.ensures in
    λ _. (
      c.in-Err.fault,
      c.report.ensures.status,
      ends_by g.I.Read.remaining g.W.Write.contents c.args.arguments.now c.args.input.now c.serve_arguments.new.input c.args.output.now c.serve_arguments.new.output c.in-Err.fault
          cause.faulty cause.script cause.read cause.whole_before_read cause.write cause.memory cause.whole,
      c.report.ensures.line,
    )
