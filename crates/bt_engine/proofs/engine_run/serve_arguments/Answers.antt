use Rattle.std.proofs.Common.{rules, ◌≡◌, ◌⊎◌, IsErrOf, subst, true}
use Rattle.bt_script.specs.Streams.{has_failed, source_of}
use Rattle.bt_script.specs.declared.streams.RunFault.TheVariants.{Read}
use Rattle.bt_shell.specs.declared.program_run.ProgramFault.TheVariants.{Run}
use Rattle.bt_frame.specs.Services.{HasTooMany}
use Rattle.bt_engine.specs.Options.{most_given}
use Rattle.bt_engine.proofs.Runs.{nothing_replied, nothing_written}
use Rattle.bt_engine.proofs.engine_run.serve_arguments.Goals as goal

-- the arguments are not read because memory runs out, and nothing is written
pub returns-in-Err-OutOfMemory-clause-err : goal.returns-in-Err-OutOfMemory-clause-err
returns-in-Err-OutOfMemory-clause-err g c = λ _. nothing_written g.W.Write.contents (most_given c.args.arguments.now) (g.I.Read.remaining (source_of c.args.input.now)) c.args.output.now

pub returns-in-Err-OutOfMemory-clause-whole : goal.returns-in-Err-OutOfMemory-clause-whole
returns-in-Err-OutOfMemory-clause-whole g c = λ _ _. nothing_replied g.W.Write.contents (most_given c.args.arguments.now) (g.I.Read.remaining (source_of c.args.input.now)) c.args.output.now

-- the limit is that of the arguments
pub returns-in_err-serve_by_crew-in-Ok-clause-read : goal.returns-in_err-serve_by_crew-in-Ok-clause-read
returns-in_err-serve_by_crew-in-Ok-clause-read g c =
    let known = g.I.Read.remaining (source_of c.args.input.now) in
    subst (λ most. IsErrOf c.from_residual.result (Run Read) → (has_failed c.serve_by_crew.new.input ≡ true) ⊎ HasTooMany most known) c.in-Ok.ensures.most (search rules)
