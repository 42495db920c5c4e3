use Rattle.std.proofs.Common.{None}
use Rattle.bt_script.specs.Streams.{source_of}
use Rattle.bt_shell.proofs.Turns.{nothing_replied, nothing_written}
use Rattle.bt_shell.proofs.program_run.run_arguments.Goals as goal

-- the arguments are not read because memory runs out, and nothing is written
pub returns-in-Err-OutOfMemory-clause-err : goal.returns-in-Err-OutOfMemory-clause-err
returns-in-Err-OutOfMemory-clause-err g c =
    let held = g.W.Write.contents in
    (λ _. nothing_written held c.args.output.now (g.I.Read.remaining (source_of c.args.input.now)), λ _. nothing_written held c.args.output.now None)

pub returns-in-Err-OutOfMemory-clause-replies : goal.returns-in-Err-OutOfMemory-clause-replies
returns-in-Err-OutOfMemory-clause-replies g c =
    let held = g.W.Write.contents in
    λ _. (λ _. nothing_replied held c.args.output.now (g.I.Read.remaining (source_of c.args.input.now)), λ _. nothing_replied held c.args.output.now None)
