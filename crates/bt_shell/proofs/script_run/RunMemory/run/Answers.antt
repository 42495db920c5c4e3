use Rattle.bt_script.specs.Streams.{source_of}
use Rattle.bt_shell.proofs.Turns.{nothing_replied, nothing_written, on_err}
use Rattle.bt_shell.proofs.script_run.RunMemory.run.Goals as goal

-- the script is not read whole, and nothing is written
pub returns-in_err-self-clause-err : goal.returns-in_err-self-clause-err
returns-in_err-self-clause-err g c =
    on_err c.from_residual.result _ (nothing_written g.W.Write.contents c.args.writer.now (g.R.Read.remaining (source_of c.args.reader.now)))

pub returns-in_err-self-clause-replies : goal.returns-in_err-self-clause-replies
returns-in_err-self-clause-replies g c = λ _. nothing_replied g.W.Write.contents c.args.writer.now (g.R.Read.remaining (source_of c.args.reader.now))
