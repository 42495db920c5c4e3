use Rattle.bt_shell.proofs.offered.Joins.{are_one_run}
use Rattle.bt_c.proofs.betable_run.Goals as goal

pub returns-in_default-clause-one_run : goal.returns-in_default-clause-one_run
returns-in_default-clause-one_run c = λ first before ends. are_one_run before first c.args.script.now ends

pub returns-in-Ok-clause-one_run : goal.returns-in-Ok-clause-one_run
returns-in-Ok-clause-one_run c = λ first before ends. are_one_run before first c.args.script.now ends

pub returns-in-Err-OutOfMemory-clause-one_run : goal.returns-in-Err-OutOfMemory-clause-one_run
returns-in-Err-OutOfMemory-clause-one_run c = λ first before ends. are_one_run before first c.args.script.now ends

pub returns-in-Err-Write-clause-one_run : goal.returns-in-Err-Write-clause-one_run
returns-in-Err-Write-clause-one_run c = λ first before ends. are_one_run before first c.args.script.now ends
