use Rattle.bt_fault.proofs.ExplainedCommands.{command_explained}
use Rattle.bt_fault.proofs.command.command_reason.Goals as goal

-- src/command.rt:63:1
pub returns-clause-refused : goal.returns-clause-refused
returns-clause-refused c = command_explained c.args.table.now c.args.command.now c.reason_of.result c.reason_of.ensures.reason c.reason_of.ensures.few
