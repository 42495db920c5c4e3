use Rattle.std.proofs.Common.{◌≡◌, ◌∙◌, Err, Some, ap, refl}
use Rattle.bt_row.specs.Schemas.{is_schema}
use Rattle.bt_value.specs.declared.refusal.Refusal.TheVariants.{TableExists}
use Rattle.bt_script.specs.declared.command.TableForm.{TableForm}
use Rattle.bt_script.specs.declared.command.Command.TheVariants.{Table}
use Rattle.bt_table.specs.Tables.{TableState}
use Rattle.bt_shell.specs.Steps.{is_allowed, outcome, shape_of}
use Rattle.bt_shell.proofs.Refusals.{exists_first}
use Rattle.bt_shell.proofs.turn.reply_of_table.Goals as goal

stands : (state : TableState) (form : TableForm) → outcome (Some state) (Table form) ≡ Err TableExists
stands state form = exists_first (is_schema form.columns form.keys) (is_allowed (shape_of form.fanout form.buffer form.leaf)) _

pub returns-in-Table-clause-done : goal.returns-in-Table-clause-done
returns-in-Table-clause-done g c = λ _. (ap (outcome (Some c.args.table.now)) c.in-Table.is ∙ stands c.args.table.now c.in-Table._form, refl)
