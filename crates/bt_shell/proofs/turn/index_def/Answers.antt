use Rattle.std.proofs.Common.{rules, ◌≡◌, Ok, Err, IfOk, subst}
use Rattle.std.specs.Option.{option_copied}
use Rattle.bt_value.specs.Answers.{Answers}
use Rattle.bt_value.proofs.offered.Exits.{answers_on_err}
use Rattle.bt_fanout.specs.Definitions.{definition_as, kinds_of}
use Rattle.bt_fanout.specs.Entries.{SuitsKinds}
use Rattle.bt_table.specs.Standing.{HasSchema}
use Rattle.bt_shell.proofs.Definitions.{as_itself, defined, second_read, suits_table}
use Rattle.bt_shell.proofs.turn.index_def.Goals as goal

pub returns-in_err-def-clause-answer : goal.returns-in_err-def-clause-answer
returns-in_err-def-clause-answer c =
    let schema = c.in_ok-schema.schema.now in
    let form = c.args.form.now in
    let refusal = c.in_err-def.field-0.0 in
    let filter : option_copied c.as_ref.result ≡ form.filter = search rules in
    let made = subst (λ f. Answers (definition_as schema form.on form.include f) c.new-def.result) filter c.new-def.ensures.answer in
    answers_on_err _ c.from_residual-in_err-def.result refusal c.from_residual-in_err-def.ensures.1
    (defined c.args.table.now schema form c.check_index-free.result c.new-def.result (Err refusal) c.in_ok-schema.ensures.schema
    c.check_index-free.ensures.free c.check_index-free.ensures.refused made c.in_err-def.ensures.answer)

pub returns-clause-answer : goal.returns-clause-answer
returns-clause-answer c =
    let schema = c.in_ok-schema.schema.now in
    let form = c.args.form.now in
    let filter : option_copied c.as_ref.result ≡ form.filter = search rules in
    let made = subst (λ f. Answers (definition_as schema form.on form.include f) c.new-def.result) filter c.new-def.ensures.answer in
    defined c.args.table.now schema form c.check_index-free.result c.new-def.result (Ok (c.in_ok-def.field-0-0, c.in_ok-def.def)) c.in_ok-schema.ensures.schema
    c.check_index-free.ensures.free c.check_index-free.ensures.refused made c.in_ok-def.ensures.answer

pub returns-clause-suits : goal.returns-clause-suits
returns-clause-suits c =
    let schema = c.in_ok-schema.schema.now in
    let def = c.in_ok-def.def in
    let free = c.check_index-free.result in
    let made = second_read free c.new-def.result (c.in_ok-def.field-0-0, def) (c.in_ok-def.ensures.answer free c.new-def.result (as_itself free) (as_itself c.new-def.result)) in
    suits_table c.args.table.now schema def c.in_ok-schema.ensures.schema
    (subst (λ r. IfOk r (λ def. SuitsKinds def (kinds_of schema.columns))) made c.new-def.ensures.suits) (subst (λ r. IfOk r (λ def. def.keys ≡ schema.keys)) made c.new-def.ensures.keys)
