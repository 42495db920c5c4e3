use Rattle.std.proofs.Common.{◌∙◌, Ok, ap, subst, sym}
use Rattle.bt_load.specs.inside.Typed.{HaveValues, IsReadingOf}
use Rattle.bt_load.proofs.Typed.{all_finish, all_rows}
use Rattle.bt_load.proofs.read.rows_of_lines.Goals as goal

pub returns-then-all_have_values : goal.returns-then-all_have_values
returns-then-all_have_values g c =
    let read = c.in_ok-rows.ensures in
    let rows = c.in_ok-rows.rows.items in
    let some : HaveValues rows = subst HaveValues c.as_slice.ensures.value (c.all_have_values.ensures c.if-all_have_values.true) in
    all_rows c.args.schema.now.columns c.args.lines.now rows read.long read.typed some

pub returns-in-Ok : goal.returns-in-Ok
returns-in-Ok g c =
    let read = subst (λ lines. IsReadingOf c.args.schema.now.columns 1 lines c.in_ok-reading.reading) c.as_slice-2.ensures c.in_ok-reading.ensures in
    all_finish c.args.schema.now.columns c.args.lines.now _ _ read.values read.refusal ∙ sym c.in-Ok.ensures ∙ ap Ok (sym c.into_vec.ensures)

pub returns : goal.returns
returns g c =
    let read = subst (λ lines. IsReadingOf c.args.schema.now.columns 1 lines c.in_ok-reading.reading) c.as_slice-2.ensures c.in_ok-reading.ensures in
    λ other. all_finish c.args.schema.now.columns c.args.lines.now _ _ read.values read.refusal ∙ sym c.in-Err.ensures
