use Rattle.std.proofs.Common.{List, subst, take}
use Rattle.std.specs.Prelude.{IfSome}
use Rattle.bt_rowtype.specs.inside.PlainRows.{HasRead}
use Rattle.bt_row.specs.declared.rows.schema.Column.{Column}
use Rattle.bt_rowtype.proofs.PlainRows.{EncodesOp, upsert_read}
use Rattle.bt_rowtype.proofs.upsert.read_plain_upsert.Goals as goal

pub returns-in-Ok : goal.returns-in-Ok
returns-in-Ok c =
    let schema = c.args.schema.now in
    let text = c.args.text.now in
    let key = c.in-Some.key in
    let at = c.in-Some.at in
    let group = c.in-Some-plain_group in
    let op = c.in-Ok.op in
    let read_columns = subst (λ found. IfSome found (λ read. HasRead c.key_columns.result.now text read.0 read.1)) c.in-Some.is c.in_ok-key.ensures in
    let read : HasRead (take schema.keys schema.columns) text key at = subst (λ (columns : List Column). HasRead columns text key at) c.key_columns.ensures.value read_columns in
    let op_read : EncodesOp schema c.args.item text at op = record {
      word = group.word.now;
      name = group.name.now;
      argument = group.argument.now;
      fields = group.ensures.fields;
      plain = group.ensures.plain;
      read = c.in-Ok.ensures.answer;
    } in
    upsert_read c.key_columns.ensures.within read op_read c.requires
