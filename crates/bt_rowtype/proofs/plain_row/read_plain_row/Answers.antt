use Rattle.std.proofs.Common.{subst}
use Rattle.std.specs.Prelude.{IfSome}
use Rattle.bt_rowtype.specs.inside.PlainRows.{HasRead}
use Rattle.bt_rowtype.proofs.PlainRows.{row_read}
use Rattle.bt_rowtype.proofs.plain_row.read_plain_row.Goals as goal

pub returns : goal.returns
returns c =
    let columns = c.args.columns.now in
    let text = c.args.text.now in
    row_read columns text c.in-Some.row c.in-Some.at (subst (λ found. IfSome found (λ read. HasRead columns text read.0 read.1)) c.in-Some.is c.in_ok-row.ensures) c.if-at-text.false c.requires
