use Rattle.std.proofs.Common.{◌≤◌, ◌∙◌, Some, ap, length, slice_get, subst, sym}
use Rattle.bt_row.proofs.Walks.{no_value_there, value_there}
use Rattle.bt_row.proofs.rows.row.Row.find.Goals as goal

pub first_at-requires-clause-within : goal.first_at-requires-clause-within
first_at-requires-clause-within c = (value_there _ _ _ c.offset-at.ensures c.if-at-bytes.true).within

pub returns-then-at-bytes : goal.returns-then-at-bytes
returns-then-at-bytes c =
    let here = value_there c.as_bytes-bytes.result.now c.args.place c.offset-at.result c.offset-at.ensures c.if-at-bytes.true in
    sym (ap (λ z. slice_get z c.args.place) c.as_bytes-bytes.ensures.values) ∙ here.value ∙ ap Some (sym c.first_at.ensures)

pub returns-else-at-bytes : goal.returns-else-at-bytes
returns-else-at-bytes c =
    let all = no_value_there c.as_bytes-bytes.result.now c.args.place c.offset-at.result c.offset-at.ensures c.if-at-bytes.false in
    subst (λ z. length z ≤ c.args.place) c.as_bytes-bytes.ensures.values all
