use Rattle.std.proofs.Common.{slice_get, Some, sym, ap, ◌∙◌}
use Rattle.bt_row.proofs.Walks.{has_value}
use Rattle.bt_row.proofs.rows.row.Row.get.Goals as goal

pub first_at-requires-clause-some : goal.first_at-requires-clause-some
first_at-requires-clause-some c = (has_value _ _ _ c.offset-at.ensures (rw c.as_bytes-bytes.ensures.values c.requires)).some

pub first_at-requires-clause-left : goal.first_at-requires-clause-left
first_at-requires-clause-left c = (has_value _ _ _ c.offset-at.ensures (rw c.as_bytes-bytes.ensures.values c.requires)).left

pub first_at-requires-clause-within : goal.first_at-requires-clause-within
first_at-requires-clause-within c = (has_value _ _ _ c.offset-at.ensures (rw c.as_bytes-bytes.ensures.values c.requires)).within

pub returns-clause-value : goal.returns-clause-value
returns-clause-value c =
    let values = c.as_bytes-bytes.ensures.values in
    let here = has_value c.as_bytes-bytes.result.now c.args.place c.offset-at.result c.offset-at.ensures (rw values c.requires) in
    sym (ap (λ z. slice_get z c.args.place) values) ∙ here.value ∙ ap Some (sym c.first_at.ensures)

pub returns-clause-in_range : goal.returns-clause-in_range
returns-clause-in_range c = rw c.first_at.ensures (has_value _ _ _ c.offset-at.ensures (rw c.as_bytes-bytes.ensures.values c.requires)).in_range
