use Rattle.std.proofs.Common.{◌∙◌, ap, subst, sym, take}
use Rattle.bt_row.specs.inside.Packing.{IsPacked, unpacked}
use Rattle.bt_row.proofs.Fronts.{copied}
use Rattle.bt_row.proofs.Walks.{are_first, are_first_packed}
use Rattle.bt_row.proofs.rows.row.Row.first.Goals as goal

pub invariant_of-result : goal.invariant_of-result
invariant_of-result c =
    let same = copied _ _ _ _ c.in_ok-push.ensures.ok c.in_ok-first.ensures c.front.ensures in
    subst IsPacked (sym same) (are_first_packed _ _ _ c.as_bytes-bytes.ensures.packed c.offset-end.ensures)

pub returns : goal.returns
returns c =
    let same = copied _ _ _ _ c.in_ok-push.ensures.ok c.in_ok-first.ensures c.front.ensures in
    ap unpacked same ∙ are_first _ _ _ c.as_bytes-bytes.ensures.packed c.offset-end.ensures ∙ ap (take c.args.count) c.as_bytes-bytes.ensures.values
