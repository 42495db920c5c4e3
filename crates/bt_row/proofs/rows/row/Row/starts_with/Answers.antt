use Rattle.std.proofs.Common.{◌==◌, ◌∙◌, ap, take}
use Rattle.std.specs.Cmp.Lexicographic.{pointwise}
use Rattle.bt_value.specs.Values.{same_values}
use Rattle.bt_row.specs.inside.Packing.{unpacked}
use Rattle.bt_row.proofs.Fronts.{same_front}
use Rattle.bt_row.proofs.rows.row.Row.starts_with.Goals as goal

pub returns : goal.returns
returns c =
    let bytes = c.as_bytes-bytes.result.now in
    c.eq.ensures
    ∙ ap (λ z. pointwise ◌==◌ z c.as_bytes.result.now) c.front.ensures
    ∙ same_front bytes c.as_bytes.result.now c.args.count c.offset.result c.as_bytes-bytes.ensures.packed c.as_bytes.ensures.packed c.offset.ensures
    ∙ ap (λ z. same_values z (take c.args.count (unpacked bytes))) c.as_bytes.ensures.values
    ∙ ap (λ z. same_values c.args.first.now (take c.args.count z)) c.as_bytes-bytes.ensures.values
