use Rattle.std.proofs.Common.{◌∙◌, ap}
use Rattle.bt_message.specs.Effects.{effect_of}
use Rattle.bt_form.specs.Portions.{rows_of}
use Rattle.bt_read.proofs.lemmas.code.RowsShown.{copied_all}
use Rattle.bt_read.proofs.portions.Portion.rows.Goals as goal

pub returns : goal.returns
returns g c =
    let effect = effect_of g.V.Merge.terms.merged in
    c.into_rows.ensures ∙ c.in_ok-visit.ensures ∙ copied_all c.new-copies.result (rows_of effect c.in_ok-again.field-0) c.new-copies.ensures ∙ ap (rows_of effect) c.in_ok-again.ensures
