use Rattle.std.proofs.Common.{◌∙◌, ap, fold}
use Rattle.std.proofs.lemmas.Result.{on_ok_weaker}
use Rattle.bt_message.specs.Effects.{effect_of}
use Rattle.bt_form.specs.Portions.{rows_of}
use Rattle.bt_read.specs.inside.Limits.{limited}
use Rattle.bt_read.proofs.lemmas.code.RowsLimited.{first_rows_shown}
use Rattle.bt_read.proofs.visits.visit_between.Goals as goal

pub returns : goal.returns
returns g c =
    let visited = g.S.Visitor.visited in
    on_ok_weaker c.visit_portion.result
    (λ shown.
    first_rows_shown visited c.args.visitor.now c.visit_portion.new.visitor c.args.limit c.visit_portion.new.limit _
    (shown ∙ ap (λ p. fold (limited visited) (c.args.visitor.now, c.args.limit) (rows_of (effect_of g.V.Merge.terms.merged) p)) c.whole-whole.ensures))
    c.visit_portion.ensures
