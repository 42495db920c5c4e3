use Rattle.std.proofs.Common.{◌∙◌, [], ap, fold, sym}
use Rattle.std.proofs.lemmas.Result.{IfOk-weaker}
use Rattle.bt_form.specs.Flushes.{holds}
use Rattle.bt_form.specs.Messages.{between}
use Rattle.bt_fanout.specs.Effects.{row_effect}
use Rattle.bt_fanout.specs.inside.Portions.{Puts, puts_after_row}
use Rattle.bt_fanout.specs.inside.Readings.{rows_between}
use Rattle.bt_fanout.proofs.NextKeys.{rows_between-are}
use Rattle.bt_fanout.proofs.RowsBetween.{none_added}
use Rattle.bt_fanout.proofs.puts.portion_puts.Goals as goal

pub returns-then-adds_nothing : goal.returns-then-adds_nothing
returns-then-adds_nothing g c =
    let nothing = sym c.adds_nothing.ensures ∙ c.if-adds_nothing.true in
    c.new-puts.ensures ∙ ap (fold puts_after_row (c.args.def.now, [])) (sym (none_added c.args.earlier.now c.args.later.now (holds row_effect c.args.tree.now.1) nothing))

pub returns : goal.returns
returns g c =
    let rows = holds row_effect c.args.tree.now.1 in
    let from = c.as_ref.ensures.value ∙ c.in_ok-from.ensures in
    let to = c.as_ref-2.ensures.value ∙ c.in_ok-to.ensures in
    let more = sym c.adds_nothing.ensures ∙ c.if-adds_nothing.false in
    let range = (λ i. between (from i) (to i) rows) ∙ rows_between-are c.args.earlier.now c.args.later.now rows more in
    IfOk-weaker c.read.result _ _
    (λ puts e. e ∙ ap (fold puts_after_row c.new-puts.result) range
    ∙ ap (λ (p : Puts). fold puts_after_row p (rows_between c.args.earlier.now c.args.later.now rows)) c.new-puts.ensures) c.read.ensures
