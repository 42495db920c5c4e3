use Rattle.std.proofs.Common.{◌∙◌, None, Some, ap, fold, sym, take}
use Rattle.std.proofs.lemmas.Result.{on_ok_weaker}
use Rattle.bt_form.specs.Flushes.{holds}
use Rattle.bt_form.specs.Messages.{between}
use Rattle.bt_fanout.specs.Effects.{row_effect}
use Rattle.bt_fanout.proofs.NextKeys.{from_next, none_left}
use Rattle.bt_fanout.proofs.step.read_next.Goals as goal

pub returns-in_ok-from-in-UpTo : goal.returns-in_ok-from-in-UpTo
returns-in_ok-from-in-UpTo g c =
    let next = from_next c.args.count c.args.cover.now (holds row_effect c.args.tree.now.1) c.in-UpTo.last c.in_ok-from-in-UpTo.from c.in-UpTo.is c.in_ok-from-in-UpTo.ensures in
    let root = ap (λ t. fold g.S.Visitor.visited c.args.visitor.now (take c.args.count (between (Some c.in_ok-from-in-UpTo.from) None (holds row_effect t)))) c.walk-in-UpTo.ensures.root in
    on_ok_weaker c.visit_first-in-UpTo.result (λ e. e ∙ root ∙ ap (fold g.S.Visitor.visited c.args.visitor.now) next) c.visit_first-in-UpTo.ensures

pub returns-in-Whole : goal.returns-in-Whole
returns-in-Whole g c = sym (ap (fold g.S.Visitor.visited c.args.visitor.now) (none_left c.args.count c.args.cover.now (holds row_effect c.args.tree.now.1) c.in-Whole.is))
