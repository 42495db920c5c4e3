use Rattle.std.proofs.Common.{subst, sym}
use Rattle.std.proofs.lemmas.Result.{IfOk-weaker}
use Rattle.bt_show.specs.Ranges.{GoesOnBefore}
use Rattle.bt_show.proofs.EarlierPages.{goes_on_before}
use Rattle.bt_show.proofs.range.KeyRange.before.Goals as goal

pub returns-clause-goes_on : goal.returns-clause-goes_on
returns-clause-goes_on c =
    let follows = goes_on_before c.args.self.now c.args.key.now in
    IfOk-weaker c.rest_before.result _ _ (λ next is. subst (GoesOnBefore c.args.self.now c.args.key.now) (sym is) follows) c.rest_before.ensures
