use Rattle.std.proofs.Common.{subst, sym}
use Rattle.std.proofs.lemmas.Result.{IfOk-weaker}
use Rattle.bt_show.specs.Ranges.{GoesOn}
use Rattle.bt_show.proofs.NextPages.{goes_on}
use Rattle.bt_show.proofs.range.KeyRange.after.Goals as goal

pub returns-clause-goes_on : goal.returns-clause-goes_on
returns-clause-goes_on c =
    let follows = goes_on c.args.self.now c.args.key.now in
    IfOk-weaker c.rest_after.result _ _ (λ next is. subst (GoesOn c.args.self.now c.args.key.now) (sym is) follows) c.rest_after.ensures
