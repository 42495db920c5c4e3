use Rattle.std.proofs.Common.{◌<◌, ◌++◌, ◌∙◌, ap, arith, length, rules, subst, sym}
use Rattle.bt_value.specs.Lists.{concatenation}
use Rattle.bt_messages.specs.inside.Runs.{AreSome}
use Rattle.bt_messages.proofs.RunLists.{concatenation-push, some-push}
use Rattle.bt_messages.proofs.message_runs.add_run.Goals as goal

pub returns-clause-concatenation : goal.returns-clause-concatenation
returns-clause-concatenation g c =
    let runs = c.args.runs.now.items in
    ap concatenation c.in_ok-push.ensures.items ∙ concatenation-push runs c.from_sorted.result ∙ ap (λ ms. concatenation runs ++ ms) c.from_sorted.ensures

pub returns-clause-some : goal.returns-clause-some
returns-clause-some g c =
    let some : 0 < length c.args.run.items = search rules in
    subst AreSome (sym c.in_ok-push.ensures.items) (some-push c.args.runs.now.items c.from_sorted.result c.requires.some (omega (arith, some, ap length c.from_sorted.ensures)))
