use Rattle.std.proofs.Common.{◌++◌, ◌∙◌, ap, subst, sym}
use Rattle.bt_value.specs.Lists.{concatenation}
use Rattle.bt_messages.specs.inside.Runs.{AreSome}
use Rattle.bt_messages.proofs.message_runs.one_run.Goals as goal

pub add_run-requires-clause-some : goal.add_run-requires-clause-some
add_run-requires-clause-some g c = subst AreSome (sym c.new-runs.ensures.items) tt

pub returns-clause-concatenation : goal.returns-clause-concatenation
returns-clause-concatenation g c = c.in_ok-add_run.ensures.concatenation ∙ ap (λ rs. concatenation rs ++ c.args.messages.items) c.new-runs.ensures.items
