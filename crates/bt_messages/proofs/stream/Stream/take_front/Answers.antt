use Rattle.std.proofs.Common.{◌≤◌, ◌-◌, ◌++◌, ◌∙◌, ap, arith, subst, sym, take}
use Rattle.bt_value.specs.Lists.{concatenation}
use Rattle.bt_messages.specs.inside.Runs.{AreSome}
use Rattle.bt_messages.proofs.RunLists.{all_runs, enough_left, none_left, run_taken, some-push}
use Rattle.bt_messages.proofs.stream.Stream.take_front.Goals as goal

pub loop-left-preserved : goal.loop-left-preserved
loop-left-preserved g c =
    let runs = c.loop-left.runs.items in
    let run = c.in_ok-run.run' in
    let few : c.count-left.result ≤ c.loop-left.left = omega (arith, c.in_ok-run.ensures.few, c.count-left.ensures.count) in
    let next = run_taken c.loop-left.self c.pop_some.new.self run runs c.loop-left.left c.count-left.result _ _ c.in_ok-run.ensures.taken
    c.count-left.ensures.count few c.loop-left.invariant.taken c.loop-left.invariant.left in
    record {
      taken = ap (λ rs. concatenation rs ++ take (c.loop-left.left - c.count-left.result) c.pop_some.new.self) c.in_ok-push.ensures.items ∙ next.0;
      left = next.1;
      enough = enough_left c.loop-left.self c.pop_some.new.self run c.loop-left.left c.count-left.result c.in_ok-run.ensures.taken c.count-left.ensures.count c.loop-left.invariant.enough;
      some = subst AreSome (sym c.in_ok-push.ensures.items) (some-push runs run c.loop-left.invariant.some c.in_ok-run.ensures.some);
    }

pub from_runs-requires : goal.from_runs-requires
from_runs-requires g c =
    let done = none_left c.loop-left.runs.items c.loop-left.self _ _ c.loop-left.left c.loop-left-test.false c.loop-left.invariant.taken c.loop-left.invariant.left in
    all_runs c.new.result c.loop-left.runs.items c.args.self.now c.len-sorted.result c.args.count c.new.ensures c.loop-left.invariant.some
    c.len-sorted.ensures.sorted done.0 c.requires c.len-sorted.ensures.len c.len-sorted.ensures.bound

pub returns-clause-taken : goal.returns-clause-taken
returns-clause-taken g c =
    let done = none_left c.loop-left.runs.items c.loop-left.self _ _ c.loop-left.left c.loop-left-test.false c.loop-left.invariant.taken c.loop-left.invariant.left in
    c.from_runs.ensures ∙ ap (λ ms. ms ++ concatenation c.loop-left.runs.items) c.new.ensures ∙ done.0

pub returns-clause-left : goal.returns-clause-left
returns-clause-left g c = (none_left c.loop-left.runs.items c.loop-left.self _ _ c.loop-left.left c.loop-left-test.false c.loop-left.invariant.taken c.loop-left.invariant.left).1
