use Rattle.std.proofs.Common.{◌≡◌, ◌+◌, ◌<◌, true, false, arith, drop, length, rules, subst, sym}
use Rattle.bt_keycode.specs.Keys.{AllFrom, is_before}
use Rattle.bt_messages.proofs.DoublingSteps.{before_place, from_place, none_left}
use Rattle.bt_messages.proofs.search.bracket_above.Goals as goal
use Rattle.bt_messages.proofs.search.bracket_above.Goals.{then-loop-step-test+else-eq, else-loop-step-test}

pub loop-step-preserved : goal.loop-step-preserved
loop-step-preserved g c =
    let at = c.loop-step.low + c.loop-step.step in
    let bound : at < length c.args.entries.now = omega (arith, c.loop-step-test.true) in
    let sorted = c.requires.sorted in
    let here : is_before c.index-entries-low.result.0 c.args.key.now ≡ true = search rules in
    record {
      order = omega (arith, c.loop-step-test.true);
      within = c.loop-step.invariant.within;
      before = before_place c.args.key.now at _ c.args.entries.now c.index-entries-low.result sorted bound c.index-entries-low.is here (omega arith);
      from = c.loop-step.invariant.from;
    }

pub returns : goal.returns
returns g c =
    let key = c.args.key.now in
    let entries = c.args.entries.now in
    let high = c.loop-step.low + c.min.result in
    let rest : AllFrom key (drop high entries) = elim c.loop-step-test.branch [
      | then-loop-step-test+else-eq w ↦
          let stop : is_before w.index-entries-low.result.0 key ≡ false = search rules in
          let at = c.loop-step.low + c.loop-step.step in
          let is : high ≡ at = omega (arith, c.min.ensures, w.loop-step-test.true) in
          let bound : at < length entries = omega (arith, w.loop-step-test.true) in
          let past = from_place key at entries w.index-entries-low.result c.requires.sorted bound w.index-entries-low.is stop in
          subst (λ n. AllFrom key (drop n entries)) (sym is) past
      | else-loop-step-test w ↦ none_left key high entries (omega (arith, c.min.ensures, w.loop-step-test.false))
    ] in
    record {
      order = omega arith;
      within = omega (arith, c.min.ensures, c.loop-step.invariant.order);
      before = c.loop-step.invariant.before;
      from = rest;
    }
