use Rattle.std.proofs.Common.{◌≡◌, ◌-◌, ◌<◌, true, false, arith, length, rules, subst, take}
use Rattle.bt_keycode.specs.Keys.{is_before}
use Rattle.bt_messages.specs.Bins.{AllBefore}
use Rattle.bt_messages.proofs.DoublingSteps.{before_place, from_place}
use Rattle.bt_messages.proofs.search.bracket_below.Goals as goal
use Rattle.bt_messages.proofs.search.bracket_below.Goals.{then-loop-step-test+else-ne, else-loop-step-test}

pub loop-step-preserved : goal.loop-step-preserved
loop-step-preserved g c =
    let entries = c.args.entries.now in
    let at = c.loop-step.high - c.loop-step.step in
    let on : is_before c.index-entries-high.result.0 c.args.key.now ≡ false = search rules in
    let bracket = c.loop-step.invariant.bracket in
    let bound : at < length entries = omega (arith, c.loop-step.invariant.step, c.loop-step-test.true, bracket.within) in
    record {
      step = omega (arith, c.saturating_mul-step.ensures, c.loop-step.invariant.step);
      bracket = record {
        order = omega arith;
        within = omega (arith, bracket.within);
        before = tt;
        from = from_place c.args.key.now at entries c.index-entries-high.result c.requires.sorted bound c.index-entries-high.is on;
      };
    }

pub returns : goal.returns
returns g c =
    let key = c.args.key.now in
    let entries = c.args.entries.now in
    let bracket = c.loop-step.invariant.bracket in
    let low = c.saturating_sub.result in
    let first : AllBefore key (take low entries) = elim c.loop-step-test.branch [
      | then-loop-step-test+else-ne w ↦
          let stop : is_before w.index-entries-high.result.0 key ≡ true = search rules in
          let at = c.loop-step.high - c.loop-step.step in
          let bound : at < length entries = omega (arith, c.loop-step.invariant.step, w.loop-step-test.true, bracket.within) in
          let few = c.saturating_sub.ensures in
          before_place key at low entries w.index-entries-high.result c.requires.sorted bound w.index-entries-high.is stop (omega (arith, few))
      | else-loop-step-test w ↦
          let none : 0 ≡ low = omega (arith, c.saturating_sub.ensures, w.loop-step-test.false) in
          subst (λ n. AllBefore key (take n entries)) none tt
    ] in
    record {
      order = omega (arith, c.saturating_sub.ensures);
      within = bracket.within;
      before = first;
      from = bracket.from;
    }
