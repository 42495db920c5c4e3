use Rattle.std.proofs.Common.{◌≡◌, ◌∙◌, ◌∷◌, ◌+◌, ◌-◌, arith, rules, suc}
use Rattle.bt_fanout.specs.Effects.{row_effect}
use Rattle.bt_fanout.proofs.Groups.{fewer_after, next_value}
use Rattle.bt_fanout.proofs.row_effects.row_after.Goals as goal

pub loop-preserved : goal.loop-preserved
loop-preserved c =
    let first : c.loop.messages ≡ (c.in-Some-next._key.now, c.in-Some-next.message.now) ∷ c.next-in-loop.new.self = search rules in
    let one : c.args.others - c.loop.counter ≡ suc (c.args.others - (c.loop.counter + 1)) = omega (arith, c.loop-test.true) in
    record {
      value = c.loop.invariant.value ∙ next_value row_effect _ _ _ _ _ _ _ first one c.in_ok-after-2.ensures;
      rest = c.loop.invariant.rest ∙ fewer_after _ _ _ _ _ first one;
    }
