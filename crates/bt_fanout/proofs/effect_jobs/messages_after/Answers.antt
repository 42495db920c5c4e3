use Rattle.std.proofs.Common.{◌≡◌, ◌∙◌, ◌∷◌, ◌+◌, ◌-◌, arith, rules, sym, suc}
use Rattle.bt_fanout.proofs.Groups.{fewer_after}
use Rattle.bt_fanout.proofs.effect_jobs.messages_after.Goals as goal

pub loop-preserved : goal.loop-preserved
loop-preserved c =
    let first : c.loop.messages ≡ (c.in-Some._key.now, c.in-Some._message.now) ∷ c.next.new.self = search rules in
    let one : c.args.count - c.loop.counter ≡ suc (c.args.count - (c.loop.counter + 1)) = omega (arith, c.loop-test.true) in
    sym (fewer_after _ _ _ _ _ first one) ∙ c.loop.invariant
