use Rattle.std.proofs.Common.{◌≡◌, ◌∷◌, ap, arith, length, refl, rules}
use Rattle.std.specs.Vec.Iter.{into_iter_items}
use Rattle.bt_fanout.specs.declared.effect.Effect.{Effect}
use Rattle.bt_fanout.proofs.GroupEffects.{IsNextEffect, one_effect}
use Rattle.bt_fanout.proofs.row_effects.effects_on.Goals as goal

pub loop-before-preserved : goal.loop-before-preserved
loop-before-preserved c =
    let row : into_iter_items c.loop-before.before-iterator ≡ c.in-Some.before ∷ into_iter_items c.next.new.self = search rules in
    let effect : Effect = record { key = c.in_ok-key.key; before = c.in-Some.before; after = c.in_ok-after.after } in
    let next : IsNextEffect (λ k. k.now) c.args.keys.now c.args.others.now (into_iter_items c.loop-before.before-iterator) (into_iter_items c.next.new.self) c.loop-before.messages _ effect
    c.loop-before.effects.items c.push.new.self.items = record {
      row = c.in-Some.before;
      place = c.len-place.result;
      key = c.index-keys-place.result;
      count = _;
      row_is = row;
      of_key = c.in_ok-key.ensures;
      of_row = refl;
      after_is = c.in_ok-after.ensures.value;
      left_is = c.in_ok-after.ensures.rest;
      place_is = omega (arith, c.len-place.ensures, c.loop-before.effects.ok.0);
      key_within = omega (arith, c.loop-before.invariant.many, ap length row, c.requires.keys);
      key_is = c.index-keys-place.is;
      count_within = omega (arith, c.loop-before.invariant.many, ap length row, c.requires.others);
      count_is = search rules;
      added = search rules;
    } in
    let now = one_effect (λ k. k.now) c.args.keys.now c.args.others.now c.loop-before.effects.items c.push.new.self.items _ next c.loop-before.invariant.effects in
    record { many = search rules; effects = now }
