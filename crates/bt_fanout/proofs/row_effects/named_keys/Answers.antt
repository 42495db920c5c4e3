use Rattle.std.proofs.Common.{◌≡◌, ap, arith, option_map, refl, rules, true}
use Rattle.bt_fanout.specs.Covers.{is_covered}
use Rattle.bt_fanout.specs.inside.Groups.{groups_within, with_next}
use Rattle.bt_fanout.proofs.Groups.{IsNextKey, fewer_left, none_left_covered, one_key}
use Rattle.bt_fanout.proofs.row_effects.named_keys.Goals as goal

pub returns-then-not-covers-clause-keys : goal.returns-then-not-covers-clause-keys
returns-then-not-covers-clause-keys c =
    none_left_covered (λ g. g.0) c.args.cover.now (c.in-Some.key.now, c.in-Some._message.now) c.loop-next.messages _ _ _
    (ap (λ next. with_next (option_map (λ m. (m.0.now, m.1.now)) next) c.loop-next.messages) c.in-Some.is) c.loop-next.invariant.sorted (search rules)
    c.loop-next.invariant.keys

pub returns-then-not-covers-clause-others : goal.returns-then-not-covers-clause-others
returns-then-not-covers-clause-others c =
    none_left_covered (λ g. g.1) c.args.cover.now (c.in-Some.key.now, c.in-Some._message.now) c.loop-next.messages _ _ _
    (ap (λ next. with_next (option_map (λ m. (m.0.now, m.1.now)) next) c.loop-next.messages) c.in-Some.is) c.loop-next.invariant.sorted (search rules)
    c.loop-next.invariant.others

pub loop-next-smaller : goal.loop-next-smaller
loop-next-smaller c =
    fewer_left (c.in-Some.key.now, c.in-Some._message.now) c.loop-next.messages _ _
    (ap (λ next. with_next (option_map (λ m. (m.0.now, m.1.now)) next) c.loop-next.messages) c.in-Some.is) c.messages_following-count.ensures.rest

pub loop-next-preserved : goal.loop-next-preserved
loop-next-preserved c =
    let covered : is_covered c.args.cover.now c.in-Some.key.now ≡ true = search rules in
    let is = ap (λ next. with_next (option_map (λ m. (m.0.now, m.1.now)) next) c.loop-next.messages) c.in-Some.is in
    let fewer = fewer_left (c.in-Some.key.now, c.in-Some._message.now) c.loop-next.messages _ _ is c.messages_following-count.ensures.rest in
    let next : IsNextKey (λ k. k.now) c.args.cover.now _ _ c.in-Some.key c.messages_following-count.result.0 = record {
      message = (c.in-Some.key.now, c.in-Some._message.now);
      rest = c.loop-next.messages;
      left_is = is;
      sorted = c.loop-next.invariant.sorted;
      key_is = refl;
      covered = covered;
      count_is = c.messages_following-count.ensures.count;
      later_is = c.messages_following-count.ensures.rest;
    } in
    let now = one_key (λ k. k.now) c.args.cover.now c.loop-next.keys.items c.push.new.self.items c.loop-next.others.items c.push-in-Some.new.self.items
    (groups_within c.args.cover.now c.args.packet.now) next
    c.loop-next.invariant.keys c.loop-next.invariant.others (search rules) (search rules) in
    record { few = omega (arith, fewer, c.loop-next.invariant.few); sorted = now.0; keys = now.1.0; others = now.1.1 }
