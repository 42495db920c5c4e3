use Rattle.std.proofs.Common.{◌≡◌, ◌-◌, ◌∷◌, ◌++◌, ◌∙◌, ap, append_assoc, arith, drop, length, sym, take, vec_capacity, vec_len}
use Rattle.bt_keycode.specs.Keys.{Key}
use Rattle.bt_message.specs.Messages.{with_messages}
use Rattle.bt_message.specs.declared.message.Message.{Message}
use Rattle.bt_messages.proofs.Merging.{AreMoved}
use Rattle.bt_messages.proofs.Sharing.{front_step}
use Rattle.bt_messages.proofs.offered.Fronts.{one_taken}
use Rattle.bt_messages.proofs.share.merge_front.Goals as goal
use Rattle.bt_messages.proofs.share.merge_front.Goals.{in-Some, in_default}

pub append_reserved-requires : goal.append_reserved-requires
append_reserved-requires g c = omega (arith, c.requires.room, ap length c.from.ensures.0, c.args.older.ok.0)

pub move_front-requires-clause-count : goal.move_front-requires-clause-count
move_front-requires-clause-count g c = c.requires.count

pub move_front-requires-clause-room : goal.move_front-requires-clause-room
move_front-requires-clause-room g c =
    omega (arith, c.requires.room, c.append_reserved.ensures.len, c.append_reserved.ensures.capacity, ap length c.from.ensures.0, c.args.older.ok.0)

pub returns-then-is_after-clause-merged : goal.returns-then-is_after-clause-merged
returns-then-is_after-clause-merged g c =
    let merged = c.args.merged.now.items in
    let moved = take c.args.count c.args.stream.now in
    c.move_front.ensures.moved
    ∙ ap (λ ms. ms ++ moved) (c.append_reserved.ensures.pushed ∙ ap (λ ms. merged ++ ms) c.from.ensures.0)
    ∙ append_assoc merged c.args.older.items moved
    ∙ ap (λ ms. merged ++ ms) (sym (rw c.as_slice.ensures.value at (c.is_after.ensures c.if-is_after.true c.args.count)))

pub returns-then-is_after-clause-left : goal.returns-then-is_after-clause-left
returns-then-is_after-clause-left g c = c.move_front.ensures.left

pub loop-init : goal.loop-init
loop-init g c =
    let same = c.from-older.ensures.0 in
    let whole : c.args.count - 0 ≡ c.args.count = omega arith in
    record {
      wanted = λ i. c.args.merged.now.items ++ with_messages (take (sym whole i) c.args.stream.now) (sym same i);
      left = ap (λ n. drop n c.args.stream.now) whole;
      len = omega arith;
      room = omega (arith, c.requires.room, ap length same, c.args.older.ok.0);
    }

pub move_up_to-requires : goal.move_up_to-requires
move_up_to-requires g c = omega (arith, c.loop.invariant.room)

pub push_reserved-requires : goal.push_reserved-requires
push_reserved-requires g c = omega (arith, c.loop.invariant.room, c.loop-test.true, c.move_up_to.ensures.len, c.move_up_to.ensures.capacity)

pub loop-preserved : goal.loop-preserved
loop-preserved g c = elim c.match-pop.branch [
  | in-Some w ↦
      let n : Key × Message g.row.V.Denot g.row.V-Delta.Denot = (w.in-Some.key, w.in-Some.message) in
      let e : c.loop.stream ≡ n ∷ c.pop.new.self = w.in-Some.ensures.first in
      let moved : AreMoved n c.loop.older.items c.match-pop.older.items c.loop.merged.items c.match-pop.merged.items = record {
        between = w.move_up_to.new.merged.items;
        up_to = w.move_up_to.ensures.moved;
        past_are = ap (λ q. q.items) w.older-is ∙ w.move_up_to.ensures.left;
        pushed = ap (λ v. v.items) w.merged-is ∙ w.push_reserved.ensures.items;
      } in
      record {
        wanted = front_step n c.pop.new.self c.loop.stream c.args.count c.loop.counter c.loop-test.true e c.pop.ensures.sorted c.loop.invariant.wanted moved;
        left = sym (one_taken c.loop.stream c.pop.new.self n c.args.count c.loop.counter c.loop-test.true e).1 ∙ c.loop.invariant.left;
        len = omega (arith, ap length e, c.loop.invariant.len);
        room = omega (
          arith,
          c.loop.invariant.room,
          c.loop-test.true,
          w.move_up_to.ensures.len,
          w.move_up_to.ensures.capacity,
          w.push_reserved.ensures.len,
          w.push_reserved.ensures.capacity,
          ap vec_len w.merged-is,
          ap vec_capacity w.merged-is,
          ap (λ q. length q.items) w.older-is,
        );
      }
  | in_default w ↦ absurd (omega (arith, ap length w.in_default.ensures.first.0, c.loop.invariant.len, c.requires.count, c.loop-test.true))
]

pub append_reserved-requires-2 : goal.append_reserved-requires-2
append_reserved-requires-2 g c = omega (arith, c.loop.invariant.room)

pub returns-clause-merged : goal.returns-clause-merged
returns-clause-merged g c =
    let none : c.args.count - c.loop.counter ≡ 0 = omega (arith, c.loop-test.false) in
    c.append_reserved-2.ensures.pushed
    ∙ sym (c.loop.invariant.wanted ∙ ap (λ n. c.loop.merged.items ++ with_messages (take n c.loop.stream) c.loop.older.items) none)

pub returns-clause-left : goal.returns-clause-left
returns-clause-left g c =
    let none : c.args.count - c.loop.counter ≡ 0 = omega (arith, c.loop-test.false) in
    sym (ap (λ n. drop n c.loop.stream) none) ∙ c.loop.invariant.left
