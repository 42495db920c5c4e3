use Rattle.std.proofs.Common.{◌≡◌, ◌-◌, ◌∷◌, ◌∙◌, ap, arith, drop, length, subst, sym, take, vec_capacity, vec_len}
use Rattle.bt_keycode.specs.Keys.{IsSorted}
use Rattle.bt_message.specs.Messages.{with_message, with_messages}
use Rattle.bt_messages.proofs.Insertions.{insert_step}
use Rattle.bt_messages.proofs.offered.Fronts.{one_taken}
use Rattle.bt_messages.proofs.share.insert_front.Goals as goal
use Rattle.bt_messages.proofs.share.insert_front.Goals.{in-Some, in_default}

pub loop-init : goal.loop-init
loop-init g c =
    let whole : c.args.count - 0 ≡ c.args.count = omega arith in
    record {
      inserted = ap (λ n. with_messages (take n c.args.stream.now) c.args.messages.now.items) whole;
      sorted = c.requires.sorted;
      left = ap (λ n. drop n c.args.stream.now) whole;
      len = omega arith;
      room = omega (arith, c.requires.room);
    }

pub insert-requires : goal.insert-requires
insert-requires g c = record {
  sorted = c.loop.invariant.sorted;
  room = omega (arith, c.loop.invariant.room, c.loop-test.true);
}

pub loop-preserved : goal.loop-preserved
loop-preserved g c = elim c.match-pop.branch [
  | in-Some w ↦
      let m = w.in-Some.entry in
      let e : c.loop.stream ≡ m ∷ c.pop.new.self = w.in-Some.ensures.first in
      let now : c.match-pop.messages.items ≡ with_message m c.loop.messages.items = ap (λ v. v.items) w.messages-is ∙ w.insert.ensures.inserted in
      let wanted = with_messages (take c.args.count c.args.stream.now) c.args.messages.now.items in
      record {
        inserted = insert_step m c.pop.new.self c.loop.stream c.loop.messages.items c.match-pop.messages.items wanted c.args.count c.loop.counter c.loop-test.true e now c.loop.invariant.inserted;
        sorted = subst (λ v. IsSorted v.items) (sym w.messages-is) w.insert.ensures.sorted;
        left = sym (one_taken c.loop.stream c.pop.new.self m c.args.count c.loop.counter c.loop-test.true e).1 ∙ c.loop.invariant.left;
        len = omega (arith, ap length e, c.loop.invariant.len);
        room = omega (arith, c.loop.invariant.room, c.loop-test.true, ap vec_len w.messages-is, ap vec_capacity w.messages-is, w.insert.ensures.len, w.insert.ensures.capacity);
      }
  | in_default w ↦ absurd (omega (arith, ap length w.in_default.ensures.first.0, c.loop.invariant.len, c.requires.count, c.loop-test.true))
]

pub returns : goal.returns
returns g c =
    let none : c.args.count - c.loop.counter ≡ 0 = omega (arith, c.loop-test.false) in
    record {
      inserted = sym (ap (λ n. with_messages (take n c.loop.stream) c.loop.messages.items) none) ∙ c.loop.invariant.inserted;
      sorted = c.loop.invariant.sorted;
      left = sym (ap (λ n. drop n c.loop.stream) none) ∙ c.loop.invariant.left;
    }
