use Rattle.std.proofs.Common.{◌≡◌, ◌-◌, ◌∷◌, ◌++◌, [], ◌∙◌, ap, arith, drop, length, refl, sym, take, vec_capacity, vec_len}
use Rattle.std.proofs.lemmas.List.{append-nil}
use Rattle.bt_messages.proofs.Slices.{moved_on}
use Rattle.bt_messages.proofs.stream.Stream.move_front.Goals as goal
use Rattle.bt_messages.proofs.stream.Stream.move_front.Goals.{in-Some, in_default}

pub loop-init : goal.loop-init
loop-init g c =
    let whole : c.args.count - 0 ≡ c.args.count = omega arith in
    record {
      moved = ap (λ n. c.args.into.now.items ++ take n c.args.self.now) whole;
      left = ap (λ n. drop n c.args.self.now) whole;
      len = omega arith;
      room = omega arith;
      capacity = refl;
    }

pub push_reserved-requires : goal.push_reserved-requires
push_reserved-requires g c = omega (arith, c.requires.room, c.loop.invariant.room, c.loop.invariant.capacity, c.loop-test.true)

pub loop-preserved : goal.loop-preserved
loop-preserved g c = elim c.match-pop.branch [
  | in-Some w ↦
      let m = w.in-Some.entry in
      let e : c.loop.self ≡ m ∷ c.pop.new.self = w.in-Some.ensures.first in
      let p : c.match-pop.into.items ≡ c.loop.into.items ++ m ∷ [] = ap (λ v. v.items) w.into-is ∙ w.push_reserved.ensures.items in
      let on = moved_on _ _ m _ _ c.args.count c.loop.counter c.loop-test.true e p in
      record {
        moved = on.0 ∙ c.loop.invariant.moved;
        left = on.1 ∙ c.loop.invariant.left;
        len = omega (arith, ap length e, c.loop.invariant.len);
        room = omega (arith, ap vec_len w.into-is, w.push_reserved.ensures.len, c.loop.invariant.room);
        capacity = ap vec_capacity w.into-is ∙ w.push_reserved.ensures.capacity ∙ c.loop.invariant.capacity;
      }
  | in_default w ↦ absurd (omega (arith, ap length w.in_default.ensures.first.0, c.loop.invariant.len, c.requires.count, c.loop-test.true))
]

pub returns : goal.returns
returns g c =
    let none : c.args.count - c.loop.counter ≡ 0 = omega (arith, c.loop-test.false) in
    record {
      moved = sym (append-nil c.loop.into.items) ∙ sym (ap (λ n. c.loop.into.items ++ take n c.loop.self) none) ∙ c.loop.invariant.moved;
      left = sym (ap (λ n. drop n c.loop.self) none) ∙ c.loop.invariant.left;
    }
