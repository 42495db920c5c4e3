use Rattle.std.proofs.Common.{◌≡◌, ◌∷◌, ◌-◌, ◌∙◌, ap, arith, length, subst, sym, take, true, rules}
use Rattle.std.specs.FinMap.{is_sorted}
use Rattle.bt_message.specs.Effects.{effect_of}
use Rattle.bt_message.specs.declared.message.Message.{Message}
use Rattle.bt_keycode.specs.Keys.{Key, key_cmp}
use Rattle.bt_form.proofs.offered.code.RowPass.{IsChange, at_end, before_of, changed_sorted, pass_step, put_in_front, result_sorted, sorted_from}
use Rattle.bt_messages.proofs.offered.Fronts.{one_taken, sorted_take}
use Rattle.bt_form.proofs.rows.Rows.after.Goals as goal

pub take_first-old-requires-clause-sorted : goal.take_first-old-requires-clause-sorted
take_first-old-requires-clause-sorted g c =
    subst (λ rows. is_sorted key_cmp rows ≡ true) (sym c.move_before.ensures.left) (sorted_from c.in-Some.key c.loop.older.items c.loop.invariant.rows)

pub take_first-old-requires-clause-none_before : goal.take_first-old-requires-clause-none_before
take_first-old-requires-clause-none_before g c = before_of c.in-Some.key c.loop.older.items c.move_before.new.older.items c.move_before.ensures.left

pub loop-preserved : goal.loop-preserved
loop-preserved g c =
    let effect = effect_of g.V.Merge.terms.merged in
    let message : Key × Message g.row.V.Denot g.row.V-Delta.Denot = (c.in-Some.key, c.in-Some.message) in
    let first : c.loop.stream ≡ message ∷ c.pop.new.self = search rules in
    let on = one_taken c.loop.stream c.pop.new.self message c.args.count c.loop.counter c.loop-test.true first in
    let change : IsChange effect message c.loop.older.items _ c.in_ok-new.new = record {
      later = c.move_before.new.older.items;
      old = c.take_first-old.result;
      later_are = c.move_before.ensures.left;
      old_is = c.take_first-old.ensures.value;
      new_is = c.in_ok-new.ensures;
      others_are = c.take_first-old.ensures.others;
    } in
    let changed = put_in_front effect message c.loop.older.items c.in_ok-new.new c.loop.invariant.rows change c.in_ok-put_front.ensures.row in
    record {
      wanted = pass_step effect message _ (take (c.args.count - c.loop.counter) c.loop.stream) _ _ c.loop.older.items _ _ on.0
          (sorted_take (c.args.count - c.loop.counter) c.loop.stream c.pop.ensures.sorted) c.loop.invariant.rows
          c.move_before.ensures.moved changed c.loop.invariant.wanted;
      left = sym on.1 ∙ c.loop.invariant.left;
      enough = omega (arith, ap length first, c.loop.invariant.enough);
      rows = changed_sorted effect message c.loop.older.items _ c.loop.invariant.rows changed;
      room = omega (
        arith,
        c.loop.invariant.room,
        c.loop-test.true,
        c.move_before.ensures.len,
        c.move_before.ensures.capacity,
        c.take_first-old.ensures.len,
        c.in_ok-put_front.ensures.len,
      );
    }

pub unreachable-requires : goal.unreachable-requires
unreachable-requires g c = omega (arith, c.loop-test.true, c.loop.invariant.enough, c.requires, ap length c.in_default.ensures.first.0)

pub invariant_of-result : goal.invariant_of-result
invariant_of-result g c =
    let start : is_sorted key_cmp c.args.self ≡ true = rw (← c.self.view_is) c.self.invariant in
    let none : length c.loop-row.row-iterator.rest.items ≡ 0 = search rules in
    let done = at_end c.loop-row.changed.items _ _ none c.loop-row.invariant.wanted in
    let sorted = result_sorted (effect_of g.V.Merge.terms.merged) (take c.args.count c.args.stream.now) c.args.self c.loop-row.changed.items start done in
    subst (λ rows. is_sorted key_cmp rows ≡ true) (sym c.shrink_to.ensures.items) sorted
