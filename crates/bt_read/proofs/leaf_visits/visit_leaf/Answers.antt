use Rattle.std.proofs.Common.{◌≡◌, ◌∙◌, ap, arith, fold, length, None, Some, refl, rules, subst, sym, true}
use Rattle.std.specs.FinMap.{is_sorted}
use Rattle.bt_keycode.specs.Keys.{IsSorted, Key, key_cmp}
use Rattle.bt_message.specs.Effects.{effect_of}
use Rattle.bt_message.specs.declared.message.Message.{Message}
use Rattle.bt_form.specs.Messages.{rows_after}
use Rattle.bt_read.specs.inside.ValuesSoFar.{option_of}
use Rattle.bt_read.specs.inside.Limits.{limited}
use Rattle.bt_form.proofs.offered.rows.Between.{rows-in_order}
use Rattle.bt_read.proofs.lemmas.code.LeafPass.{AreShown, IsShown, fewer_past, from_is, shown_end, shown_step}
use Rattle.bt_read.proofs.lemmas.code.LentMessages.{past_in_order, rest_in_order}
use Rattle.bt_read.proofs.lemmas.code.RowsLimited.{none_shown}
use Rattle.bt_form.proofs.offered.code.RowPass.{before_of, sorted_changed, sorted_from}
use Rattle.bt_read.proofs.leaf_visits.visit_leaf.Goals as goal

pub between-requires : goal.between-requires
between-requires g c = rows-in_order c.loop-key.left.now c.loop-key.left.now refl c.loop-key.invariant.rows

pub between-requires-in-Some : goal.between-requires-in-Some
between-requires-in-Some g c = rows-in_order c.loop-key.left.now c.loop-key.left.now refl c.loop-key.invariant.rows

pub split_first-requires-clause-sorted : goal.split_first-requires-clause-sorted
split_first-requires-clause-sorted g c =
    subst (λ rows. is_sorted key_cmp rows ≡ true) (sym (c.between-in-Some.ensures.between ∙ from_is c.in-Some.key.now c.loop-key.left.now))
    (sorted_from c.in-Some.key.now c.loop-key.left.now c.loop-key.invariant.rows)

pub split_first-requires-clause-none_before : goal.split_first-requires-clause-none_before
split_first-requires-clause-none_before g c =
    before_of c.in-Some.key.now c.loop-key.left.now c.between-in-Some.result.now (c.between-in-Some.ensures.between ∙ from_is c.in-Some.key.now c.loop-key.left.now)

pub loop-key-smaller : goal.loop-key-smaller
loop-key-smaller g c =
    omega (arith, fewer_past c.in-Some.key.now c.next.new.self, ap length c.in_ok-value.ensures.left, ap length c.in-Some.ensures)

pub loop-key-preserved : goal.loop-key-preserved
loop-key-preserved g c =
    let effect = effect_of g.V.Merge.terms.merged in
    let k = c.in-Some.key.now in
    let m : Key × Message g.row.V.Denot g.row.V-Delta.Denot = (k, c.in-Some.message.now) in
    let so_far = c.loop-key.invariant in
    let all = fold (limited g.S.Visitor.visited) (c.args.visitor.now, c.args.limit.now) (rows_after effect c.args.messages c.args.rows.now) in
    let later = c.between-in-Some.ensures.between ∙ from_is k c.loop-key.left.now in
    let sorted = rest_in_order m c.loop-key.messages c.next.new.self c.in-Some.ensures so_far.messages in
    let done : AreShown effect (limited g.S.Visitor.visited) m c.next.new.self c.loop-key.messages c.loop-key.left.now (c.visit_rows.new.visitor, c.visit_rows.new.limit) all = record {
      start = (c.loop-key.visitor, c.loop-key.limit);
      earlier = c.between.result.now;
      messages_are = c.in-Some.ensures;
      sorted = so_far.messages;
      rising = so_far.rows;
      so_far = so_far.wanted;
      earlier_are = c.between.ensures.between;
      shown_is = c.in_ok-visit_rows.ensures;
    } in
    let row : IsShown effect (limited g.S.Visitor.visited) m c.next.new.self c.take_effect.new.self c.loop-key.left.now c.split_first.result.1.now
    (c.visit_rows.new.visitor, c.visit_rows.new.limit) (c.visit_held.new.visitor, c.visit_held.new.limit) = record {
      later = c.between-in-Some.result.now;
      old = _;
      first = option_of c.in_ok-first.first;
      value = option_of c.in_ok-value.value;
      later_are = later;
      old_is = c.of.ensures ∙ c.split_first.ensures.value;
      others_are = c.split_first.ensures.others;
      first_is = c.in_ok-first.ensures;
      value_is = c.in_ok-value.ensures.value;
      left_are = c.in_ok-value.ensures.left;
      shown_is = c.in_ok-visit_held.ensures;
    } in
    record {
      wanted = shown_step effect done row;
      rows = subst (λ rows. is_sorted key_cmp rows ≡ true) (sym c.split_first.ensures.others)
          (sorted_changed k None c.between-in-Some.result.now
          (subst (λ rows. is_sorted key_cmp rows ≡ true) (sym later) (sorted_from k c.loop-key.left.now so_far.rows)));
      messages = subst IsSorted (sym c.in_ok-value.ensures.left) (past_in_order k c.next.new.self sorted);
    }

pub returns-then-is_reached : goal.returns-then-is_reached
returns-then-is_reached g c =
    let effect = effect_of g.V.Merge.terms.merged in
    let so_far = c.loop-key.invariant in
    let all = fold (limited g.S.Visitor.visited) (c.args.visitor.now, c.args.limit.now) (rows_after effect c.args.messages c.args.rows.now) in
    let reached : c.visit_rows.new.limit ≡ Some 0 = search rules in
    let m : Key × Message g.row.V.Denot g.row.V-Delta.Denot = (c.in-Some.key.now, c.in-Some.message.now) in
    let done : AreShown effect (limited g.S.Visitor.visited) m c.next.new.self c.loop-key.messages c.loop-key.left.now (c.visit_rows.new.visitor, c.visit_rows.new.limit) all = record {
      start = (c.loop-key.visitor, c.loop-key.limit);
      earlier = c.between.result.now;
      messages_are = c.in-Some.ensures;
      sorted = so_far.messages;
      rising = so_far.rows;
      so_far = so_far.wanted;
      earlier_are = c.between.ensures.between;
      shown_is = c.in_ok-visit_rows.ensures;
    } in
    shown_end effect done (λ rows. none_shown g.S.Visitor.visited c.visit_rows.new.visitor c.visit_rows.new.limit rows reached)
