use Rattle.std.proofs.Common.{rules, [], ◌≡◌, ◌∷◌, ◌++◌, ap, get_or, map, subst, sym, ◌∙◌}
use Rattle.std.proofs.lemmas.List.{map-append, nil_from_length}
use Rattle.bt_keycode.specs.Keys.{IsSorted}
use Rattle.bt_message.specs.Effects.{effect_of}
use Rattle.bt_form.specs.Messages.{from}
use Rattle.bt_read.specs.inside.ValuesSoFar.{option_of}
use Rattle.bt_read.specs.inside.Together.{values_after}
use Rattle.bt_read.proofs.lemmas.code.LookupPath.{all_left, left_from}
use Rattle.bt_read.proofs.lemmas.code.Together.{IsAdded, first_of, none_after, none_pending, one_after}
use Rattle.bt_read.proofs.joint_lookup.add_after.Goals as goal

pub after_messages-requires-clause-from : goal.after_messages-requires-clause-from
after_messages-requires-clause-from g c =
    left_from (effect_of g.V.Merge.terms.merged) c.key-item.result.now (get_or c.args.bins.now c.args.place []) c.of_sorted.result
    (c.of_sorted.ensures ∙ c.part_from-next.ensures.from ∙ ap (from c.key-item.result.now) (c.as_slice-messages.ensures.messages ∙ c.bin.ensures.messages))

pub after_messages-requires-clause-sorted : goal.after_messages-requires-clause-sorted
after_messages-requires-clause-sorted g c = subst IsSorted (sym c.of_sorted.ensures) c.part_from-next.ensures.sorted

pub loop-old-preserved : goal.loop-old-preserved
loop-old-preserved g c =
    let effect = effect_of g.V.Merge.terms.merged in
    let bin = get_or c.args.bins.now c.args.place [] in
    let seen = c.loop-old.values.items in
    let left : c.loop-old.old-iterator.rest.items ≡ c.in-Some.old ∷ c.next.new.self.rest.items = search rules in
    let key = c.key-item.result.now in
    let from_key = c.of_sorted.ensures ∙ c.part_from-next.ensures.from ∙ ap (from key) (c.as_slice-messages.ensures.messages ∙ c.bin.ensures.messages) in
    let pushed : c.push.new.self.items ≡ seen ++ c.in_ok-after_messages.field-0 ∷ [] = search rules in
    let added : IsAdded effect bin (map (λ k. k.now) c.loop-old.rest.now) _ (map option_of c.loop-old.old-iterator.rest.items) (map option_of c.next.new.self.rest.items) (map option_of seen)
    (map option_of c.push.new.self.items) = record {
      key = key;
      old = option_of c.in-Some.old;
      now = option_of c.in_ok-after_messages.field-0;
      keys_are = ap (map (λ k. k.now)) (first_of c.loop-old.rest.now c.key-item.result c.in-len1-up.len_at_least c.key-item.is);
      olds_are = ap (map option_of) left;
      now_is = c.in_ok-after_messages.ensures ∙ sym (all_left effect key bin c.of_sorted.result (option_of c.in-Some.old) from_key);
      new_are = ap (map option_of) pushed ∙ map-append option_of seen (c.in_ok-after_messages.field-0 ∷ []);
    } in
    c.loop-old.invariant ∙ one_after effect bin added

pub returns : goal.returns
returns g c =
    let effect = effect_of g.V.Merge.terms.merged in
    let bin = get_or c.args.bins.now c.args.place [] in
    let left : c.loop-old.old-iterator.rest.items ≡ [] = nil_from_length c.loop-old.old-iterator.rest.items (search rules) in
    none_after effect bin (map (λ k. k.now) c.loop-old.rest.now) (map option_of c.loop-old.values.items) _
    (c.loop-old.invariant ∙ ap (λ olds. map option_of c.loop-old.values.items ++ values_after effect bin (map (λ k. k.now) c.loop-old.rest.now) (map option_of olds)) left)

pub returns-then-count-eq0 : goal.returns-then-count-eq0
returns-then-count-eq0 g c =
    let effect = effect_of g.V.Merge.terms.merged in
    let none : get_or c.args.bins.now c.args.place [] ≡ [] = nil_from_length _ (sym c.count.ensures.count ∙ search rules) in
    none_pending effect (λ k. k.now) option_of (get_or c.args.bins.now c.args.place []) c.args.keys.now c.args.values.now.items c.append.new.self.items
    c.args.below.items none c.requires.len c.in_ok-append.ensures.items
