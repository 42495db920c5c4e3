use Rattle.std.proofs.Common.{◌≡◌, ◌∙◌, [], get_or, subst, sym}
use Rattle.bt_keycode.specs.Keys.{IsSorted}
use Rattle.bt_message.specs.Effects.{effect_of}
use Rattle.bt_form.specs.Messages.{from}
use Rattle.bt_read.proofs.lemmas.code.LookupPath.{all_left, begins_anew, goes_on, leads_from, left_from, rest_from, rest_sorted}
use Rattle.bt_read.proofs.lookup.since_reset.Goals as goal

pub loop-at-init : goal.loop-at-init
loop-at-init g c =
    let effect = effect_of g.V.Merge.terms.merged in
    let k = c.args.key.now in
    let bin = get_or c.args.bins.now c.args.place [] in
    let left : c.bin_from-left.result ≡ from k bin = c.bin_from-left.ensures.messages in
    let rest : c.again-rest.result ≡ c.bin_from-left.result = c.again-rest.ensures.messages in
    record {
      next = tt;
      finite = tt;
      value = λ old. all_left effect k bin _ old left;
      from = left_from effect k bin _ left;
      sorted = c.bin_from-left.ensures.sorted;
      rest = leads_from effect k bin _ (rest ∙ left);
      rest_from = left_from effect k bin _ (rest ∙ left);
      rest_sorted = subst IsSorted (sym rest) c.bin_from-left.ensures.sorted;
    }

pub loop-at-preserved-in-Some-reset : goal.loop-at-preserved-in-Some-reset
loop-at-preserved-in-Some-reset g c =
    let effect = effect_of g.V.Merge.terms.merged in
    let k = c.args.key.now in
    let so_far = c.loop-at.invariant in
    let left : c.again-left.result ≡ c.next.new.self = c.again-left.ensures.messages in
    let from = rest_from effect k c.loop-at.rest c.next.new.self _ _ c.in-Some.ensures.steps c.compare.result c.compare.ensures so_far.rest_from in
    let sorted = rest_sorted effect k c.loop-at.rest c.next.new.self _ _ c.in-Some.ensures.steps c.compare.result c.compare.ensures so_far.rest_sorted in
    record {
      next = tt;
      finite = tt;
      value = begins_anew effect k c.loop-at.rest c.next.new.self _ _ c.in-Some.ensures.steps c.compare.result c.compare.ensures c.if-ne.ensures
          (get_or c.args.bins.now c.args.place []) _ c.in-Some-reset.held so_far.rest c.in-Some-reset.ensures left;
      from = rw left from;
      sorted = rw left sorted;
      rest = goes_on effect k c.loop-at.rest c.next.new.self _ _ c.in-Some.ensures.steps c.compare.result c.compare.ensures c.if-ne.ensures (get_or c.args.bins.now c.args.place []) so_far.rest;
      rest_from = from;
      rest_sorted = sorted;
    }

pub loop-at-preserved : goal.loop-at-preserved
loop-at-preserved g c =
    let effect = effect_of g.V.Merge.terms.merged in
    let k = c.args.key.now in
    let so_far = c.loop-at.invariant in
    record {
      next = tt;
      finite = tt;
      value = so_far.value;
      from = so_far.from;
      sorted = so_far.sorted;
      rest = goes_on effect k c.loop-at.rest c.next.new.self _ _ c.in-Some.ensures.steps c.compare.result c.compare.ensures c.if-ne.ensures (get_or c.args.bins.now c.args.place []) so_far.rest;
      rest_from = rest_from effect k c.loop-at.rest c.next.new.self _ _ c.in-Some.ensures.steps c.compare.result c.compare.ensures so_far.rest_from;
      rest_sorted = rest_sorted effect k c.loop-at.rest c.next.new.self _ _ c.in-Some.ensures.steps c.compare.result c.compare.ensures so_far.rest_sorted;
    }
