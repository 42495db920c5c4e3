use Rattle.std.proofs.Common.{◌∙◌, sym}
use Rattle.bt_message.specs.Effects.{effect_of}
use Rattle.bt_read.specs.inside.ValuesSoFar.{option_of}
use Rattle.bt_read.proofs.lemmas.code.LookupPath.{none_left, one_more, rest_from, rest_sorted}
use Rattle.bt_read.proofs.lookup.after_messages.Goals as goal

pub loop-at-preserved : goal.loop-at-preserved
loop-at-preserved g c =
    let effect = effect_of g.V.Merge.terms.merged in
    let so_far = c.loop-at.invariant in
    record {
      value = so_far.value ∙ one_more effect c.args.key.now c.loop-at.at-iterator c.next.new.self _ _ c.in-Some.ensures.steps c.compare.result
          c.compare.ensures c.if-ne.ensures (option_of c.loop-at.value) (option_of c.in_ok-value.value) c.in_ok-value.ensures;
      from = rest_from effect c.args.key.now c.loop-at.at-iterator c.next.new.self _ _ c.in-Some.ensures.steps c.compare.result c.compare.ensures so_far.from;
      sorted = rest_sorted effect c.args.key.now c.loop-at.at-iterator c.next.new.self _ _ c.in-Some.ensures.steps c.compare.result c.compare.ensures so_far.sorted;
    }

pub returns-then-ne : goal.returns-then-ne
returns-then-ne g c =
    let effect = effect_of g.V.Merge.terms.merged in
    let so_far = c.loop-at.invariant in
    none_left effect c.args.key.now c.loop-at.at-iterator _ _ _ c.in-Some.ensures.steps c.compare.result c.compare.ensures c.if-ne.ensures
    (option_of c.loop-at.value) so_far.from so_far.sorted ∙ sym so_far.value
