use Rattle.std.proofs.Common.{◌∙◌, arith, sym}
use Rattle.bt_message.specs.Effects.{effect_of}
use Rattle.bt_read.specs.inside.ValuesSoFar.{option_of}
use Rattle.bt_read.proofs.lemmas.code.LentMessages.{first_left}
use Rattle.bt_read.proofs.lemmas.code.LookupPath.{none_left, one_more, rest_from, rest_sorted}
use Rattle.bt_read.proofs.lent_messages.after_lent.Goals as goal

pub loop-entry-preserved : goal.loop-entry-preserved
loop-entry-preserved g c =
    let effect = effect_of g.V.Merge.terms.merged in
    let here = first_left (λ m. (m.key.now, m.message.now)) c.args.entries.now c.loop-entry.entry-index c.entry-item.result (omega arith) c.entry-item.is in
    let so_far = c.loop-entry.invariant in
    record {
      value = so_far.value ∙ one_more effect c.args.key.now _ _ _ _ here c.compare.result c.compare.ensures c.if-ne.ensures (option_of c.loop-entry.value)
          (option_of c.in_ok-value.value) c.in_ok-value.ensures;
      from = rest_from effect c.args.key.now _ _ _ _ here c.compare.result c.compare.ensures so_far.from;
      sorted = rest_sorted effect c.args.key.now _ _ _ _ here c.compare.result c.compare.ensures so_far.sorted;
    }

pub returns-then-ne : goal.returns-then-ne
returns-then-ne g c =
    let effect = effect_of g.V.Merge.terms.merged in
    let here = first_left (λ m. (m.key.now, m.message.now)) c.args.entries.now c.loop-entry.entry-index c.entry-item.result (omega arith) c.entry-item.is in
    let so_far = c.loop-entry.invariant in
    none_left effect c.args.key.now _ _ _ _ here c.compare.result c.compare.ensures c.if-ne.ensures (option_of c.loop-entry.value) so_far.from so_far.sorted ∙ sym so_far.value
