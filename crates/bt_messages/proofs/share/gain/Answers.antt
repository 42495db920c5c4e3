use Rattle.std.proofs.Common.{◌≡◌, ◌<◌, ◌++◌, ◌∙◌, ap, arith, length, rules, subst, sym, take, vec_len}
use Rattle.bt_message.specs.Messages.{with_messages}
use Rattle.bt_message.specs.Weights.{IsSum, weigh_of}
use Rattle.bt_messages.proofs.Sharing.{fits_all, gained_sorted}
use Rattle.bt_messages.proofs.Weighing.{share-small}
use Rattle.bt_messages.proofs.share.gain.Goals as goal

pub merge_front-requires-clause-room : goal.merge_front-requires-clause-room
merge_front-requires-clause-room g c =
    let merged : vec_len c.replace-merged.result ≡ length c.replace-merged.result.items = search rules in
    let older : vec_len c.into_messages.result ≡ length c.into_messages.result.items = search rules in
    let some : 0 < c.args.share.count = search rules in
    fits_all c.args.room.now c.replace-merged.result c.into_messages.result c.args.buffer.now c.args.share.count c.replace-merged.ensures.value
    (c.into_messages.ensures.messages ∙ c.replace-older.ensures.value) merged older c.requires.room some

pub sum_with-sum-requires : goal.sum_with-sum-requires
sum_with-sum-requires g c =
    let few : length c.args.stream.now < 9223372036854775808 = omega (arith, c.len-bound.ensures.len, c.len-bound.ensures.bound) in
    share-small g.V.Merge.terms c.args.share.count c.args.stream.now c.args.share.weight few c.requires.share.1

pub with_sum-requires : goal.with_sum-requires
with_sum-requires g c =
    let more = take c.args.share.count c.args.stream.now in
    let none = ap (λ room. room.items) c.replace-merged.ensures.value ∙ c.requires.room.0 in
    let older = c.into_messages.ensures.messages ∙ c.replace-older.ensures.value in
    let merged = c.merge_front.ensures.merged in
    record {
      sorted = gained_sorted c.replace-merged.result.items c.merge_front.new.merged.items more c.into_messages.result.items merged none c.into_messages.ensures.sorted;
      kept = subst (λ ms. IsSum (weigh_of g.V.Merge.terms) ms c.sum_with-sum.result)
          (sym (merged ∙ ap (λ ms. ms ++ with_messages more c.into_messages.result.items) none ∙ ap (with_messages more) older))
          (c.sum_with-sum.ensures more c.requires.share.1);
    }
