use Rattle.std.proofs.Common.{◌<◌, ◌∙◌, ap, arith, length, subst, sym, take}
use Rattle.bt_keycode.specs.Keys.{IsSorted}
use Rattle.bt_message.specs.Messages.{with_messages}
use Rattle.bt_message.specs.Weights.{IsSum, weigh_of}
use Rattle.bt_messages.specs.inside.Sums.{IsBuffer}
use Rattle.bt_messages.proofs.Errors.{at_error}
use Rattle.bt_messages.proofs.Weighing.{share-small}
use Rattle.bt_messages.proofs.buffer.Buffer.insert_front.Goals as goal

pub sum_with-sum-requires : goal.sum_with-sum-requires
sum_with-sum-requires g c =
    let few : length c.args.stream.now < 9223372036854775808 = omega (arith, c.len-bound.ensures.len, c.len-bound.ensures.bound) in
    share-small g.V.Merge.terms c.args.share.count c.args.stream.now c.args.share.weight few c.requires.1

pub reserve-requires : goal.reserve-requires
reserve-requires g c = omega (arith, c.requires.0, c.len-bound.ensures.len, c.len-bound.ensures.bound)

pub insert_front-requires-clause-count : goal.insert_front-requires-clause-count
insert_front-requires-clause-count g c = c.requires.0

pub insert_front-requires-clause-sorted : goal.insert_front-requires-clause-sorted
insert_front-requires-clause-sorted g c = subst IsSorted (sym c.in_ok-reserve.ensures.same) c.self.invariant.sorted

pub invariant_of-self : goal.invariant_of-self
invariant_of-self g c = subst (λ ms. IsBuffer (weigh_of g.V.Merge.terms) ms c.self.inside.sum) (sym c.in_err-reserve.ensures.same) c.self.invariant

pub returns-in_err-reserve-clause-err : goal.returns-in_err-reserve-clause-err
returns-in_err-reserve-clause-err g c = at_error c.from_residual.result (c.in_err-reserve.ensures.same ∙ c.self.view_is)

pub returns-clause-added : goal.returns-clause-added
returns-clause-added g c = c.insert_front.ensures.inserted ∙ ap (with_messages (take c.args.share.count c.args.stream.now)) (c.in_ok-reserve.ensures.same ∙ c.self.view_is)

pub returns-clause-left : goal.returns-clause-left
returns-clause-left g c = c.insert_front.ensures.left

pub invariant_of-self-2 : goal.invariant_of-self-2
invariant_of-self-2 g c =
    let more = take c.args.share.count c.args.stream.now in
    let now = c.insert_front.ensures.inserted ∙ ap (with_messages more) (c.in_ok-reserve.ensures.same ∙ c.self.view_is) in
    record {
      sorted = c.insert_front.ensures.sorted;
      kept = subst (λ ms. IsSum (weigh_of g.V.Merge.terms) ms c.sum_with-sum.result) (sym now) (c.sum_with-sum.ensures more c.requires.1);
    }
