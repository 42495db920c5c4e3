use Rattle.std.proofs.Common.{◌∙◌, ap, arith, length, take}
use Rattle.std.proofs.lemmas.List.{length-drop, length-take}
use Rattle.bt_message.specs.Weights.{weigh_of}
use Rattle.bt_messages.proofs.Weighing.{left-next, weight-next}
use Rattle.bt_messages.proofs.offered.Loads.{weight-small}
use Rattle.bt_messages.proofs.stream_messages.StreamMessages.weigh_next.Goals as goal

pub overflow_add-sum : goal.overflow_add-sum
overflow_add-sum g c =
    let some = c.weigh_some-messages.ensures in
    let all = take c.args.count c.args.self.now in
    omega (
      arith,
      c.loop-left.invariant.sum,
      some.weight,
      weight-next (weigh_of g.V.Merge.terms) _ c.loop-left.left c.loop-left.self _ some.most some.left,
      weight-small g.V.Merge.terms all (omega (arith, length-take c.args.count c.args.self.now, c.requires.bound)),
    )

pub loop-left-preserved : goal.loop-left-preserved
loop-left-preserved g c =
    let some = c.weigh_some-messages.ensures in
    let w = weigh_of g.V.Merge.terms in
    record {
      sum = omega (arith, c.loop-left.invariant.sum, some.weight, weight-next w _ c.loop-left.left c.loop-left.self _ some.most some.left);
      left = left-next w _ c.loop-left.left c.loop-left.self _ some.most some.left ∙ c.loop-left.invariant.left;
      enough = omega (arith, c.loop-left.invariant.enough, ap length some.left, length-drop c.weigh_some-messages.result.0 c.loop-left.self);
    }
