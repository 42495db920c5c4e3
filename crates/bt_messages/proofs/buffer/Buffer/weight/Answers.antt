use Rattle.std.proofs.Common.{◌≡◌, ◌<◌, ◌∙◌, ap, arith, length}
use Rattle.bt_message.specs.Weights.{weigh_of, weight}
use Rattle.bt_messages.proofs.Weighing.{sum-small}
use Rattle.bt_messages.proofs.offered.Loads.{weight-small}
use Rattle.bt_messages.proofs.buffer.Buffer.weight.Goals as goal

pub returns-in-Some-clause-bound : goal.returns-in-Some-clause-bound
returns-in-Some-clause-bound g c =
    let ms = c.self.inside.messages.items in
    let few : length ms < 9223372036854775808 = omega (arith, ap length c.self.view_is, c.count-bound.ensures.count, c.count-bound.ensures.bound) in
    sum-small g.V.Merge.terms ms c.self.inside.sum c.in-Some.sum c.in-Some.is few c.self.invariant.kept

pub returns-in-None-clause-bound : goal.returns-in-None-clause-bound
returns-in-None-clause-bound g c =
    let ms = c.self.inside.messages.items in
    let few : length ms < 9223372036854775808 = omega (arith, ap length c.self.view_is, c.count-bound.ensures.count, c.count-bound.ensures.bound) in
    let all : c.weigh_all.result ≡ weight (weigh_of g.V.Merge.terms) ms = c.weigh_all.ensures ∙ ap (weight (weigh_of g.V.Merge.terms)) c.as_slice.ensures.value in
    omega (arith, all, weight-small g.V.Merge.terms ms few)
