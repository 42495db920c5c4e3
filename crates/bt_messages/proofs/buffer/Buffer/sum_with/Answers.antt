use Rattle.std.proofs.Common.{◌≡◌, ◌<◌, [], ap, arith, length, subst}
use Rattle.std.specs.Option.{IfSome}
use Rattle.bt_message.specs.Weights.{weigh_of}
use Rattle.bt_messages.proofs.Weighing.{sum-both, sum-first, sum-small}
use Rattle.bt_messages.proofs.offered.Totals.{nothing_pending}
use Rattle.bt_messages.proofs.buffer.Buffer.sum_with.Goals as goal

pub returns-then-is_empty : goal.returns-then-is_empty
returns-then-is_empty g c = λ ms h.
    let none : c.args.self.now ≡ [] = nothing_pending c.args.self.now c.is_empty.result c.is_empty.ensures c.if-is_empty.true in
    sum-first (weigh_of g.V.Merge.terms) ms c.args.self.now c.in_ok-more.more c.args.share.weight none c.in_ok-more.was h

pub overflow_add-result : goal.overflow_add-result
overflow_add-result g c =
    let few : length c.self.inside.messages.items < 9223372036854775808 = omega (arith, ap length c.self.view_is, c.count-bound.ensures.count, c.count-bound.ensures.bound) in
    let more : c.in_ok-more.more < 154742504910672534362390528 = subst (λ sum. IfSome sum (λ n. n < 154742504910672534362390528)) c.in_ok-more.was c.requires in
    let old = sum-small g.V.Merge.terms c.self.inside.messages.items c.self.inside.sum c.in_ok-self.field-0 c.in_ok-self.was few c.self.invariant.kept in
    omega (arith, more, old)

pub returns : goal.returns
returns g c = rw (← c.self.view_is) (λ ms h.
    sum-both (weigh_of g.V.Merge.terms) ms c.self.inside.messages.items c.in_ok-more.more c.in_ok-self.field-0 c.args.share.weight c.self.inside.sum
    c.in_ok-more.was c.in_ok-self.was c.self.invariant.kept h)
