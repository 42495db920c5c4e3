use Rattle.std.proofs.Common.{◌≤◌, ◌∙◌, ap, arith, length, map, subst, sym, take}
use Rattle.bt_messages.specs.Bins.{parts}
use Rattle.bt_messages.specs.Parts.{parted, total}
use Rattle.bt_messages.specs.Shares.{AreShares, counts, share_of}
use Rattle.bt_message.specs.Weights.{weigh_of}
use Rattle.bt_message.specs.declared.measure.Measure.TheVariants as measures
use Rattle.bt_messages.proofs.Weighing.{are-shares, counts-weighed, length-counts, shares-counted}
use Rattle.bt_messages.proofs.stream.Stream.shares.Goals as goal

pub returns-in-Messages-clause-each : goal.returns-in-Messages-clause-each
returns-in-Messages-clause-each g c =
    let w = weigh_of g.V.Merge.terms in
    let ns = counts c.in_ok-shares.shares.items in
    let enough : total ns ≤ length c.args.self.now = omega (arith, c.in_ok-shares.ensures.total, c.requires) in
    c.in_ok-shares.ensures.counted ∙ shares-counted w ns c.args.self.now enough ∙ ap (map (share_of w measures.Messages)) c.in_ok-shares.ensures.parts
    ∙ ap (λ measure. map (share_of w measure) (parts c.args.pivots.now (take c.args.count c.args.self.now))) (sym c.in-Messages.is)

pub returns-in-Messages-clause-shares : goal.returns-in-Messages-clause-shares
returns-in-Messages-clause-shares g c =
    let w = weigh_of g.V.Merge.terms in
    let ns = counts c.in_ok-shares.shares.items in
    let enough : total ns ≤ length c.args.self.now = omega (arith, c.in_ok-shares.ensures.total, c.requires) in
    subst (AreShares w c.args.self.now) (sym (c.in_ok-shares.ensures.counted ∙ shares-counted w ns c.args.self.now enough)) (are-shares w measures.Messages ns c.args.self.now enough)

pub returns-in-Bytes-clause-shares : goal.returns-in-Bytes-clause-shares
returns-in-Bytes-clause-shares g c =
    let w = weigh_of g.V.Merge.terms in
    let ns = counts c.in_ok-shares.shares.items in
    let enough : total ns ≤ length c.args.self.now = omega (arith, c.in_ok-shares.ensures.total, c.requires) in
    subst (AreShares w c.args.self.now) (sym (c.weighed_shares.ensures ∙ ap (λ ms. map (share_of w measures.Bytes) (parted ns ms)) (c.messages.ensures ∙ c.keep_weights.ensures)))
    (are-shares w measures.Bytes ns c.args.self.now enough)

pub returns-in-Bytes-clause-parts : goal.returns-in-Bytes-clause-parts
returns-in-Bytes-clause-parts g c =
    let ns = counts c.in_ok-shares.shares.items in
    let enough : total ns ≤ length c.args.self.now = omega (arith, c.in_ok-shares.ensures.total, c.requires) in
    let same = counts-weighed (weigh_of g.V.Merge.terms) ns c.args.self.now c.messages.result c.weighed_shares.result.items enough (c.messages.ensures
    ∙ c.keep_weights.ensures) c.weighed_shares.ensures in
    ap (λ ks. parted ks c.args.self.now) same ∙ c.in_ok-shares.ensures.parts

pub returns-in-Bytes-clause-total : goal.returns-in-Bytes-clause-total
returns-in-Bytes-clause-total g c =
    let ns = counts c.in_ok-shares.shares.items in
    let enough : total ns ≤ length c.args.self.now = omega (arith, c.in_ok-shares.ensures.total, c.requires) in
    ap total (counts-weighed (weigh_of g.V.Merge.terms) ns c.args.self.now c.messages.result c.weighed_shares.result.items enough (c.messages.ensures
    ∙ c.keep_weights.ensures) c.weighed_shares.ensures) ∙ c.in_ok-shares.ensures.total

pub returns-in-Bytes-clause-len : goal.returns-in-Bytes-clause-len
returns-in-Bytes-clause-len g c =
    let ns = counts c.in_ok-shares.shares.items in
    let enough : total ns ≤ length c.args.self.now = omega (arith, c.in_ok-shares.ensures.total, c.requires) in
    let same = counts-weighed (weigh_of g.V.Merge.terms) ns c.args.self.now c.messages.result c.weighed_shares.result.items enough (c.messages.ensures
    ∙ c.keep_weights.ensures) c.weighed_shares.ensures in
    omega (arith, length-counts c.weighed_shares.result.items, ap length same, length-counts c.in_ok-shares.shares.items, c.in_ok-shares.ensures.len)

pub weighed_shares-requires-clause-bound : goal.weighed_shares-requires-clause-bound
weighed_shares-requires-clause-bound g c = omega (arith, ap length (c.messages.ensures ∙ c.keep_weights.ensures), c.len-bound.ensures.len, c.len-bound.ensures.bound)
