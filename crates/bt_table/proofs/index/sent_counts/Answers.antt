use Rattle.std.proofs.Common.{◌≡◌, ◌∙◌, ap, arith, get_or, length, map}
use Rattle.bt_fanout.proofs.offered.Mapped.{mapped_next}
use Rattle.bt_table.specs.inside.IndexTrees.{count_for, packet_for}
use Rattle.bt_table.proofs.Targets.{mapped_at}
use Rattle.bt_table.proofs.index.sent_counts.Goals as goal

pub loop-place-preserved : goal.loop-place-preserved
loop-place-preserved c = λ effects are.
    let head = c.index-heads-place.result in
    let packet = c.index-packets-place.result in
    let there = mapped_at (packet_for effects) c.args.heads.now c.loop-place.place head packet (omega arith) c.index-heads-place.is
    (c.index-packets-place.is ∙ ap (λ packets. get_or packets c.loop-place.place packet) are) in
    let name = ap (λ n. record { name = n; count = c.len-count.result }) c.in_ok-name.ensures in
    let count = ap (λ k. record { name = head.name; count = k }) (c.len-count.ensures.count ∙ ap length there) in
    mapped_next (count_for effects) c.args.heads.now c.loop-place.sent _ c.loop-place.place head _ (omega arith) (c.loop-place.invariant effects are)
    c.index-heads-place.is (name ∙ count) c.in_ok-push.ensures.ok
