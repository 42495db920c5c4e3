use Rattle.std.proofs.Common.{◌∙◌, ◌<◌, ◌≤◌, ap, arith, length, refl, rules, subst, take}
use Rattle.std.specs.Int.{div_ceil}
use Rattle.bt_gather.specs.inside.NewLeaves.{first_items}
use Rattle.bt_gather.specs.inside.RoundJobs.{IsLeafJob}
use Rattle.bt_gather.proofs.DealtTrees.{dealt-jobs, dealt-next, none-dealt, some-parts}
use Rattle.bt_gather.proofs.EvenParts.{deal-tight}
use Rattle.bt_gather.proofs.new_leaves.deal_packet.Goals as goal

pub parts-init : goal.parts-init
parts-init g c =
    let shape = c.args.tree.0 in
    let roomy : 0 < shape.leaf = omega (arith, c.has_shape.ensures.roomy.leaf) in
    let many = c.div_ceil-leaves.ensures ∙ ap (λ n. div_ceil n c.leaf-most.result) c.len-count.ensures.count
    ∙ ap (div_ceil (length c.args.packet)) (c.leaf-most.ensures.value ∙ ap (λ s. s.leaf) c.shape-shape.ensures) in
    none-dealt g.V.Merge.terms shape c.args.packet _ _ _ _ _ (search rules) (search rules) c.into_stream-stream.ensures many c.requires.new (deal-tight shape.leaf (length c.args.packet) roomy)

pub first_items-size-requires-clause-some : goal.first_items-size-requires-clause-some
first_items-size-requires-clause-some g c = omega (arith, c.parts-test.true)

pub first_items-size-requires-clause-few : goal.first_items-size-requires-clause-few
first_items-size-requires-clause-few g c = omega (arith, c.min-next.ensures)

pub next_part-requires : goal.next_part-requires
next_part-requires g c = omega (arith, c.first_items-size.ensures.most, c.len-rows.ensures.len)

pub parts-preserved : goal.parts-preserved
parts-preserved g c =
    let shape = c.args.tree.0 in
    let some : 1 ≤ c.parts.leaves = omega (arith, c.parts-test.true) in
    let one : 1 ≤ c.min-next.result = omega (arith, c.min-next.ensures, c.max-each.ensures, some) in
    let few : c.min-next.result ≤ c.parts.leaves = omega (arith, c.min-next.ensures) in
    let size = c.first_items-size.ensures.items ∙ ap (λ n. first_items n c.parts.leaves c.min-next.result) c.len-rows.ensures.len in
    let part = c.in_ok-start.ensures in
    dealt-next g.V.Merge.terms shape (omega (arith, c.has_shape.ensures.roomy.leaf)) c.args.packet (div_ceil (length c.args.packet) shape.leaf)
    c.parts.starts.items c.parts.jobs.items c.parts.stream c.parts.leaves c.parts.invariant some c.min-next.result one few c.first_items-size.result size
    c.next_part.new.stream part.left c.in_ok-start.start part.start c.in_ok-start.job
    (subst (λ s. IsLeafJob s (take c.first_items-size.result c.parts.stream) c.in_ok-start.job) c.shape-shape.ensures part.job)
    _ c.in_ok-push.ensures.items _ c.in_ok-push-2.ensures.items _ refl

pub parts-smaller : goal.parts-smaller
parts-smaller g c = omega (arith, c.min-next.ensures, c.max-each.ensures, c.parts-test.true)

pub returns-clause-jobs : goal.returns-clause-jobs
returns-clause-jobs g c =
    let shape = c.args.tree.0 in
    let roomy : 0 < shape.leaf = omega (arith, c.has_shape.ensures.roomy.leaf) in
    let count = length c.args.packet in
    dealt-jobs g.V.Merge.terms shape c.args.tree.1 c.has_shape.ensures c.requires.bare c.args.packet c.requires.new (div_ceil count shape.leaf)
    (some-parts count shape.leaf (omega (arith, c.requires.several)) roomy) (deal-tight shape.leaf count roomy)
    c.parts.starts.items c.parts.jobs.items c.parts.stream c.parts.leaves (omega (arith, c.parts-test.false)) c.parts.invariant
    c.parts.starts refl c.in_ok-room.room (c.in_ok-room.ensures.items, omega (arith, c.in_ok-room.ensures.capacity, c.len-many.ensures, c.parts.starts.ok.0)) c.shape-shape.result c.shape-shape.ensures
