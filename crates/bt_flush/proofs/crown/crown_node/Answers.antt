use Rattle.std.proofs.Common.{◌<◌, ◌≤◌, ◌∙◌, arith, length, rules}
use Rattle.bt_flush.proofs.lemmas.code.CrownLoop.{children_some, crown_kept, crown_one, fewer, none_divided}
use Rattle.bt_flush.proofs.crown.crown_node.Goals as goal

pub close-requires-clause-some : goal.close-requires-clause-some
close-requires-clause-some g c = children_some c.in_ok-children.children c.levels.level c.in_ok-children.ensures (omega (arith, c.levels-test.true, c.len.ensures.count))

pub close-requires-clause-divided : goal.close-requires-clause-divided
close-requires-clause-divided g c = none_divided c.in_ok-children.children c.levels.level c.in_ok-children.ensures

pub levels-preserved : goal.levels-preserved
levels-preserved g c =
    let two : 2 ≤ c.args.shape.fanout = search rules in
    let several : 1 < length c.levels.level = omega (arith, c.levels-test.true, c.len.ensures.count) in
    crown_kept c.in_ok-children.children c.levels.level c.in_ok-children.ensures c.args.shape two several c.in_ok-level.level c.in_ok-level.ensures ∙ c.levels.invariant

pub levels-smaller : goal.levels-smaller
levels-smaller g c =
    let two : 2 ≤ c.args.shape.fanout = search rules in
    let several : 1 < length c.levels.level = omega (arith, c.levels-test.true, c.len.ensures.count) in
    fewer c.in_ok-children.children c.levels.level c.in_ok-children.ensures c.args.shape two several c.in_ok-level.level c.in_ok-level.ensures

pub into_only-requires : goal.into_only-requires
into_only-requires g c = omega (arith, c.levels-test.false, c.len.ensures.count, c.len.ensures.some)

pub returns : goal.returns
returns g c = crown_one c.args.shape c.levels.level c.into_only.result c.into_only.ensures ∙ c.levels.invariant
