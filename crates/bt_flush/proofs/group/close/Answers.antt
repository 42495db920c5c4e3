use Rattle.std.proofs.Common.{◌≤◌, ◌∙◌, arith, rules}
use Rattle.std.proofs.lemmas.Result.{IfOk-weaker}
use Rattle.bt_flush.proofs.lemmas.code.GroupLoops.{enough_groups, many_groups, one_group}
use Rattle.bt_flush.proofs.group.close.Goals as goal

pub returns-then-count-most : goal.returns-then-count-most
returns-then-count-most g c =
    let some : 1 ≤ c.args.shape.fanout = search rules in
    IfOk-weaker c.with_capacity.result _ _ (λ siblings e. e
    ∙ one_group c.args.shape c.args.children c.into_node-node.result.0 c.into_node-node.result.1 some
    (omega (arith, c.if-count-most.true, c.len-count.ensures, c.fanout-most.ensures.value)) c.into_node-node.ensures)
    c.with_capacity.ensures

pub groups-requires-clause-few : goal.groups-requires-clause-few
groups-requires-clause-few g c =
    let some : 1 ≤ c.div_ceil.result = search rules in
    omega (
      arith,
      enough_groups c.len-count.result c.fanout-most.result c.div_ceil.result (omega (arith, c.fanout-most.ensures.range.0))
          c.fanout-most.ensures.range.1 c.div_ceil.ensures some,
      c.len-count.ensures,
    )

pub returns : goal.returns
returns g c =
    let some : 1 ≤ c.div_ceil.result = search rules in
    IfOk-weaker c.groups.result _ _ (λ siblings e. e
    ∙ many_groups c.args.shape c.args.children c.len-count.result c.fanout-most.result c.div_ceil.result c.len-count.ensures c.fanout-most.ensures.value c.div_ceil.ensures some)
    c.groups.ensures
