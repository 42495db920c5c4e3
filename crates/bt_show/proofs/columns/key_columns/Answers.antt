use Rattle.std.proofs.Common.{ap, arith, length}
use Rattle.std.proofs.lemmas.List.{length-take}
use Rattle.bt_show.proofs.columns.key_columns.Goals as goal

pub slice_bounds-result-end : goal.slice_bounds-result-end
slice_bounds-result-end c =
    let all = ap length c.requires in
    omega (arith, all, c.key_count.ensures.within, length-take c.key_count.result c.args.columns.now)

pub returns-clause-count : goal.returns-clause-count
returns-clause-count c =
    let all = ap length c.requires in
    omega (arith, all, c.key_count.ensures.within, c.key_count.ensures.count, length-take c.key_count.result c.args.columns.now)
