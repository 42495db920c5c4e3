use Rattle.std.proofs.Common.{rules}
use Rattle.std.proofs.lemmas.List.Sorted.{IsPartitionPoint-from_clause}
use Rattle.bt_read.proofs.lemmas.code.PivotSearch.{is_up_to, parted, point_is}
use Rattle.bt_read.proofs.lookup.pivots_up_to.Goals as goal

pub returns : goal.returns
returns c =
    let k = c.args.key.now in
    let point = IsPartitionPoint-from_clause (is_up_to k) _ _ c.partition_point.ensures.partitioned (parted k c.args.pivots.now c.requires) (λ a r q called. search rules) in
    record { count = point_is k c.args.pivots.now c.partition_point.result (search rules) point; bound = search rules }
