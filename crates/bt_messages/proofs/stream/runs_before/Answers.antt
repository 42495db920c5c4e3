use Rattle.std.proofs.Common.{rules}
use Rattle.std.proofs.lemmas.List.Sorted.{IsPartitionPoint-from_clause}
use Rattle.bt_messages.specs.inside.Runs.{begins_before}
use Rattle.bt_messages.proofs.RunLists.{last_run, later_runs, parted_runs}
use Rattle.bt_messages.proofs.stream.runs_before.Goals as goal

pub returns : goal.returns
returns g c =
    let key = c.args.key.now in
    let runs = c.args.runs.now.items in
    let point = IsPartitionPoint-from_clause (begins_before key) _ _ c.partition_point.ensures.partitioned (parted_runs key runs c.requires.some c.requires.sorted) (λ a r q k. search rules) in
    record { bound = search rules; last = λ some. last_run key runs c.partition_point.result point some; from = later_runs key runs c.partition_point.result c.requires.some c.requires.sorted point }
