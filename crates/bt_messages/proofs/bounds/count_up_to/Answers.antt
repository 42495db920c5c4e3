use Rattle.std.proofs.Common.{not, rules}
use Rattle.std.proofs.lemmas.List.Sorted.{IsPartitionPoint-from_clause}
use Rattle.bt_keycode.specs.Keys.{is_before}
use Rattle.bt_messages.proofs.Insertions.{parted_up, up_to_parts}
use Rattle.bt_messages.proofs.bounds.count_up_to.Goals as goal

pub returns : goal.returns
returns g c =
    let point = IsPartitionPoint-from_clause (λ m. not (is_before c.args.key.now m.0)) _ _ c.partition_point.ensures.partitioned
    (parted_up c.args.key.now c.args.messages.now c.requires) (λ a r q k. search rules) in
    let parts = up_to_parts c.args.key.now c.args.messages.now c.partition_point.result point in
    record { bound = search rules; up_to = parts.0; past = parts.1 }
