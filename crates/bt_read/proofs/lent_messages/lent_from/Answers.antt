use Rattle.std.proofs.Common.{rules}
use Rattle.std.proofs.lemmas.List.Sorted.{IsPartitionPoint-from_clause}
use Rattle.bt_keycode.specs.Keys.{is_before}
use Rattle.bt_read.proofs.lemmas.code.LentMessages.{halves, slice_from}
use Rattle.bt_read.proofs.lent_messages.lent_from.Goals as goal

pub returns : goal.returns
returns g c =
    let key = c.args.key.now in
    let entries = c.args.entries.now in
    slice_from (λ m. (m.key.now, m.message.now)) key entries c.partition_point-place.result
    (IsPartitionPoint-from_clause (λ m. is_before m.key.now key) _ _ c.partition_point-place.ensures.partitioned
    (halves (λ m. (m.key.now, m.message.now)) key entries c.requires) (λ a r q called. search rules))
