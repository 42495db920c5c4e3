use Rattle.std.proofs.Common.{rules, ◌≡◌, Ok}
use Rattle.bt_row.specs.Schemas.{checked_as}
use Rattle.bt_batch.specs.Changes.{after_put}
use Rattle.bt_batch.proofs.CheckedChanges.{added_not_refused, put_added}
use Rattle.bt_batch.proofs.offered.OfSchema.{put_is_of_schema}
use Rattle.bt_batch.proofs.changes.Changes.put.Goals as goal

-- the message is of the schema
pub add-requires : goal.add-requires
add-requires c =
    let passes : checked_as c.schema.result.now.columns c.next_item.result c.args.row ≡ Ok tt = search rules in
    search (rules, put_is_of_schema c.schema.result.now c.next_item.result c.args.row passes c.check_row.ensures.in_range)

pub returns-clause-done : goal.returns-clause-done
returns-clause-done c =
    let passes : checked_as c.schema.result.now.columns c.next_item.result c.args.row ≡ Ok tt = search rules in
    put_added c.args.self.now c.schema.result.now c.next_item.result c.schema.ensures c.next_item.ensures c.args.row _ passes (search rules)

pub returns-clause-certain : goal.returns-clause-certain
returns-clause-certain c =
    let passes : checked_as c.schema.result.now.columns c.next_item.result c.args.row ≡ Ok tt = search rules in
    added_not_refused (after_put c.args.self.now c.args.row) c.add.new.self _
    (put_added c.args.self.now c.schema.result.now c.next_item.result c.schema.ensures c.next_item.ensures c.args.row c.add.new.self passes (search rules))
