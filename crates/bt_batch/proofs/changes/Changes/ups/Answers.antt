use Rattle.std.proofs.Common.{rules, ◌≡◌, Ok, subst, sym}
use Rattle.std.proofs.Math.Seq.{take-length}
use Rattle.bt_keycode.specs.Codes.{code_of}
use Rattle.bt_row.specs.Ops.{checked_ops, default_row}
use Rattle.bt_row.specs.Schemas.{Schema}
use Rattle.bt_batch.specs.Batches.{ups_of}
use Rattle.bt_batch.specs.Changes.{IsOfSchema, after_ups, both_checked, checked_key}
use Rattle.bt_batch.proofs.CheckedChanges.{added_not_refused, ups_added, ups_message}
use Rattle.bt_batch.proofs.offered.OfSchema.{ups_is_of_schema}
use Rattle.bt_batch.proofs.changes.Changes.ups.Goals as goal

-- the message is of the schema
pub add-requires : goal.add-requires
add-requires c =
    let passes : both_checked (checked_key c.schema.result.now c.next_item.result c.args.key)
    (checked_ops c.schema.result.now c.next_item.result c.args.ops) ≡ Ok tt = search rules in
    let coded : c.in_ok-code.code ≡ code_of c.args.key = search (rules, take-length c.args.key) in
    let based : c.in_ok-change.change.base ≡ default_row c.args.self.now.schema c.args.key = search rules in
    let operations : c.in_ok-change.change.ops ≡ c.args.ops = search rules in
    let is = ups_message c.args.self.now.schema c.args.key c.args.ops c.in_ok-code.code c.in_ok-change.change coded based operations in
    let fit = subst (λ (s : Schema). IsOfSchema s (ups_of s (c.args.key, c.args.ops))) c.schema.ensures
    (ups_is_of_schema c.schema.result.now c.next_item.result c.args.key c.args.ops passes
    c.in_ok-check_upsert.ensures.in_range.0 c.in_ok-check_upsert.ensures.in_range.1) in
    subst (IsOfSchema c.args.self.now.schema) (sym is) fit

pub returns-clause-done : goal.returns-clause-done
returns-clause-done c =
    let passes : both_checked (checked_key c.schema.result.now c.next_item.result c.args.key)
    (checked_ops c.schema.result.now c.next_item.result c.args.ops) ≡ Ok tt = search rules in
    let coded : c.in_ok-code.code ≡ code_of c.args.key = search (rules, take-length c.args.key) in
    let based : c.in_ok-change.change.base ≡ default_row c.args.self.now.schema c.args.key = search rules in
    let operations : c.in_ok-change.change.ops ≡ c.args.ops = search rules in
    let is = ups_message c.args.self.now.schema c.args.key c.args.ops c.in_ok-code.code c.in_ok-change.change coded based operations in
    ups_added c.args.self.now c.schema.result.now c.next_item.result c.schema.ensures c.next_item.ensures c.args.key c.args.ops
    c.add.new.self passes (search (rules, is))

pub returns-clause-certain : goal.returns-clause-certain
returns-clause-certain c =
    let passes : both_checked (checked_key c.schema.result.now c.next_item.result c.args.key)
    (checked_ops c.schema.result.now c.next_item.result c.args.ops) ≡ Ok tt = search rules in
    let coded : c.in_ok-code.code ≡ code_of c.args.key = search (rules, take-length c.args.key) in
    let based : c.in_ok-change.change.base ≡ default_row c.args.self.now.schema c.args.key = search rules in
    let operations : c.in_ok-change.change.ops ≡ c.args.ops = search rules in
    let is = ups_message c.args.self.now.schema c.args.key c.args.ops c.in_ok-code.code c.in_ok-change.change coded based operations in
    added_not_refused (after_ups c.args.self.now c.args.key c.args.ops) c.add.new.self _
    (ups_added c.args.self.now c.schema.result.now c.next_item.result c.schema.ensures c.next_item.ensures c.args.key c.args.ops
    c.add.new.self passes (search (rules, is)))
