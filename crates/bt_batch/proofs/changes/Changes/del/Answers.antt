use Rattle.std.proofs.Common.{rules, ◌≡◌, Ok}
use Rattle.std.proofs.Math.Seq.{take-length}
use Rattle.bt_keycode.specs.Codes.{code_of}
use Rattle.bt_batch.specs.Changes.{after_del, checked_key}
use Rattle.bt_batch.proofs.CheckedChanges.{added_not_refused, del_added}
use Rattle.bt_batch.proofs.changes.Changes.del.Goals as goal

-- a del is of any schema
pub add-requires : goal.add-requires
add-requires c = λ old stands. tt

pub returns-clause-done : goal.returns-clause-done
returns-clause-done c =
    let passes : checked_key c.schema.result.now c.next_item.result c.args.key.now ≡ Ok tt = search rules in
    let coded : c.in_ok-code.code ≡ code_of c.args.key.now = search (rules, take-length c.args.key.now) in
    del_added c.args.self.now c.schema.result.now c.next_item.result c.schema.ensures c.next_item.ensures c.args.key.now
    c.add.new.self passes (search (rules, coded))

pub returns-clause-certain : goal.returns-clause-certain
returns-clause-certain c =
    let passes : checked_key c.schema.result.now c.next_item.result c.args.key.now ≡ Ok tt = search rules in
    let coded : c.in_ok-code.code ≡ code_of c.args.key.now = search (rules, take-length c.args.key.now) in
    added_not_refused (after_del c.args.self.now c.args.key.now) c.add.new.self _
    (del_added c.args.self.now c.schema.result.now c.next_item.result c.schema.ensures c.next_item.ensures c.args.key.now
    c.add.new.self passes (search (rules, coded)))
