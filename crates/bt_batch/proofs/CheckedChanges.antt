-- Changes that were checked, or refused. Serves the calls that add them.
use Rattle.std.proofs.Common.{ℕ, ◌≡◌, ◌∙◌, List, sym, ap, Result, Ok, Err, IfErr, OnOk, subst}
use Rattle.bt_value.specs.Results.{map_ok}
use Rattle.bt_value.specs.declared.refusal.Refusal.{Refusal}
use Rattle.bt_value.specs.declared.value.Value.{Value}
use Rattle.bt_row.specs.Ops.{Change, checked_ops, default_row}
use Rattle.bt_row.specs.Schemas.{Schema, checked_as}
use Rattle.bt_row.specs.declared.operations.op.Op.{Op}
use Rattle.bt_keycode.specs.Codes.{code_of}
use Rattle.bt_keycode.specs.Keys.{Key}
use Rattle.bt_message.specs.declared.message.Message.TheVariants as message
use Rattle.bt_batch.specs.Batches.{KeyedMessage, del_of, put_of, ups_of}
use Rattle.bt_batch.specs.Changes.{Changes, after_del, after_put, after_ups, both_checked, checked_key, next_item, with_change}

-- a change that passes its check is added
mapped : (changes : Changes) (message : KeyedMessage) (check : Result (Unit {0}) Refusal) → check ≡ Ok tt
    → map_ok (with_change changes) (map_ok (λ _. message) check) ≡ Ok (with_change changes message)
mapped changes message check is = ap (λ (c : Result (Unit {0}) Refusal). map_ok (with_change changes) (map_ok (λ _. message) c)) is

module _ (changes : Changes) (schema : Schema) (item : ℕ) (of_schema : schema ≡ changes.schema) (number : item ≡ next_item changes) where
  module _ (row : List Value) where
    put_check : checked_as changes.schema.columns (next_item changes) row ≡ checked_as schema.columns item row
    put_check = λ i. checked_as (sym of_schema i).columns (sym number i) row

    pub put_added : (new : Changes) → checked_as schema.columns item row ≡ Ok tt → new ≡ with_change changes (put_of changes.schema.keys row)
        → after_put changes row ≡ Ok new
    put_added new passes is = mapped changes (put_of changes.schema.keys row) _ (put_check ∙ passes) ∙ ap Ok (sym is)

    del_check : checked_key changes.schema (next_item changes) row ≡ checked_key schema item row
    del_check = λ i. checked_key (sym of_schema i) (sym number i) row

    pub del_added : (new : Changes) → checked_key schema item row ≡ Ok tt → new ≡ with_change changes (del_of row) → after_del changes row ≡ Ok new
    del_added new passes is = mapped changes (del_of row) _ (del_check ∙ passes) ∙ ap Ok (sym is)

    module _ (ops : List Op) where
      ups_check : both_checked (checked_key changes.schema (next_item changes) row) (checked_ops changes.schema (next_item changes) ops)
          ≡ both_checked (checked_key schema item row) (checked_ops schema item ops)
      ups_check = λ i. both_checked (checked_key (sym of_schema i) (sym number i) row) (checked_ops (sym of_schema i) (sym number i) ops)

      pub ups_added : (new : Changes) → both_checked (checked_key schema item row) (checked_ops schema item ops) ≡ Ok tt
          → new ≡ with_change changes (ups_of changes.schema (row, ops)) → after_ups changes row ops ≡ Ok new
      ups_added new passes is = mapped changes (ups_of changes.schema (row, ops)) _ (ups_check ∙ passes) ∙ ap Ok (sym is)

-- what is added is not refused
pub added_not_refused : (answer : Result Changes Refusal) (new : Changes) (P : Refusal → Type 0) → answer ≡ Ok new → IfErr answer P
added_not_refused (Ok changes) new P is = tt
added_not_refused (Err refusal) new P is = absurd cc

-- two checks pass only if the second does
pub both_on_ok : (first second result : Result (Unit {0}) Refusal) (P Q : Type 0) → result ≡ both_checked first second → P → OnOk second Q → OnOk result (P × Q)
both_on_ok (Ok one) (Ok other) result P Q is p q = subst (λ (r : Result (Unit {0}) Refusal). OnOk r (P × Q)) (sym is) (p, q)
both_on_ok (Ok one) (Err refusal) result P Q is p q = subst (λ (r : Result (Unit {0}) Refusal). OnOk r (P × Q)) (sym is) tt
both_on_ok (Err refusal) (Ok other) result P Q is p q = subst (λ (r : Result (Unit {0}) Refusal). OnOk r (P × Q)) (sym is) tt
both_on_ok (Err refusal) (Err other) result P Q is p q = subst (λ (r : Result (Unit {0}) Refusal). OnOk r (P × Q)) (sym is) tt

-- the message of an upsert by its parts
pub ups_message : (schema : Schema) (key : List Value) (ops : List Op) (code : Key) (change : Change)
    → code ≡ code_of key → change.base ≡ default_row schema key → change.ops ≡ ops
    → ◌≡◌ {A = KeyedMessage} (code, message.Ups change) (ups_of schema (key, ops))
ups_message schema key ops code change coded based operations = λ i. (coded i, message.Ups (record { base = based i; ops = operations i }))
