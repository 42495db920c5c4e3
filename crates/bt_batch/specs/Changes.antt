-- Changes of rows that are given by values: the message of each, or why it is refused.
use Rattle.std.specs.Prelude.{ℕ, ◌+◌, ◌++◌, List, [], ◌∷◌, length, take, Option, IfSome, Result}
use Rattle.bt_value.specs.Results.{both_read, map_ok}
use Rattle.bt_row.specs.Ops.{checked_ops, merged}
use Rattle.bt_row.specs.Schemas.{Schema, checked_as}
use Rattle.bt_row.specs.declared.operations.op.Op.{Op}
use Rattle.bt_value.specs.declared.refusal.Refusal.{Refusal}
use Rattle.bt_value.specs.declared.value.Value.{Value}
use Rattle.bt_keycode.specs.Standing.{Stands}
use Rattle.bt_message.specs.Effects.{effect_of}
use Rattle.bt_batch.specs.Batches.{KeyedMessage, RowMessages, del_of, put_of, ups_of}

-- ---- messages of a schema

-- a message is of a schema: from a row that belongs at its key, or from none, it gives one that belongs there, or none
abbrev pub IsOfSchema : Schema → KeyedMessage → Type 0
IsOfSchema schema message =
    (old : Option (List Value)) → IfSome old (λ row. Stands schema message.0 row) → IfSome (effect_of merged old message.1) (λ row. Stands schema message.0 row)

-- each of the messages is of the schema
abbrev pub AreOfSchema : Schema → RowMessages → Type 0
AreOfSchema schema [] = Unit {0}
AreOfSchema schema (message ∷ messages) = IsOfSchema schema message × AreOfSchema schema messages

-- ---- one change

-- whether values fit the key columns, or their refusal as this item
abbrev pub checked_key : Schema → ℕ → List Value → Result (Unit {0}) Refusal
checked_key schema item key = checked_as (take schema.keys schema.columns) item key

-- two checks, or the smaller of their refusals
abbrev pub both_checked : Result (Unit {0}) Refusal → Result (Unit {0}) Refusal → Result (Unit {0}) Refusal
both_checked first second = map_ok (λ _. tt) (both_read first second)

-- the message to put a row that fits the columns, or its refusal as this item
abbrev pub checked_put : Schema → ℕ → List Value → Result KeyedMessage Refusal
checked_put schema item row = map_ok (λ _. put_of schema.keys row) (checked_as schema.columns item row)

-- the message to remove the row of a key that fits the key columns, or its refusal as this item
abbrev pub checked_del : Schema → ℕ → List Value → Result KeyedMessage Refusal
checked_del schema item key = map_ok (λ _. del_of key) (checked_key schema item key)

-- the message to change the row of a key by operations, if both fit the schema, or the smaller of their refusals as this item
abbrev pub checked_ups : Schema → ℕ → List Value → List Op → Result KeyedMessage Refusal
checked_ups schema item key ops = map_ok (λ _. ups_of schema (key, ops)) (both_checked (checked_key schema item key) (checked_ops schema item ops))

-- ---- several changes

-- changes of the rows of a table with this schema: their messages in order
pub record Changes : Type 0 where
  pub schema : Schema
  pub messages : RowMessages

-- no changes
abbrev pub no_changes : Schema → Changes
no_changes schema = record { schema = schema; messages = [] }

-- the number of the next change, counted from 1
abbrev pub next_item : Changes → ℕ
next_item changes = length changes.messages + 1

-- changes followed by one more
abbrev pub with_change : Changes → KeyedMessage → Changes
with_change changes message = record { schema = changes.schema; messages = changes.messages ++ message ∷ [] }

-- changes followed by a put, a del or an upsert, or its refusal
abbrev pub after_put : Changes → List Value → Result Changes Refusal
after_put changes row = map_ok (with_change changes) (checked_put changes.schema (next_item changes) row)

abbrev pub after_del : Changes → List Value → Result Changes Refusal
after_del changes key = map_ok (with_change changes) (checked_del changes.schema (next_item changes) key)

abbrev pub after_ups : Changes → List Value → List Op → Result Changes Refusal
after_ups changes key ops = map_ok (with_change changes) (checked_ups changes.schema (next_item changes) key ops)
