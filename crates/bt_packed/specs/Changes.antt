-- Packed changes: puts, dels and upserts in order.
use Rattle.std.specs.Prelude.{ℕ, zero, suc, ◌+◌, ◌==◌, ◌++◌, List, [], ◌∷◌, take, slice_get, Option, Some, None, Result, Ok, Err, if◌then◌else◌}
use Rattle.bt_value.specs.declared.refusal.Refusal.{Refusal}
use Rattle.bt_value.specs.declared.refusal.Refusal.TheVariants.{NoSuchColumn}
use Rattle.bt_value.specs.declared.value.Value.{Value}
use Rattle.bt_row.specs.Arithmetic.{op_making}
use Rattle.bt_row.specs.Ops.{checked_ops}
use Rattle.bt_row.specs.Schemas.{Schema}
use Rattle.bt_row.specs.declared.operations.op.Arithmetic.{Arithmetic}
use Rattle.bt_row.specs.declared.operations.op.Arithmetic.TheVariants as arithmetic
use Rattle.bt_row.specs.declared.operations.op.Op.{Op}
use Rattle.bt_row.specs.declared.operations.op.Op.TheVariants as op
use Rattle.bt_row.specs.declared.rows.schema.Column.{Column}
use Rattle.bt_message.specs.Messages.{sorted_batch}
use Rattle.bt_batch.specs.Batches.{RowMessages}
use Rattle.bt_batch.specs.Changes.{Changes, after_del, after_put, after_ups, next_item, no_changes}
use Rattle.bt_packed.specs.Layout.{Read, bad_bytes, fault_at, header_at, int_at, no_header, on_ok, or_fault, then_read, value_at, values_at}
use Rattle.bt_packed.specs.declared.fault.Fault.{Fault}

-- ---- operations

-- the arithmetic of an operation with this code; code 0 sets a value
abbrev pub arithmetic_of : ℕ → Option Arithmetic
arithmetic_of code = if code == 1 then Some arithmetic.Add else if code == 2 then Some arithmetic.Max else if code == 3 then Some arithmetic.Min else None

-- an operation that sets the value at a place
abbrev pub set_at : ℕ → ℕ → Option Column → List ℕ → Result (Read Op) Fault
set_at item place None bytes = Err (fault_at NoSuchColumn item (place + 1))
set_at item place (Some column) bytes =
    then_read (λ read. Ok (op.Set place read.0, read.1)) (or_fault (bad_bytes item (place + 1)) (value_at column.kind bytes))

-- an operation that does arithmetic on the int at a place
abbrev pub make_at : ℕ → ℕ → Option Arithmetic → List ℕ → Result (Read Op) Fault
make_at item place None bytes = Err (bad_bytes item 0)
make_at item place (Some arithmetic) bytes =
    then_read (λ read. Ok (op_making arithmetic place read.0, read.1)) (or_fault (bad_bytes item (place + 1)) (int_at bytes))

-- the operation at a place, with what was read of it
abbrev pub read_op : Schema → ℕ → ℕ → ℕ → List ℕ → Result (Read Op) Fault
read_op schema item code place bytes =
    if code == 0 then set_at item place (slice_get schema.columns place) bytes else make_at item place (arithmetic_of code) bytes

-- an operation that was read, unless it is refused; the fault is at its column
abbrev pub unless_refused : ℕ → ℕ → Read Op → Result (Unit {0}) Refusal → Result (Read Op) Fault
unless_refused item place read (Ok fits) = Ok read
unless_refused item place read (Err refusal) = Err (fault_at refusal item (place + 1))

-- an operation that was read, if the schema allows it
abbrev pub allowed : Schema → ℕ → ℕ → Read Op → Result (Read Op) Fault
allowed schema item place read = unless_refused item place read (checked_ops schema item (read.0 ∷ []))

-- one operation: its code, the place of its column, counted from 0, and its value or its number
abbrev pub op_at : Schema → ℕ → List ℕ → Result (Read Op) Fault
op_at schema item [] = Err (bad_bytes item 0)
op_at schema item (code ∷ []) = Err (bad_bytes item 0)
op_at schema item (code ∷ place ∷ bytes) = then_read (allowed schema item place) (read_op schema item code place bytes)

-- this many operations, after others
abbrev pub ops_from : Schema → ℕ → ℕ → List Op → List ℕ → Result (Read (List Op)) Fault
ops_from schema item zero ops bytes = Ok (ops, bytes)
ops_from schema item (suc more) ops bytes = then_read (λ read. ops_from schema item more (ops ++ read.0 ∷ []) read.1) (op_at schema item bytes)

-- a number of operations, which is one byte, and the operations
abbrev pub ops_at : Schema → ℕ → List ℕ → Result (Read (List Op)) Fault
ops_at schema item [] = Err (bad_bytes item 0)
ops_at schema item (count ∷ bytes) = ops_from schema item count [] bytes

-- ---- changes

-- changes and the bytes after one more of them, unless it is refused
abbrev pub followed : ℕ → List ℕ → Result Changes Refusal → Result (Read Changes) Fault
followed item bytes (Ok changes) = Ok (changes, bytes)
followed item bytes (Err refusal) = Err (fault_at refusal item 0)

-- the put of a row: the values of all columns
abbrev pub put_at : Changes → List ℕ → Result (Read Changes) Fault
put_at changes bytes = then_read (λ read. followed (next_item changes) read.1 (after_put changes read.0)) (values_at (next_item changes) changes.schema.columns bytes)

-- a key: the values of the key columns
abbrev pub key_at : Schema → ℕ → List ℕ → Result (Read (List Value)) Fault
key_at schema item bytes = values_at item (take schema.keys schema.columns) bytes

-- the del of the row of a key
abbrev pub del_at : Changes → List ℕ → Result (Read Changes) Fault
del_at changes bytes = then_read (λ read. followed (next_item changes) read.1 (after_del changes read.0)) (key_at changes.schema (next_item changes) bytes)

-- an upsert: a key and its operations
abbrev pub ups_of_key : Changes → Read (List Value) → Result (Read Changes) Fault
ups_of_key changes key = then_read (λ read. followed (next_item changes) read.1 (after_ups changes key.0 read.0)) (ops_at changes.schema (next_item changes) key.1)

abbrev pub ups_at : Changes → List ℕ → Result (Read Changes) Fault
ups_at changes bytes = then_read (ups_of_key changes) (key_at changes.schema (next_item changes) bytes)

-- one more change: its code, which is 0 for a put, 1 for a del and 2 for an upsert, and its content
abbrev pub change_at : Changes → List ℕ → Result (Read Changes) Fault
change_at changes [] = Err (bad_bytes (next_item changes) 0)
change_at changes (code ∷ bytes) =
    if code == 0 then put_at changes bytes else if code == 1 then del_at changes bytes else if code == 2 then ups_at changes bytes else Err (bad_bytes (next_item changes) 0)

-- this many more changes, with nothing after them
abbrev pub changes_from : ℕ → Read Changes → Result Changes Fault
changes_from zero (changes, []) = Ok changes
changes_from zero (changes, byte ∷ bytes) = Err (bad_bytes (next_item changes) 0)
changes_from (suc more) (changes, bytes) = then_read (changes_from more) (change_at changes bytes)

-- the changes after a header, which has their number
abbrev pub changes_under : Schema → Option (Read ℕ) → Result Changes Fault
changes_under schema None = Err no_header
changes_under schema (Some read) = changes_from read.0 (no_changes schema, read.1)

-- the changes that packed bytes encode, or the first fault
abbrev pub packed_changes : Schema → List ℕ → Result Changes Fault
packed_changes schema bytes = changes_under schema (header_at bytes)

-- the messages of packed changes, sorted by key, those of one key in order
abbrev pub packed_messages : Schema → List ℕ → Result RowMessages Fault
packed_messages schema bytes = on_ok (λ changes. sorted_batch changes.messages) (packed_changes schema bytes)
