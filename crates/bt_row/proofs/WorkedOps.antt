-- Examples of operations, computed. Serves readers of their definitions.
use Rattle.std.proofs.Common.{◌≡◌, List, ℕ, [], ◌∷◌, pos, negsuc, refl, codes, true, false, Ok, Err, Some, None}
use Rattle.bt_value.proofs.offered.OnLiterals.{values_on_literals}
use Rattle.bt_value.specs.Kinds.{text_of, value_of}
use Rattle.bt_row.specs.Ops.{after_ops, checked_ops, default_row, merged, ops_as, upsert_as}
use Rattle.bt_row.specs.Schemas.{Schema}
use Rattle.bt_row.specs.declared.operations.op.Op.TheVariants.{Add, Max, Min, Set}
use Rattle.bt_value.specs.declared.refusal.Refusal.TheVariants.{BadField, BadLength, NoSuchColumn, NotInt}
use Rattle.bt_row.specs.declared.rows.schema.Column.{Column}
use Rattle.bt_value.specs.declared.value.Kind.{Kind}
use Rattle.bt_value.specs.declared.value.Kind.TheVariants as kind
use Rattle.bt_value.specs.declared.value.Value.TheVariants as value

-- a column of a name and a kind
abbrev column : List ℕ → Kind → Column
column name of = record { name = name; kind = of }

-- id:int qty:int, with the first as the key
abbrev stock : Schema
stock = record { columns = column (codes "id") kind.Int ∷ column (codes "qty") kind.Int ∷ []; keys = 1 }

-- id:int qty:int city:text open:flag, with the first as the key
abbrev shops : Schema
shops = record { columns = column (codes "id") kind.Int ∷ column (codes "qty") kind.Int ∷ column (codes "city") kind.Text ∷ column (codes "open") kind.Flag ∷ []; keys = 1 }

-- ---- what operations do

defaults : default_row shops (value.Int (pos 9) ∷ []) ≡ value.Int (pos 9) ∷ value.Int (pos 0) ∷ value.Text [] ∷ value.Flag false ∷ []
defaults = refl

in_turn : after_ops (Set 1 (value.Int (pos 5)) ∷ Add 1 (negsuc 1) ∷ []) (default_row stock (value.Int (pos 9) ∷ [])) ≡ value.Int (pos 9) ∷ value.Int (pos 3) ∷ []
in_turn = refl

greatest : after_ops (Add 0 (pos 1) ∷ []) (value.Int (pos 9223372036854775807) ∷ []) ≡ value.Int (pos 9223372036854775807) ∷ []
greatest = refl

lowest : after_ops (Add 0 (negsuc 0) ∷ []) (value.Int (negsuc 9223372036854775807) ∷ []) ≡ value.Int (negsuc 9223372036854775807) ∷ []
lowest = refl

-- the next number is added to the sum that stopped at the largest int
held_between : after_ops (Add 0 (pos 2) ∷ Add 0 (negsuc 2) ∷ []) (value.Int (pos 9223372036854775806) ∷ []) ≡ value.Int (pos 9223372036854775804) ∷ []
held_between = refl

-- the larger and the smaller, of the default too
greater : after_ops (Max 1 (pos 8) ∷ Max 1 (negsuc 8) ∷ []) (value.Int (pos 9) ∷ value.Int (pos 5) ∷ []) ≡ value.Int (pos 9) ∷ value.Int (pos 8) ∷ []
greater = refl

less : after_ops (Min 1 (pos 6) ∷ Min 1 (pos 7) ∷ []) (value.Int (pos 9) ∷ value.Int (pos 8) ∷ []) ≡ value.Int (pos 9) ∷ value.Int (pos 6) ∷ []
less = refl

less_than_default : merged None (record { base = value.Int (pos 9) ∷ value.Int (pos 0) ∷ []; ops = Min 1 (negsuc 2) ∷ [] }) ≡ value.Int (pos 9) ∷ value.Int (negsuc 2) ∷ []
less_than_default = refl

default_is_less : merged None (record { base = value.Int (pos 9) ∷ value.Int (pos 0) ∷ []; ops = Min 1 (pos 3) ∷ [] }) ≡ value.Int (pos 9) ∷ value.Int (pos 0) ∷ []
default_is_less = refl

texts_and_bytes_stay : after_ops (Max 0 (pos 1) ∷ Min 1 (pos 1) ∷ []) (value.Text (codes "a") ∷ value.Bytes (7 ∷ []) ∷ []) ≡ value.Text (codes "a") ∷ value.Bytes (7 ∷ []) ∷ []
texts_and_bytes_stay = refl

-- an addition to a flag, and a place past the row
nothing_done : after_ops (Add 0 (pos 1) ∷ Set 2 (value.Int (pos 7)) ∷ Add 2 (pos 7) ∷ []) (value.Flag true ∷ value.Int (pos 1) ∷ []) ≡ value.Flag true ∷ value.Int (pos 1) ∷ []
nothing_done = refl

-- if there is a row, the base is not used
on_a_row : merged (Some (value.Int (pos 9) ∷ value.Int (pos 4) ∷ [])) (record { base = value.Int (pos 9) ∷ value.Int (pos 0) ∷ []; ops = Add 1 (pos 1) ∷ [] })
    ≡ value.Int (pos 9) ∷ value.Int (pos 5) ∷ []
on_a_row = refl

on_no_row : merged None (record { base = value.Int (pos 9) ∷ value.Int (pos 0) ∷ []; ops = Add 1 (pos 1) ∷ [] }) ≡ value.Int (pos 9) ∷ value.Int (pos 1) ∷ []
on_no_row = refl

-- ---- how fields encode bytes, and how bytes are printed

two_digits_each : value_of kind.Bytes (codes "00fFA0") ≡ Some (value.Bytes (0 ∷ 255 ∷ 160 ∷ []))
unfolding values_on_literals
two_digits_each = refl

no_bytes : value_of kind.Bytes [] ≡ Some (value.Bytes [])
unfolding values_on_literals
no_bytes = refl

odd_digits : value_of kind.Bytes (codes "000") ≡ None
unfolding values_on_literals
odd_digits = refl

no_digit : value_of kind.Bytes (codes "0g") ≡ None
unfolding values_on_literals
no_digit = refl

in_lower_case : text_of (value.Bytes (0 ∷ 255 ∷ 160 ∷ [])) ≡ codes "00ffa0"
in_lower_case = refl

-- ---- how records encode operations

two_operations : upsert_as stock 4 (codes "9" ∷ codes "set" ∷ codes "qty" ∷ codes "5" ∷ codes "add" ∷ codes "qty" ∷ codes "-2" ∷ [])
    ≡ Ok (value.Int (pos 9) ∷ [], Set 1 (value.Int (pos 5)) ∷ Add 1 (negsuc 1) ∷ [])
unfolding values_on_literals
two_operations = refl

least_and_greatest : upsert_as stock 4 (codes "9" ∷ codes "max" ∷ codes "qty" ∷ codes "5" ∷ codes "min" ∷ codes "qty" ∷ codes "-2" ∷ [])
    ≡ Ok (value.Int (pos 9) ∷ [], Max 1 (pos 5) ∷ Min 1 (negsuc 1) ∷ [])
unfolding values_on_literals
least_and_greatest = refl

max_of_text : ops_as shops 4 (codes "1" ∷ codes "max" ∷ codes "city" ∷ codes "x" ∷ []) ≡ Err NotInt
unfolding values_on_literals
max_of_text = refl

add_to_text : ops_as shops 4 (codes "1" ∷ codes "add" ∷ codes "city" ∷ codes "x" ∷ []) ≡ Err NotInt
unfolding values_on_literals
add_to_text = refl

unknown_column : ops_as shops 4 (codes "1" ∷ codes "add" ∷ codes "nope" ∷ codes "x" ∷ []) ≡ Err NoSuchColumn
unfolding values_on_literals
unknown_column = refl

key_column : ops_as shops 4 (codes "1" ∷ codes "set" ∷ codes "id" ∷ codes "2" ∷ []) ≡ Err NoSuchColumn
unfolding values_on_literals
key_column = refl

-- the least of two faults
unknown_word : ops_as shops 4 (codes "1" ∷ codes "set" ∷ codes "nope" ∷ codes "1" ∷ codes "mul" ∷ codes "qty" ∷ codes "1" ∷ []) ≡ Err (BadField 4)
unfolding values_on_literals
unknown_word = refl

no_operation : ops_as shops 4 (codes "1" ∷ []) ≡ Err (BadLength 4)
unfolding values_on_literals
no_operation = refl

-- the fault of the key is smaller than that of the operations
bad_key : upsert_as shops 4 (codes "x" ∷ codes "add" ∷ codes "city" ∷ codes "1" ∷ []) ≡ Err (BadField 4)
unfolding values_on_literals
bad_key = refl

-- ---- whether operations fit a schema

add_to_key : checked_ops stock 2 (Add 0 (pos 1) ∷ []) ≡ Err NoSuchColumn
add_to_key = refl

lowest_fault : checked_ops shops 2 (Add 2 (pos 1) ∷ Set 4 (value.Int (pos 1)) ∷ Set 1 (value.Int (pos 1)) ∷ []) ≡ Err NoSuchColumn
lowest_fault = refl

of_another_kind : checked_ops shops 2 (Add 2 (pos 1) ∷ Set 3 (value.Int (pos 1)) ∷ []) ≡ Err (BadField 2)
of_another_kind = refl

none_at_all : checked_ops shops 2 [] ≡ Err (BadLength 2)
none_at_all = refl
