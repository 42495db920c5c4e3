-- The operations of an upsert, and the row after them.
use Rattle.std.specs.Prelude.{ℕ, suc, ◌+◌, ◌-◌, ◌*◌, ◌%◌, ◌==◌, ◌&&◌, Bool, List, [], ◌∷◌, ◌++◌, codes, drop, take, length, map}
use Rattle.std.specs.Prelude.{get_or, set, slice_get, nat_le, Option, Some, None, option_map, Result, Err, if◌then◌else◌, pos}
use Rattle.std.specs.Cmp.Lexicographic.{pointwise}
use Rattle.std.specs.List.{filter_map}
use Rattle.bt_row.specs.Arithmetic.{Action, Makes, Sets, action_of, arithmetic_of_word, op_making, new_value, word_of}
use Rattle.bt_value.specs.Ints.{int_of}
use Rattle.bt_value.specs.Refusals.{lowest}
use Rattle.bt_row.specs.Schemas.{Schema, values_of}
use Rattle.bt_value.specs.Values.{fits_kind, default_of, value_of}
use Rattle.bt_value.specs.Results.{all_read, both_read, or_refused, unless}
use Rattle.bt_row.specs.declared.operations.op.Arithmetic.{Arithmetic}
use Rattle.bt_row.specs.declared.operations.op.Op.{Op}
use Rattle.bt_row.specs.declared.operations.op.Op.TheVariants.{Set}
use Rattle.bt_value.specs.declared.refusal.Refusal.{Refusal}
use Rattle.bt_value.specs.declared.refusal.Refusal.TheVariants.{BadField, BadLength, NoSuchColumn, NotInt}
use Rattle.bt_row.specs.declared.rows.schema.Column.{Column}
use Rattle.bt_value.specs.declared.value.Kind.{Kind}
use Rattle.bt_value.specs.declared.value.Kind.TheVariants as kind
use Rattle.bt_value.specs.declared.value.Value.{Value}
use Rattle.bt_value.specs.declared.value.Value.TheVariants as value

-- ---- what operations do

-- the first row of a key: the key's values, then the default of each other column
abbrev pub default_row : Schema → List Value → List Value
default_row schema key = key ++ map (λ c. default_of c.kind) (drop schema.keys schema.columns)

-- a row after what one operation does; a place that the row does not have is ignored
abbrev pub after_action : List Value → Action → List Value
after_action row (Sets place new) = set row place new
after_action row (Makes arithmetic place n) = set row place (new_value arithmetic n (get_or row place (value.Int (pos 0))))

-- a row after an operation
abbrev pub after_op : List Value → Op → List Value
after_op row op = after_action row (action_of op)

-- a row after operations, in order
abbrev pub after_ops : List Op → List Value → List Value
after_ops [] row = row
after_ops (op ∷ ops) row = after_ops ops (after_op row op)

-- the word of an operation that sets a value
abbrev pub set_word : List ℕ
set_word = codes "set"

-- the word of an operation
abbrev pub word_in : Action → List ℕ
word_in (Sets place new) = set_word
word_in (Makes arithmetic place n) = word_of arithmetic

-- the place of the column that is changed
abbrev pub place_in : Action → ℕ
place_in (Sets place new) = place
place_in (Makes arithmetic place n) = place

-- the value that is set, or the number
abbrev pub argument_in : Action → Value
argument_in (Sets place new) = new
argument_in (Makes arithmetic place n) = value.Int n

-- the same for an operation
abbrev pub argument_of : Op → Value
argument_of op = argument_in (action_of op)

-- what an upsert does to the row of its key: operations in order, and the row to begin with if the key has none
pub record Change : Type 0 where
  pub base : List Value
  pub ops : List Op

-- the row at a key after an upsert; it begins with the default row if there is none
abbrev pub merged : Option (List Value) → Change → List Value
merged None change = after_ops change.ops change.base
merged (Some row) change = after_ops change.ops row

-- ---- how records encode them

-- the first column with a name from a place on, as its place and kind
abbrev pub named_from : ℕ → List ℕ → List Column → Option (ℕ × Kind)
named_from place name [] = None
named_from place name (column ∷ columns) = if pointwise ◌==◌ column.name name then Some (place, column.kind) else named_from (suc place) name columns

-- the column with a name, if operations may change it: it must not be of the key
abbrev pub open_column : Schema → List ℕ → Option (ℕ × Kind)
open_column schema name = named_from schema.keys name (drop schema.keys schema.columns)

-- the operation that sets the value of this argument at a column
abbrev pub set_of : ℕ → List ℕ → ℕ × Kind → Result Op Refusal
set_of item argument column = or_refused (BadField item) (option_map (Set column.0) (value_of column.1 argument))

-- an arithmetic operation with this number at a column, which has to be int
abbrev pub making_of_kind : Arithmetic → ℕ → List ℕ → ℕ → Kind → Result Op Refusal
making_of_kind arithmetic item argument place kind.Int = or_refused (BadField item) (option_map (op_making arithmetic place) (int_of argument))
making_of_kind arithmetic item argument place other = Err NotInt

-- the same at a column, given as its place and kind
abbrev pub making_of : Arithmetic → ℕ → List ℕ → ℕ × Kind → Result Op Refusal
making_of arithmetic item argument column = making_of_kind arithmetic item argument column.0 column.1

-- what is read at a column, if there is one
abbrev pub at_column : {T : Type 0} → (ℕ × Kind → Result T Refusal) → Option (ℕ × Kind) → Result T Refusal
at_column read None = Err NoSuchColumn
at_column read (Some column) = read column

-- the arithmetic operation at a column, if there is one
abbrev pub number_op_of : ℕ → List ℕ → Option (ℕ × Kind) → Option Arithmetic → Result Op Refusal
number_op_of item argument column None = Err (BadField item)
number_op_of item argument column (Some arithmetic) = at_column (making_of arithmetic item argument) column

-- the operation of a word, a column's name and an argument, or its one fault: of the word, the column, the kind for a number, the argument
abbrev pub op_of : Schema → ℕ → List ℕ → List ℕ → List ℕ → Result Op Refusal
op_of schema item word name argument =
    if pointwise ◌==◌ word set_word then at_column (set_of item argument) (open_column schema name)
    else number_op_of item argument (open_column schema name) (arithmetic_of_word word)

-- the operations that fields encode in groups of three
abbrev pub ops_of : Schema → ℕ → List (List ℕ) → List (Result Op Refusal)
ops_of schema item [] = []
ops_of schema item (word ∷ []) = []
ops_of schema item (word ∷ name ∷ []) = []
ops_of schema item (word ∷ name ∷ argument ∷ fields) = op_of schema item word name argument ∷ ops_of schema item fields

-- the most operations of an upsert
abbrev pub most_ops : ℕ
most_ops = 16

-- whether a record has the fields of a key and of 1 to 16 operations
abbrev pub is_upsert : ℕ → ℕ → Bool
is_upsert keys fields = (nat_le (keys + 3) fields && nat_le fields (keys + 3 * most_ops)) && ((fields - keys) % 3 == 0)

-- the operations that the record of an upsert encodes after its key, or their refusal as this item
abbrev pub ops_as : Schema → ℕ → List (List ℕ) → Result (List Op) Refusal
ops_as schema item fields =
    if is_upsert schema.keys (length fields) then all_read (ops_of schema item (drop schema.keys fields)) else Err (BadLength item)

-- the values of the key that the record of an upsert begins with
abbrev pub key_as : Schema → ℕ → List (List ℕ) → Result (List Value) Refusal
key_as schema item fields = or_refused (BadField item) (values_of (take schema.keys schema.columns) (take schema.keys fields))

-- the key and the operations that the record of an upsert encodes, or their lowest refusal as this item
abbrev pub upsert_as : Schema → ℕ → List (List ℕ) → Result (List Value × List Op) Refusal
upsert_as schema item fields =
    if is_upsert schema.keys (length fields) then both_read (key_as schema item fields) (ops_as schema item fields) else Err (BadLength item)

-- ---- whether operations fit a schema

-- the kind of the column at a place, if operations may change it
abbrev pub open_kind : Schema → ℕ → Option Kind
open_kind schema place = if nat_le schema.keys place then option_map (λ c. c.kind) (slice_get schema.columns place) else None

-- the fault of setting a value in a column of this kind; no kind means that there is no column that may be changed
abbrev pub set_fault : ℕ → Value → Option Kind → Option Refusal
set_fault item new None = Some NoSuchColumn
set_fault item new (Some kind) = if fits_kind kind new then None else Some (BadField item)

-- the same for an arithmetic operation
abbrev pub number_fault : Option Kind → Option Refusal
number_fault None = Some NoSuchColumn
number_fault (Some kind.Int) = None
number_fault (Some other) = Some NotInt

-- the fault of what an operation does, if it has one
abbrev pub action_fault : Schema → ℕ → Action → Option Refusal
action_fault schema item (Sets place new) = set_fault item new (open_kind schema place)
action_fault schema item (Makes arithmetic place n) = number_fault (open_kind schema place)

-- the fault of an operation, if it has one
abbrev pub fault_of : Schema → ℕ → Op → Option Refusal
fault_of schema item op = action_fault schema item (action_of op)

-- whether these are 1 to 16 operations that fit a schema, or their lowest refusal as this item
abbrev pub checked_ops : Schema → ℕ → List Op → Result (Unit {0}) Refusal
checked_ops schema item ops =
    if nat_le 1 (length ops) && nat_le (length ops) most_ops then unless (lowest (filter_map (fault_of schema item) ops)) tt else Err (BadLength item)
