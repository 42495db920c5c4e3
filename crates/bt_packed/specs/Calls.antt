-- The calls of a table on packed bytes: the table after each, the reply, or the fault.
use Rattle.std.specs.Prelude.{ℕ, ℤ, ◌==◌, ◌&&◌, ◌++◌, Bool, true, false, List, [], ◌∷◌, fold, length, take, nat_le, nat_lt, Option, Some, None, Result, Ok, Err, if◌then◌else◌}
use Rattle.std.specs.FinMap.{find}
use Rattle.std.specs.Int.{cast_unsigned, to_le_bytes, w64, w128}
use Rattle.bt_value.specs.Kinds.{tag_of}
use Rattle.bt_value.specs.declared.refusal.Refusal.{Refusal}
use Rattle.bt_value.specs.declared.refusal.Refusal.TheVariants.{BadLength, Failed}
use Rattle.bt_value.specs.declared.value.Kind.TheVariants as kind
use Rattle.bt_value.specs.declared.value.Value.{Value}
use Rattle.bt_value.specs.declared.value.Value.TheVariants as value
use Rattle.bt_row.specs.Schemas.{Schema}
use Rattle.bt_row.specs.declared.rows.schema.Column.{Column}
use Rattle.bt_keycode.specs.Codes.{code_of}
use Rattle.bt_keycode.specs.Keys.{Key, key_cmp}
use Rattle.bt_form.specs.Messages.{Rows}
use Rattle.bt_table.specs.Calls.{primary}
use Rattle.bt_table.specs.Indexes.{Index, is_complete}
use Rattle.bt_table.specs.Tables.{Intact, Lost, PlainTable, TableState, after_batch}
use Rattle.bt_view.specs.RangeSums.{sums_between}
use Rattle.bt_view.specs.Ranges.{index_schema, last_page, page, tree_columns}
use Rattle.bt_view.specs.Usage.{usage, usage_of}
use Rattle.bt_show.specs.declared.groups.Sum.{Sum}
use Rattle.bt_show.specs.declared.range.KeyRange.{KeyRange}
use Rattle.bt_show.specs.declared.tree_usage.TreeUsage.{TreeUsage}
use Rattle.bt_packed.specs.Changes.{key_at, packed_messages}
use Rattle.bt_packed.specs.Layout.{Read, bad_bytes, fault_at, header_at, magic, no_header, on_ok, or_fault, row_bytes, then_read, value_at, values_at}
use Rattle.bt_packed.specs.declared.fault.Fault.{Fault}

-- the next step on the value, if there is one
abbrev pub then_do : {A B : Type 0} → (A → Result B Fault) → Result A Fault → Result B Fault
then_do next (Ok value) = next value
then_do next (Err fault) = Err fault

-- a refusal of the whole call
abbrev pub of_call : {X : Type 0} → Result X Refusal → Result X Fault
of_call (Ok x) = Ok x
of_call (Err refusal) = Err (fault_at refusal 0 0)

-- ---- changes

-- a table after it has applied packed changes, or the fault, and then it does not change
abbrev pub applied : TableState → List ℕ → Result TableState Fault
applied Lost bytes = Err (fault_at Failed 0 0)
applied (Intact table) bytes = on_ok (λ messages. Intact (after_batch table messages)) (packed_messages table.schema bytes)

-- ---- the row of a key

-- what was read, with nothing after it
abbrev pub whole : {X : Type 0} → ℕ → Read X → Result X Fault
whole item (x, []) = Ok x
whole item (x, byte ∷ bytes) = Err (bad_bytes item 0)

-- a packed key: the values of the key columns after a header with the number 1
abbrev pub key_under : Schema → Option (Read ℕ) → Result (List Value) Fault
key_under schema None = Err no_header
key_under schema (Some read) = if read.0 == 1 then then_do (whole 1) (key_at schema 1 read.1) else Err no_header

abbrev pub packed_key : Schema → List ℕ → Result (List Value) Fault
packed_key schema bytes = key_under schema (header_at bytes)

-- the packed row, or no row
abbrev pub packed_option : Option (List Value) → List ℕ
packed_option None = magic
packed_option (Some row) = magic ++ row_bytes row

-- the packed row of a key, or no row
abbrev pub get_reply : TableState → List ℕ → Result (List ℕ) Fault
get_reply Lost bytes = Err (fault_at Failed 0 0)
get_reply (Intact table) bytes = on_ok (λ key. packed_option (find key_cmp (code_of key) table.rows)) (packed_key table.schema bytes)

-- ---- the columns of a tree

-- the eight bytes of a count, the lowest first
unfoldable pub count_bytes : ℕ → List ℕ
count_bytes n = to_le_bytes w64 n

-- a column: its kind, and its name after its length
abbrev pub column_bytes : Column → List ℕ
column_bytes column = tag_of column.kind ∷ length column.name ∷ column.name

abbrev pub columns_bytes : List Column → List ℕ
columns_bytes [] = []
columns_bytes (column ∷ columns) = column_bytes column ++ columns_bytes columns

-- the columns of the rows of a tree, after the number of its key columns
abbrev pub packed_columns : Schema → List ℕ
packed_columns schema = magic ++ (count_bytes schema.keys ++ columns_bytes schema.columns)

-- ---- pages

-- the name at the front of bytes: a text
abbrev pub name_of : Read Value → Result (Read (List ℕ)) Fault
name_of (value.Text name, bytes) = Ok (name, bytes)
name_of (other, bytes) = Err (bad_bytes 0 0)

abbrev pub name_at : List ℕ → Result (Read (List ℕ)) Fault
name_at bytes = then_read name_of (or_fault (bad_bytes 0 0) (value_at kind.Text bytes))

-- the key that the values of a bound encode
abbrev pub key_read : (List Value → Key) → Read (List Value) → Result (Read (Option Key)) Fault
key_read key (values, bytes) = Ok (Some (key values), bytes)

-- this many values of a bound, which are of the first key columns
abbrev pub prefix_at : List Column → ℕ → ℕ → List ℕ → Result (Read (Option Key)) Fault
prefix_at columns item count bytes =
    if nat_lt 0 count && nat_le count (length columns) then then_read (key_read code_of) (values_at item (take count columns) bytes) else Err (fault_at (BadLength item) item 0)

-- the smallest key that is larger than that of values
abbrev pub key_after : List Value → Key
key_after values = code_of values ++ 0 ∷ []

-- the smallest key after that of the values of all key columns
abbrev pub after_at : List Column → ℕ → List ℕ → Result (Read (Option Key)) Fault
after_at columns item bytes = then_read (key_read key_after) (values_at item columns bytes)

-- a number of values of the first key columns, and the values
abbrev pub counted_at : List Column → ℕ → List ℕ → Result (Read (Option Key)) Fault
counted_at columns item [] = Err (bad_bytes item 0)
counted_at columns item (count ∷ bytes) = prefix_at columns item count bytes

-- a bound: code 0 is none; code 1 is the key of values of the first key columns, which follow their number; code 2 is the smallest key after that of the values
-- of all key columns
abbrev pub bound_at : List Column → ℕ → List ℕ → Result (Read (Option Key)) Fault
bound_at columns item [] = Err (bad_bytes item 0)
bound_at columns item (code ∷ bytes) =
    if code == 0 then Ok (None, bytes) else if code == 1 then counted_at columns item bytes else if code == 2 then after_at columns item bytes else Err (bad_bytes item 0)

-- the range from a lower bound to an upper one, with nothing after them
abbrev pub range_to : Option Key → Read (Option Key) → Result KeyRange Fault
range_to from to = on_ok (λ bound. record { from = from; to = bound }) (whole 2 to)

abbrev pub range_at : List Column → List ℕ → Result KeyRange Fault
range_at columns bytes = then_read (λ from. then_read (range_to from.0) (bound_at columns 2 from.1)) (bound_at columns 1 bytes)

-- the range of keys of the tree of this name
abbrev pub range_of_tree : TableState → List ℕ → List ℕ → Result KeyRange Fault
range_of_tree state name bytes = then_do (λ schema. range_at (take schema.keys schema.columns) bytes) (of_call (tree_columns state name))

-- the packed rows, without their keys
abbrev pub packed_rows : Rows (List Value) → List ℕ
packed_rows rows = fold (λ bytes row. bytes ++ row_bytes row.1) magic rows

-- the packed rows of a page of the tree of this name
abbrev pub page_between : TableState → List ℕ → ℕ → KeyRange → Result (List ℕ) Fault
page_between state name limit range = on_ok packed_rows (of_call (page state name range limit))

-- those of its last page
abbrev pub last_page_between : TableState → List ℕ → ℕ → KeyRange → Result (List ℕ) Fault
last_page_between state name limit range = on_ok packed_rows (of_call (last_page state name range limit))

-- what a call makes of the name of a tree, the most rows and a range
abbrev pub MakesPage : Type 0
MakesPage = TableState → List ℕ → ℕ → KeyRange → Result (List ℕ) Fault

abbrev pub page_of_tree : MakesPage → TableState → ℕ → Read (List ℕ) → Result (List ℕ) Fault
page_of_tree make state limit (name, bytes) = then_do (make state name limit) (range_of_tree state name bytes)

-- a page: a header with the most rows, the name of a tree, a lower bound and an upper one
abbrev pub page_under : MakesPage → TableState → Option (Read ℕ) → Result (List ℕ) Fault
page_under make state None = Err no_header
page_under make state (Some read) = then_read (page_of_tree make state read.0) (name_at read.1)

abbrev pub page_reply : TableState → List ℕ → Result (List ℕ) Fault
page_reply state bytes = page_under page_between state (header_at bytes)

abbrev pub last_page_reply : TableState → List ℕ → Result (List ℕ) Fault
last_page_reply state bytes = page_under last_page_between state (header_at bytes)

-- ---- sums

-- the sixteen bytes of a total, the lowest first
unfoldable pub total_bytes : ℤ → List ℕ
total_bytes n = to_le_bytes w128 (cast_unsigned w128 n)

-- a group: the values of its columns, the number of its rows, and the total
abbrev pub sum_bytes : Sum → List ℕ
sum_bytes sum = row_bytes sum.group ++ (count_bytes sum.count ++ total_bytes sum.total)

abbrev pub sums_bytes : List Sum → List ℕ
sums_bytes [] = []
sums_bytes (sum ∷ sums) = sum_bytes sum ++ sums_bytes sums

abbrev pub packed_sums : List Sum → List ℕ
packed_sums sums = magic ++ sums_bytes sums

-- the packed groups of a range of the tree of this name
abbrev pub groups_between : TableState → List ℕ → ℕ → List ℕ → KeyRange → Result (List ℕ) Fault
groups_between state name grouping column range = on_ok packed_sums (of_call (sums_between state name grouping column range))

abbrev pub sums_of_tree : TableState → ℕ → List ℕ → Read (List ℕ) → Result (List ℕ) Fault
sums_of_tree state grouping name (column, bytes) = then_do (groups_between state name grouping column) (range_of_tree state name bytes)

-- sums: a header with the number of columns of a group, the names of a tree and of the summed column, a lower bound and an upper one
abbrev pub sums_under : TableState → Option (Read ℕ) → Result (List ℕ) Fault
sums_under state None = Err no_header
sums_under state (Some read) = then_read (λ name. then_read (sums_of_tree state read.0 name.0) (name_at name.1)) (name_at read.1)

abbrev pub sums_reply : TableState → List ℕ → Result (List ℕ) Fault
sums_reply state bytes = sums_under state (header_at bytes)

-- ---- counts of a tree

-- the packed columns of the tree of this name
abbrev pub columns_named : TableState → List ℕ → Result (List ℕ) Fault
columns_named state name = on_ok packed_columns (of_call (tree_columns state name))

-- a packed name: a header with the number 1, and a text
abbrev pub name_under : Option (Read ℕ) → Result (List ℕ) Fault
name_under None = Err no_header
name_under (Some read) = if read.0 == 1 then then_do (whole 1) (name_at read.1) else Err no_header

abbrev pub packed_name : List ℕ → Result (List ℕ) Fault
packed_name bytes = name_under (header_at bytes)

abbrev pub columns_reply : TableState → List ℕ → Result (List ℕ) Fault
columns_reply state bytes = then_do (columns_named state) (packed_name bytes)

-- how much a tree holds: its rows, messages and height, each in eight bytes
abbrev pub usage_bytes : TreeUsage → List ℕ
usage_bytes usage = count_bytes usage.rows ++ (count_bytes usage.messages ++ count_bytes usage.height)

abbrev pub packed_usage : TreeUsage → List ℕ
packed_usage usage = magic ++ usage_bytes usage

abbrev pub usage_named : TableState → List ℕ → Result (List ℕ) Fault
usage_named state name = on_ok packed_usage (of_call (usage state name))

abbrev pub usage_reply : TableState → List ℕ → Result (List ℕ) Fault
usage_reply state bytes = then_do (usage_named state) (packed_name bytes)

-- ---- the trees of a table

-- a tree: its name after its length; 0 if it is complete, and 1 if it is an index that is building; the number of its key columns; and its columns after their
-- number
abbrev pub tree_bytes : List ℕ → Bool → Schema → List ℕ
tree_bytes name is_complete schema =
    (length name ∷ name) ++ ((if is_complete then 0 else 1) ∷ (count_bytes schema.keys ++ (count_bytes (length schema.columns) ++ columns_bytes schema.columns)))

-- how much it holds follows, if that is asked for
abbrev pub with_usage : Bool → TreeUsage → List ℕ → List ℕ
with_usage has_usage usage bytes = bytes ++ (if has_usage then usage_bytes usage else [])

-- the tree of the rows
abbrev pub rows_bytes : Bool → PlainTable → List ℕ
rows_bytes has_usage table = with_usage has_usage (usage_of table.tree) (tree_bytes primary true table.schema)

-- an index of a table with this schema
abbrev pub index_bytes : Bool → Schema → Index → List ℕ
index_bytes has_usage schema index = with_usage has_usage (usage_of index.tree.1) (tree_bytes index.name (is_complete index) (index_schema schema index.def))

abbrev pub indexes_bytes : Bool → Schema → List Index → List ℕ
indexes_bytes has_usage schema [] = []
indexes_bytes has_usage schema (index ∷ indexes) = index_bytes has_usage schema index ++ indexes_bytes has_usage schema indexes

-- the tree of the rows, and the indexes in order of creation
abbrev pub packed_trees : Bool → PlainTable → List ℕ
packed_trees has_usage table = magic ++ (rows_bytes has_usage table ++ indexes_bytes has_usage table.schema table.indexes)

abbrev pub trees_of : Bool → TableState → Result (List ℕ) Fault
trees_of has_usage Lost = Err (fault_at Failed 0 0)
trees_of has_usage (Intact table) = Ok (packed_trees has_usage table)

-- whether the trees are asked for with how much each holds: a header with the number 0 or 1, and nothing after it
abbrev pub usage_asked : Option (Read ℕ) → Result Bool Fault
usage_asked None = Err no_header
usage_asked (Some read) = if read.0 == 0 then whole 1 (false, read.1) else if read.0 == 1 then whole 1 (true, read.1) else Err no_header

abbrev pub trees_reply : TableState → List ℕ → Result (List ℕ) Fault
trees_reply state bytes = then_do (λ has_usage. trees_of has_usage state) (usage_asked (header_at bytes))
