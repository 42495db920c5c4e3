-- Worked bytes, computed by the definitions themselves. Serves as a test of the definitions.
use Rattle.std.proofs.Common.{◌≡◌, ◌++◌, ℕ, List, [], ◌∷◌, pos, negsuc, refl, codes, true, false, Ok, Err, Some, None}
use Rattle.std.specs.Char.{encode_utf8}
use Rattle.std.specs.Str.{chars, is_utf8}
use Rattle.bt_value.specs.declared.refusal.Refusal.TheVariants.{BadField, NoSuchColumn, NotInt}
use Rattle.bt_value.specs.declared.value.Kind.{Kind}
use Rattle.bt_value.specs.declared.value.Kind.TheVariants as kind
use Rattle.bt_value.specs.declared.value.Value.TheVariants as value
use Rattle.bt_row.specs.Schemas.{Schema}
use Rattle.bt_row.specs.declared.rows.schema.Column.{Column}
use Rattle.bt_row.specs.declared.operations.op.Op.TheVariants.{Add, Set}
use Rattle.bt_packed.specs.Calls.{count_bytes, packed_rows, packed_sums, packed_usage, total_bytes, tree_bytes}
use Rattle.bt_packed.specs.Changes.{op_at, ops_at}
use Rattle.bt_packed.specs.Layout.{bad_bytes, fault_at, header_at, int_bytes, int_from, number_from, row_bytes, value_at, values_at}

-- a column of a name and a kind
abbrev column : List ℕ → Kind → Column
column name of = record { name = name; kind = of }

-- id:int city:text open:flag, with the first as the key
abbrev shops : Schema
shops = record { columns = column (codes "id") kind.Int ∷ column (codes "city") kind.Text ∷ column (codes "open") kind.Flag ∷ []; keys = 1 }

-- id:int qty:int city:text, with the first as the key
abbrev stock : Schema
stock = record { columns = column (codes "id") kind.Int ∷ column (codes "qty") kind.Int ∷ column (codes "city") kind.Text ∷ []; keys = 1 }

-- the eight bytes of 7
abbrev seven : List ℕ
seven = 7 ∷ 0 ∷ 0 ∷ 0 ∷ 0 ∷ 0 ∷ 0 ∷ 0 ∷ []

-- ---- values

least_int : value_at kind.Int (254 ∷ 255 ∷ 255 ∷ 255 ∷ 255 ∷ 255 ∷ 255 ∷ 255 ∷ 9 ∷ []) ≡ Some (value.Int (negsuc 1), 9 ∷ [])
unfolding int_from
least_int = refl

seven_bytes : value_at kind.Int (1 ∷ 2 ∷ 3 ∷ 4 ∷ 5 ∷ 6 ∷ 7 ∷ []) ≡ None
seven_bytes = refl

text_and_rest : value_at kind.Text (2 ∷ 72 ∷ 105 ∷ 33 ∷ []) ≡ Some (value.Text (codes "Hi"), 33 ∷ [])
unfolding chars encode_utf8 is_utf8
text_and_rest = refl

text_over_the_end : value_at kind.Text (3 ∷ 72 ∷ 105 ∷ []) ≡ None
text_over_the_end = refl

not_utf_8 : value_at kind.Text (1 ∷ 255 ∷ []) ≡ None
unfolding chars encode_utf8 is_utf8
not_utf_8 = refl

any_bytes : value_at kind.Bytes (1 ∷ 255 ∷ []) ≡ Some (value.Bytes (255 ∷ []), [])
any_bytes = refl

flags : value_at kind.Flag (1 ∷ []) ≡ Some (value.Flag true, [])
flags = refl

no_flag : value_at kind.Flag (2 ∷ []) ≡ None
no_flag = refl

-- ---- rows

row_read : values_at 1 shops.columns (seven ++ (2 ∷ 72 ∷ 105 ∷ 1 ∷ 5 ∷ [])) ≡ Ok (value.Int (pos 7) ∷ value.Text (codes "Hi") ∷ value.Flag true ∷ [], 5 ∷ [])
unfolding int_from chars encode_utf8 is_utf8
row_read = refl

row_written : row_bytes (value.Int (pos 7) ∷ value.Text (codes "Hi") ∷ value.Flag true ∷ []) ≡ seven ++ (2 ∷ 72 ∷ 105 ∷ 1 ∷ [])
unfolding int_bytes
row_written = refl

-- the third item, and its second column
second_column : values_at 3 shops.columns (seven ++ (3 ∷ 72 ∷ 105 ∷ [])) ≡ Err (fault_at (BadField 3) 3 2)
unfolding int_from
second_column = refl

two_rows : packed_rows ((1 ∷ [], value.Flag true ∷ []) ∷ (2 ∷ [], value.Flag false ∷ []) ∷ []) ≡ codes "BTV" ++ (1 ∷ 1 ∷ 0 ∷ [])
two_rows = refl

-- a group of the flag true with 258 rows, whose sum is -2, and one of the flag false
two_groups : packed_sums (record { group = value.Flag true ∷ []; count = 258; total = negsuc 1 } ∷ record { group = value.Flag false ∷ []; count = 7; total = pos 7 } ∷ [])
    ≡ codes "BTV" ++ (1 ∷ 1 ∷ 2 ∷ 1 ∷ 0 ∷ 0 ∷ 0 ∷ 0 ∷ 0 ∷ 0 ∷ 254 ∷ 255 ∷ 255 ∷ 255 ∷ 255 ∷ 255 ∷ 255 ∷ 255 ∷ 255 ∷ 255 ∷ 255 ∷ 255 ∷ 255 ∷ 255 ∷ 255 ∷ 255
    ∷ 0 ∷ [] ++ (seven ++ (seven ++ (0 ∷ 0 ∷ 0 ∷ 0 ∷ 0 ∷ 0 ∷ 0 ∷ 0 ∷ []))))
unfolding count_bytes total_bytes
two_groups = refl

rows_messages_height : packed_usage (record { rows = 258; messages = 7; height = 1 })
    ≡ codes "BTV" ++ (1 ∷ 2 ∷ 1 ∷ 0 ∷ 0 ∷ 0 ∷ 0 ∷ 0 ∷ 0 ∷ [] ++ (seven ++ (1 ∷ 0 ∷ 0 ∷ 0 ∷ 0 ∷ 0 ∷ 0 ∷ 0 ∷ [])))
unfolding count_bytes
rows_messages_height = refl

-- a tree a of the key id, which is building
building_tree : tree_bytes (codes "a") false (record { columns = column (codes "id") kind.Int ∷ []; keys = 1 })
    ≡ 1 ∷ 97 ∷ 1 ∷ [] ++ (1 ∷ 0 ∷ 0 ∷ 0 ∷ 0 ∷ 0 ∷ 0 ∷ 0 ∷ [] ++ (1 ∷ 0 ∷ 0 ∷ 0 ∷ 0 ∷ 0 ∷ 0 ∷ 0 ∷ [] ++ (0 ∷ 2 ∷ 105 ∷ 100 ∷ [])))
unfolding count_bytes
building_tree = refl

-- ---- headers

header : header_at (codes "BTV" ++ (1 ∷ 2 ∷ 1 ∷ 0 ∷ 0 ∷ 9 ∷ [])) ≡ Some (258, 9 ∷ [])
unfolding number_from
header = refl

other_version : header_at (codes "BTV" ++ (2 ∷ 2 ∷ 1 ∷ 0 ∷ 0 ∷ [])) ≡ None
other_version = refl

header_cut_off : header_at (codes "BTV" ++ (1 ∷ 2 ∷ 1 ∷ 0 ∷ [])) ≡ None
header_cut_off = refl

-- ---- operations

add_and_set : ops_at stock 1 (2 ∷ 1 ∷ 1 ∷ [] ++ (seven ++ (0 ∷ 2 ∷ 1 ∷ 65 ∷ []))) ≡ Ok (Add 1 (pos 7) ∷ Set 2 (value.Text (codes "A")) ∷ [], [])
unfolding int_from chars encode_utf8 is_utf8
add_and_set = refl

third_operation_missing : ops_at stock 4 (3 ∷ 1 ∷ 1 ∷ [] ++ (seven ++ (0 ∷ 2 ∷ 1 ∷ 65 ∷ []))) ≡ Err (bad_bytes 4 0)
unfolding int_from chars encode_utf8 is_utf8
third_operation_missing = refl

-- a key column cannot be changed
add_to_the_key : op_at stock 2 (1 ∷ 0 ∷ seven) ≡ Err (fault_at NoSuchColumn 2 1)
unfolding int_from
add_to_the_key = refl

add_to_a_text : op_at stock 2 (1 ∷ 2 ∷ seven) ≡ Err (fault_at NotInt 2 3)
unfolding int_from
add_to_a_text = refl

add_to_no_column : op_at stock 2 (1 ∷ 3 ∷ seven) ≡ Err (fault_at NoSuchColumn 2 4)
unfolding int_from
add_to_no_column = refl

no_fourth_column : op_at shops 2 (0 ∷ 3 ∷ seven) ≡ Err (fault_at NoSuchColumn 2 4)
no_fourth_column = refl

no_fifth_operation : op_at shops 2 (4 ∷ 1 ∷ seven) ≡ Err (bad_bytes 2 0)
no_fifth_operation = refl
