-- The three steps of a load that may run on several threads: records are typed one by one, the keys of rows are encoded one by one, and keys are sorted.
use Rattle.std.specs.Prelude.{ℕ, ◌≡◌, ◌≢◌, ◌+◌, ◌<◌, List, [], length, slice_index_or, Ok}
use Rattle.std.specs.Ordering.{nat_cmp, ordering_then}
use Rattle.std.specs.declared.cmp.Ordering.{Ordering}
use Rattle.bt_row.specs.Schemas.{read_as}
use Rattle.bt_row.specs.declared.rows.schema.Column.{Column}
use Rattle.bt_value.specs.declared.value.Value.{Value}
use Rattle.bt_keycode.specs.Keys.{Key, key_cmp}
use Rattle.bt_keycode.specs.Standing.{row_key}

-- a row that is that of a record, or has no value
abbrev pub IsRowOrNone : List Column → List (List ℕ) → List Value → Type 0
IsRowOrNone columns fields row = row ≢ [] → (item : ℕ) → read_as columns item fields ≡ Ok row

-- the rows of a piece are those of the records from a place on, or have no value
abbrev pub AreRowsOrNone : List Column → ℕ → List (List (List ℕ)) → List (List Value) → Type 0
AreRowsOrNone columns start records piece = (k : ℕ) → k < length piece → IsRowOrNone columns (slice_index_or records (start + k) []) (slice_index_or piece k [])

-- the key of a row, and the place of the row
abbrev pub Placed : Type 0
Placed = Key × ℕ

-- the empty key
abbrev pub no_key : Placed
no_key = ([], 0)

-- a key that is that of the row at a place, with the place, or is empty
abbrev pub IsKeyOrNone : ℕ → List Value → ℕ → Placed → Type 0
IsKeyOrNone keys row place p = p.0 ≢ [] → p ≡ (row_key keys row, place)

-- the keys of a piece are those of the rows from a place on, or empty
abbrev pub AreKeysOrNone : ℕ → ℕ → List (List Value) → List Placed → Type 0
AreKeysOrNone keys start rows piece =
    (k : ℕ) → k < length piece → IsKeyOrNone keys (slice_index_or rows (start + k) []) (start + k) (slice_index_or piece k no_key)

-- by key, and for equal keys by place
abbrev pub placed_cmp : Placed → Placed → Ordering
placed_cmp a b = ordering_then (key_cmp a.0 b.0) (nat_cmp a.1 b.1)

-- each key has its own place in the list
abbrev pub AreAtTheirPlaces : List Placed → Type 0
AreAtTheirPlaces placed = (k : ℕ) → k < length placed → (slice_index_or placed k no_key).1 ≡ k
