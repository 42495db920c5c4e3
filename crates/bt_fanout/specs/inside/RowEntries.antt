-- The entries of rows as they are collected, before they are sorted.
use Rattle.std.specs.Prelude.{ℕ, ◌≡◌, ◌+◌, ◌<◌, ◌++◌, List, [], ◌∷◌, length, slice_index_or, Option, None, Result, Ok, IfOk, if◌then◌else◌}
use Rattle.std.specs.Option.{option_to_list}
use Rattle.bt_value.specs.declared.value.Value.{Value}
use Rattle.bt_keycode.specs.Keys.{Key}
use Rattle.bt_message.specs.Effects.{Rows}
use Rattle.bt_fanout.specs.Entries.{Definition, entry_of, is_within}

-- the entries of rows, in the order of the rows
abbrev pub entries_of : {X E : Type 0} → (Key → X → Option (Key × E)) → Rows X → Rows E
entries_of entry [] = []
entries_of entry (r ∷ rows) = option_to_list (entry r.0 r.1) ++ entries_of entry rows

-- the entry of a row, if the row has all places of the definition
abbrev pub entry_within : Definition → Key → List Value → Option (Key × List Value)
entry_within def key row = if is_within def (length row) then entry_of def key row else None

-- the entry of a row, if it has one, or an allocation failed
abbrev pub IsEntryOrFailed : {F : Type 0} → Definition → Key × List Value → Result (Option (Key × List Value)) F → Type 0
IsEntryOrFailed def row made = IfOk made (λ entry. entry ≡ entry_of def row.0 row.1)

-- the entries of a piece are those of the rows from a place on, or an allocation failed
abbrev pub AreEntriesOrFailed : {F : Type 0} → Definition → ℕ → Rows (List Value) → List (Result (Option (Key × List Value)) F) → Type 0
AreEntriesOrFailed def start rows piece =
    (k : ℕ) → k < length piece → IsEntryOrFailed def (slice_index_or rows (start + k) ([], [])) (slice_index_or piece k (Ok None))
