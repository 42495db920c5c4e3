-- Rows as a map by their keys.
use Rattle.std.specs.Prelude.{ℕ, ◌+◌, Bool, List, [], ◌∷◌, get_or, is_some, length, map, option_map, take, Option, Result}
use Rattle.std.specs.FinMap.{find, put}
use Rattle.std.specs.List as list
use Rattle.std.specs.List.{range_with_len}
use Rattle.bt_value.specs.Results.{unless}
use Rattle.bt_value.specs.declared.refusal.Refusal.{Refusal}
use Rattle.bt_value.specs.declared.refusal.Refusal.TheVariants.{DuplicateKey}
use Rattle.bt_value.specs.declared.value.Value.{Value}
use Rattle.bt_keycode.specs.Keys.{Key, key_cmp}
use Rattle.bt_keycode.specs.Standing.{RowMap, row_key}

-- rows with their keys, in the order of the rows
abbrev pub keyed_rows : ℕ → List (List Value) → RowMap
keyed_rows keys rows = map (λ row. (row_key keys row, row)) rows

-- the map of rows with their keys
abbrev pub map_by_key : RowMap → RowMap
map_by_key [] = []
map_by_key (pair ∷ pairs) = put key_cmp pair.0 pair.1 (map_by_key pairs)

-- the key at a place
abbrev pub key_at : RowMap → ℕ → Key
key_at pairs place = (get_or pairs place ([], [])).0

-- whether an earlier row has the key at a place
abbrev pub is_repeated : RowMap → ℕ → Bool
is_repeated pairs place = is_some (find key_cmp (key_at pairs place) (take place pairs))

-- the first place with a key that an earlier row has
abbrev pub first_repeat : RowMap → Option ℕ
first_repeat pairs = list.find (is_repeated pairs) (range_with_len 0 (length pairs))

-- the map of rows, or the refusal of the first, counted from 1, whose key an earlier one has
abbrev pub map_of : ℕ → List (List Value) → Result RowMap Refusal
map_of keys rows = unless (option_map (λ place. DuplicateKey (place + 1)) (first_repeat (keyed_rows keys rows))) (map_by_key (keyed_rows keys rows))
