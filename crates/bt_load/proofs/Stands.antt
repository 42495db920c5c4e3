-- Rows with their own keys.
use Rattle.std.proofs.Common.{◌≡◌, ℕ, List, [], ◌∷◌, refl}
use Rattle.std.proofs.lemmas.List.Elements.{All-cons, All-head, All-nil, All-tail}
use Rattle.std.proofs.lemmas.List.Sorted.{All-permutation}
use Rattle.std.specs.List.{All}
use Rattle.std.specs.List.Sorted.{IsPermutation}
use Rattle.bt_row.specs.Schemas.{Schema}
use Rattle.bt_value.specs.declared.value.Value.{Value}
use Rattle.bt_keycode.specs.Keys.{Key}
use Rattle.bt_keycode.specs.Standing.{AllAreUnder, AllStand, AreOf, RowMap, Stands, row_key}
use Rattle.bt_load.specs.Maps.{keyed_rows}

abbrev IsUnder : ℕ → Key × List Value → Type 0
IsUnder keys p = p.0 ≡ row_key keys p.1

abbrev StandsAt : Schema → Key × List Value → Type 0
StandsAt schema p = Stands schema p.0 p.1

keyed_under : (keys : ℕ) (rows : List (List Value)) → All (IsUnder keys) (keyed_rows keys rows)
keyed_under keys [] = All-nil (IsUnder keys)
keyed_under keys (row ∷ rows) = All-cons (IsUnder keys) (row_key keys row, row) (keyed_rows keys rows) refl (keyed_under keys rows)

keyed_stand : (schema : Schema) (rows : List (List Value)) → AreOf schema.columns rows → All (StandsAt schema) (keyed_rows schema.keys rows)
keyed_stand schema [] are = All-nil (StandsAt schema)
keyed_stand schema (row ∷ rows) are =
    All-cons (StandsAt schema) (row_key schema.keys row, row) (keyed_rows schema.keys rows) (record { placed = refl; fits = are.0.fits; in_range = are.0.in_range }) (keyed_stand schema rows are.1)

under_all : (keys : ℕ) (pairs : RowMap) → All (IsUnder keys) pairs → AllAreUnder keys pairs
under_all keys [] all = tt
under_all keys (p ∷ pairs) all = (All-head (IsUnder keys) p pairs all, under_all keys pairs (All-tail (IsUnder keys) p pairs all))

stand_all : (schema : Schema) (pairs : RowMap) → All (StandsAt schema) pairs → AllStand schema pairs
stand_all schema [] all = tt
stand_all schema (p ∷ pairs) all = (All-head (StandsAt schema) p pairs all, stand_all schema pairs (All-tail (StandsAt schema) p pairs all))

-- in any order
pub all_under : (keys : ℕ) (rows : List (List Value)) (pairs : RowMap) → IsPermutation (keyed_rows keys rows) pairs → AllAreUnder keys pairs
all_under keys rows pairs moved = under_all keys pairs (All-permutation (IsUnder keys) (keyed_rows keys rows) pairs moved (keyed_under keys rows))

pub all_stand : (schema : Schema) (rows : List (List Value)) (pairs : RowMap) → IsPermutation (keyed_rows schema.keys rows) pairs → AreOf schema.columns rows → AllStand schema pairs
all_stand schema rows pairs moved are = stand_all schema pairs (All-permutation (StandsAt schema) (keyed_rows schema.keys rows) pairs moved (keyed_stand schema rows are))
