-- What the front of a key shows: that its entry belongs to the last group.
use Rattle.std.specs.Prelude.{ℕ, ◌≡◌, ◌≤◌, ◌++◌, List, [], ◌∷◌, length, take, Option, Some, None}
use Rattle.bt_value.specs.declared.value.Kind.{Kind}
use Rattle.bt_value.specs.declared.value.Value.{Value}
use Rattle.bt_keycode.specs.Codes.{IsCodeOf}
use Rattle.bt_keycode.specs.Keys.{Key}
use Rattle.bt_show.specs.inside.Neighbours.{Groups}
use Rattle.bt_show.specs.declared.groups.Sum.{Sum}

-- these are the values of the last of groups, if there are still groups
abbrev pub IsLastOf : List Value → Groups → Type 0
IsLastOf values None = Unit {0}
IsLastOf values (Some sums) = (before : List Sum) × (last : Sum) × ((sums ≡ before ++ last ∷ []) × (last.group ≡ values))

-- bytes are the code of the values of the last of groups, by the kinds of the key columns; the column that is summed comes after those of a group
pub record IsFront (kinds : List Kind) (g : ℕ × ℕ × Groups) (front : Key) (values : List Value) : Type 0 where
  pub few : g.0 ≤ length kinds
  pub following : g.0 ≤ g.1
  pub code : IsCodeOf (take g.0 kinds) front values
  pub last : IsLastOf values g.2

-- bytes that are kept are such a code
abbrev pub IsFrontWhereKept : List Kind → ℕ × ℕ × Groups → Option Key → Type 0
IsFrontWhereKept kinds g None = Unit {0}
IsFrontWhereKept kinds g (Some front) = (values : List Value) × IsFront kinds g front values
