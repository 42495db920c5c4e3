-- Groups of rows that come one after the other.
use Rattle.std.specs.Prelude.{ℕ, ◌≡◌, ◌+◌, ◌*◌, false, List, [], ◌∷◌, map, nat_le, take, Option, Some, None, option_map, if◌then◌else◌, ℤ, pos, neg_ℤ, ◌+ℤ◌, ◌≤ℤ◌}
use Rattle.bt_value.specs.Values.{AreInRange, same_values}
use Rattle.bt_value.specs.declared.value.Kind.{Kind}
use Rattle.bt_value.specs.declared.value.Value.{Value}
use Rattle.bt_keycode.specs.Codes.{code_of, kind_of}
use Rattle.bt_keycode.specs.Keys.{Key, is_before}
use Rattle.bt_show.specs.Groups.{most_rows, number_in}
use Rattle.bt_show.specs.declared.groups.Sum.{Sum}

-- the total of `count` numbers of 64 bits
pub record IsBounded (count : ℕ) (total : ℤ) : Type 0 where
  pub lowest : neg_ℤ (pos (9223372036854775808 * count)) ≤ℤ total
  pub most : total ≤ℤ pos (9223372036854775808 * count)

-- the totals of groups are those of their rows
abbrev pub AreBounded : List Sum → Type 0
AreBounded [] = Unit {0}
AreBounded (sum ∷ sums) = IsBounded sum.count sum.total × AreBounded sums

-- the group of one row: its first columns
abbrev pub group_of : ℕ → ℕ → List Value → Sum
group_of columns place row = record { group = take columns row; count = 1; total = number_in row place }

-- a group with more rows that have this total, if they are not too many
abbrev pub with_more : Sum → ℕ → ℤ → Option Sum
with_more sum count total = if nat_le (sum.count + count) most_rows then Some (record sum { count = sum.count + count; total = sum.total +ℤ total }) else None

-- groups, or none once one has more rows than can be counted
abbrev pub Groups : Type 0
Groups = Option (List Sum)

-- Rows are visited in ascending order of their keys, so that those of a group come one after the other. The last of the groups and the first of the following
-- ones become one group if they are the same.
abbrev pub groups_then : List Sum → List Sum → Groups
groups_then [] following = Some following
groups_then (last ∷ []) [] = Some (last ∷ [])
groups_then (last ∷ []) (first ∷ others) =
    if same_values last.group first.group then option_map (λ both. both ∷ others) (with_more last first.count first.total) else Some (last ∷ first ∷ others)
groups_then (sum ∷ next ∷ sums) following = option_map (λ groups. sum ∷ groups) (groups_then (next ∷ sums) following)

abbrev pub joined_groups : Groups → Groups → Groups
joined_groups None following = None
joined_groups (Some groups) None = None
joined_groups (Some groups) (Some following) = groups_then groups following

-- groups with one more row
abbrev pub grouped : ℕ → ℕ → Groups → List Value → Groups
grouped columns place groups row = joined_groups groups (Some (group_of columns place row ∷ []))

-- the same with the columns and the place that they are grouped by, for rows with their keys
abbrev pub after_row : ℕ × ℕ × Groups → Key × List Value → ℕ × ℕ × Groups
after_row g row = (g.0, g.1, grouped g.0 g.1 g.2 row.1)

abbrev pub joined_with : ℕ × ℕ × Groups → ℕ × ℕ × Groups → ℕ × ℕ × Groups
joined_with g following = (g.0, g.1, joined_groups g.2 following.2)

-- ---- rows whose groups come one after the other

-- the first values of a row are of these kinds, each within the range of its kind
pub record IsOfKinds (columns : ℕ) (kinds : List Kind) (row : List Value) : Type 0 where
  pub of_kinds : map kind_of (take columns row) ≡ kinds
  pub in_range : AreInRange (take columns row)

-- no row's group comes before a key
abbrev pub NoneBefore : ℕ → Key → List (List Value) → Type 0
NoneBefore columns key [] = Unit {0}
NoneBefore columns key (row ∷ rows) = (is_before (code_of (take columns row)) key ≡ false) × NoneBefore columns key rows

-- no row's group comes before that of an earlier row
abbrev pub Ascend : ℕ → List Kind → List (List Value) → Type 0
Ascend columns kinds [] = Unit {0}
Ascend columns kinds (row ∷ rows) = IsOfKinds columns kinds row × NoneBefore columns (code_of (take columns row)) rows × Ascend columns kinds rows
