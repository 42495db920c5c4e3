-- Rows that are grouped by no columns are one group. Serves sums of a range of keys.
use Rattle.std.proofs.Common.{◌≡◌, ◌∙◌, ℕ, zero, suc, Bool, true, false, List, [], ◌∷◌, Result, Ok, Err, ap, refl, sym, length, map, if◌then◌else◌, nat_le}
use Rattle.std.specs.FinMap.{put}
use Rattle.std.specs.List.{list_all}
use Rattle.bt_value.specs.Results.{map_ok, or_refused}
use Rattle.bt_value.specs.declared.refusal.Refusal.{Refusal}
use Rattle.bt_value.specs.declared.refusal.Refusal.TheVariants.{TooMany}
use Rattle.bt_value.specs.declared.value.Value.{Value}
use Rattle.bt_keycode.specs.Keys.{key_cmp}
use Rattle.bt_view.specs.Groups.{first_values, groups_of, most_rows, rows_in_group, sum_of, total_of, unless_too_many}
use Rattle.bt_view.specs.RangeSums.{groups_by, whole_group}
use Rattle.bt_show.specs.inside.Neighbours.{Groups}
use Rattle.bt_view.specs.inside.Shown.{with_whole}
use Rattle.bt_show.specs.declared.groups.Sum.{Sum}

-- all rows are in the group of no columns
all_in : (rows : List (List Value)) → rows_in_group 0 [] rows ≡ rows
all_in [] = refl
all_in (row ∷ rows) = ap (λ (rs : List (List Value)). row ∷ rs) (all_in rows)

-- and it is the only one
one_group : (row : List Value) (rows : List (List Value)) → first_values 0 (row ∷ rows) ≡ ([], []) ∷ []
one_group row [] = refl
one_group row (next ∷ rows) = ap (put key_cmp [] []) (one_group next rows)

whole : (columns place : ℕ) (rows : List (List Value)) → map_ok (with_whole columns) (groups_of columns place rows) ≡ unless_too_many (groups_by columns place rows)
whole zero place [] = refl
whole zero place (row ∷ rows) =
    ap (λ groups. map_ok (with_whole 0) (unless_too_many (map (sum_of 0 place (row ∷ rows)) groups))) (one_group row rows)
    ∙ ap (λ (rs : List (List Value)). map_ok (with_whole 0) (unless_too_many (record { group = []; count = length rs; total = total_of place rs } ∷ []))) (all_in (row ∷ rows))
    ∙ as_it_is (list_all (λ group. nat_le group.count most_rows) (whole_group place (row ∷ rows) ∷ []))
  where
    as_it_is : (fits : Bool) → map_ok (with_whole 0) (if fits then Ok (whole_group place (row ∷ rows) ∷ []) else Err TooMany) ≡ (if fits then Ok (whole_group place (row ∷ rows) ∷ []) else Err TooMany)
    as_it_is true = refl
    as_it_is false = refl
whole (suc columns) place rows = as_they_are (unless_too_many (groups_by (suc columns) place rows))
  where
    as_they_are : (found : Result (List Sum) Refusal) → map_ok (with_whole (suc columns)) found ≡ found
    as_they_are (Ok groups) = refl
    as_they_are (Err refusal) = refl

-- the groups of a range, by those that are made of its rows one by one
pub ranged : (columns place : ℕ) (rows : List (List Value)) (groups : Groups) → groups_of columns place rows ≡ or_refused TooMany groups
    → unless_too_many (groups_by columns place rows) ≡ map_ok (with_whole columns) (or_refused TooMany groups)
ranged columns place rows groups is = sym (whole columns place rows) ∙ ap (map_ok (with_whole columns)) is
