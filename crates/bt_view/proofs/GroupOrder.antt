-- Groups of rows that come one after the other are the groups by the codes of their first columns. Serves grouped sums.
use Rattle.std.proofs.Common.{◌≡◌, ◌∙◌, ◌++◌, ℕ, Bool, true, false, true≢false, List, [], ◌∷◌, Some, None, append_assoc, inl, inr, refl, sym, ap, fold, map, take, cond, if◌then◌else◌}
use Rattle.std.specs.Prelude.{◌+◌, ◌+ℤ◌, nat_le, option_map}
use Rattle.std.specs.Cmp.{tied_itself}
use Rattle.std.specs.FinMap.{find, put}
use Rattle.std.specs.FinMap.Entries.{by_order}
use Rattle.std.specs.Ordering.{is_eq, ordering_reverse}
use Rattle.std.specs.declared.cmp.Ordering.TheVariants.{Greater}
use Rattle.bt_value.specs.Values.{AreInRange, same_values}
use Rattle.bt_value.specs.Results.{or_refused}
use Rattle.bt_value.specs.declared.refusal.Refusal.TheVariants.{TooMany}
use Rattle.bt_value.specs.declared.value.Kind.{Kind}
use Rattle.bt_value.specs.declared.value.Value.{Value}
use Rattle.bt_value.proofs.offered.SameValues.{same_values-complete, same_values-sound}
use Rattle.bt_keycode.specs.Codes.{code_of, kind_of}
use Rattle.bt_keycode.specs.Keys.{Key, is_before, key_cmp}
use Rattle.bt_keycode.proofs.offered.Codes.{same_code}
use Rattle.bt_keycode.proofs.offered.Order.{before_chain, is_less, neither_before, sides, total_keys}
use Rattle.bt_form.specs.Messages.{Rows}
use Rattle.bt_view.specs.Groups.{groups_of, most_rows, number_in}
use Rattle.bt_show.specs.inside.Neighbours.{Ascend, Groups, NoneBefore, group_of, grouped, groups_then}
use Rattle.bt_show.specs.declared.groups.Sum.{Sum}
use Rattle.bt_view.proofs.GroupRows.{added_to, and_row, groups_by_rows}
use Rattle.bt_show.proofs.offered.LastGroup.{last_then}

-- a group at the end of a list
abbrev listed : List Sum → Sum → List Sum
listed sums sum = sums ++ sum ∷ []

-- ---- groups in a list, by the codes of their columns

abbrev entries : List Sum → Rows Sum
entries sums = map (λ s. (code_of s.group, s)) sums

entries-append : (sums more : List Sum) → entries (sums ++ more) ≡ entries sums ++ entries more
entries-append [] more = refl
entries-append (s ∷ sums) more = ap (λ es. (code_of s.group, s) ∷ es) (entries-append sums more)

-- each comes before a key
abbrev AreBefore : Key → List Sum → Type 0
AreBefore k [] = Unit {0}
AreBefore k (s ∷ sums) = (is_before (code_of s.group) k ≡ true) × AreBefore k sums

before-more : (k : Key) (sums : List Sum) (s : Sum) → AreBefore k sums → is_before (code_of s.group) k ≡ true → AreBefore k (listed sums s)
before-more k [] s before one = (one, tt)
before-more k (t ∷ sums) s before one = (before.0, before-more k sums s before.1 one)

before-later : (j k : Key) (sums : List Sum) → is_before j k ≡ true → AreBefore j sums → AreBefore k sums
before-later j k [] later before = tt
before-later j k (s ∷ sums) later before = (before_chain (code_of s.group) j k before.0 later, before-later j k sums later before.1)

-- a key after another one
following : (j k : Key) → is_before j k ≡ true → key_cmp k j ≡ Greater
following j k before = total_keys.antisymm k j ∙ ap ordering_reverse (is_less (key_cmp j k) before)

find_none : (k : Key) (sums : List Sum) → AreBefore k sums → find key_cmp k (entries sums) ≡ None
find_none k [] before = refl
find_none k (s ∷ sums) before = ap (λ o. cond (is_eq o) (Some s) (find key_cmp k (entries sums))) (following (code_of s.group) k before.0) ∙ find_none k sums before.1

put_after : (k : Key) (new : Sum) (sums : List Sum) → AreBefore k sums → put key_cmp k new (entries sums) ≡ entries sums ++ (k, new) ∷ []
put_after k new [] before = refl
put_after k new (s ∷ sums) before =
    ap (λ o. by_order o ((k, new) ∷ (code_of s.group, s) ∷ entries sums) ((code_of s.group, new) ∷ entries sums)
    ((code_of s.group, s) ∷ put key_cmp k new (entries sums))) (following (code_of s.group) k before.0)
    ∙ ap (λ es. (code_of s.group, s) ∷ es) (put_after k new sums before.1)

find_last : (s : Sum) (sums : List Sum) → AreBefore (code_of s.group) sums → find key_cmp (code_of s.group) (entries (listed sums s)) ≡ Some s
find_last s [] before = ap (λ o. cond (is_eq o) (Some s) None) (tied_itself total_keys (code_of s.group))
find_last s (t ∷ sums) before =
    ap (λ o. cond (is_eq o) (Some t) (find key_cmp (code_of s.group) (entries (listed sums s)))) (following (code_of t.group) (code_of s.group) before.0) ∙ find_last s sums before.1

put_last : (s new : Sum) (sums : List Sum) → AreBefore (code_of s.group) sums → new.group ≡ s.group → put key_cmp (code_of s.group) new (entries (listed sums s)) ≡ entries (listed sums new)
put_last s new [] before same =
    ap (λ o. by_order o ((code_of s.group, new) ∷ (code_of s.group, s) ∷ []) ((code_of s.group, new) ∷ [])
    ((code_of s.group, s) ∷ (code_of s.group, new) ∷ [])) (tied_itself total_keys (code_of s.group))
    ∙ ap (λ group. (code_of group, new) ∷ []) (sym same)
put_last s new (t ∷ sums) before same =
    ap (λ o. by_order o ((code_of s.group, new) ∷ (code_of t.group, t) ∷ entries (listed sums s)) ((code_of t.group, new) ∷ entries (listed sums s))
    ((code_of t.group, t) ∷ put key_cmp (code_of s.group) new (entries (listed sums s))))
    (following (code_of t.group) (code_of s.group) before.0)
    ∙ ap (λ es. (code_of t.group, t) ∷ es) (put_last s new sums before.1 same)

-- ---- groups that come one after the other

module _ (columns place : ℕ) (kinds : List Kind) where
  none_stays : (rows : List (List Value)) → fold (and_row columns place) None rows ≡ None
  none_stays [] = refl
  none_stays (row ∷ rows) = none_stays rows

  none_stays_none : (rows : List (List Value)) → fold (grouped columns place) None rows ≡ None
  none_stays_none [] = refl
  none_stays_none (row ∷ rows) = none_stays_none rows

  -- the first values of a row are of these kinds
  abbrev IsGroup : List Value → Type 0
  IsGroup group = (map kind_of group ≡ kinds) × AreInRange group

  -- the rows that are left give the same groups by code and one after the other
  abbrev IsAll : List (List Value) → List Sum → Sum → Type 0
  IsAll rows sums sum = fold (and_row columns place) (Some (entries (listed sums sum))) rows ≡ option_map entries (fold (grouped columns place) (Some (listed sums sum)) rows)

  all : (rows : List (List Value)) (sums : List Sum) (sum : Sum) → IsGroup sum.group → AreBefore (code_of sum.group) sums
      → NoneBefore columns (code_of sum.group) rows → Ascend columns kinds rows → IsAll rows sums sum
  all [] sums sum of before none ascend = refl
  all (row ∷ rows) sums sum of before none ascend =
      by_same (same_values sum.group (take columns row)) refl (λ ss s is_group are_before none_before. all rows ss s is_group are_before none_before ascend.2)
      ∙ sym (ap (λ groups. option_map entries (fold (grouped columns place) groups rows)) (last_then sums sum (group_of columns place row ∷ [])))
    where
      key : Key
      key = code_of (take columns row)

      Others : Type 0
      Others = (ss : List Sum) (s : Sum) → IsGroup s.group → AreBefore (code_of s.group) ss → NoneBefore columns (code_of s.group) rows → IsAll rows ss s

      same_key : same_values sum.group (take columns row) ≡ true → code_of sum.group ≡ key
      same_key same = ap code_of (same_values-sound sum.group (take columns row) same)

      more : Sum
      more = record sum { count = sum.count + 1; total = sum.total +ℤ number_in row place }

      by_fits : (fits : Bool) → same_values sum.group (take columns row) ≡ true → Others
          → fold (and_row columns place) (option_map (λ new. put key_cmp key new (entries (listed sums sum))) (if fits then Some more else None)) rows
          ≡ option_map entries (fold (grouped columns place) (option_map (λ groups. sums ++ groups) (option_map (λ both. both ∷ []) (if fits then Some more else None))) rows)
      by_fits false same others = none_stays rows ∙ sym (ap (option_map entries) (none_stays_none rows))
      by_fits true same others =
          ap (λ es. fold (and_row columns place) (Some es) rows)
          (ap (λ k. put key_cmp k more (entries (listed sums sum))) (sym (same_key same)) ∙ put_last sum more sums before refl)
          ∙ others sums more of before none.1

      apart : same_values sum.group (take columns row) ≡ false → is_before (code_of sum.group) key ≡ true
      apart other = elim (sides (code_of sum.group) key) [
        | inl is ↦ is
        | inr not_before ↦
            let one = neither_before (code_of sum.group) key not_before none.0 in
            let same = same_code sum.group (take columns row) (of.0 ∙ sym ascend.0.of_kinds) of.1 ascend.0.in_range one in
            absurd (true≢false (sym (same_values-complete sum.group (take columns row) same) ∙ other))
      ]

      -- the groups so far with one more row, by whether it belongs to the last of them
      last_with : Bool → Groups
      last_with same = if same then option_map (λ both. both ∷ []) (if nat_le (sum.count + 1) most_rows then Some more else None) else Some (sum ∷ group_of columns place row ∷ [])

      by_same : (same : Bool) → same_values sum.group (take columns row) ≡ same → Others
          → fold (and_row columns place) (and_row columns place (Some (entries (listed sums sum))) row) rows
          ≡ option_map entries (fold (grouped columns place) (option_map (λ groups. sums ++ groups) (groups_then (sum ∷ []) (group_of columns place row ∷ []))) rows)
      by_same true is others =
          ap (λ o. fold (and_row columns place) (added_to columns place (entries (listed sums sum)) row o) rows)
          (ap (λ k. find key_cmp k (entries (listed sums sum))) (sym (same_key is)) ∙ find_last sum sums before)
          ∙ by_fits (nat_le (sum.count + 1) most_rows) is others
          ∙ sym (ap (λ same. option_map entries (fold (grouped columns place) (option_map (λ groups. sums ++ groups) (last_with same)) rows)) is)
      by_same false is others =
          let after = before-more key sums sum (before-later (code_of sum.group) key sums (apart is) before) (apart is) in
          ap (λ o. fold (and_row columns place) (added_to columns place (entries (listed sums sum)) row o) rows) (find_none key (listed sums sum) after)
          ∙ ap (λ es. fold (and_row columns place) (Some es) rows)
          (put_after key (group_of columns place row) (listed sums sum) after ∙ sym (entries-append (listed sums sum) (group_of columns place row ∷ [])))
          ∙ others (listed sums sum) (group_of columns place row) (ascend.0.of_kinds, ascend.0.in_range) after ascend.1
          ∙ ap (λ sums. option_map entries (fold (grouped columns place) (Some sums) rows)) (append_assoc sums (sum ∷ []) (group_of columns place row ∷ []))
          ∙ sym (ap (λ same. option_map entries (fold (grouped columns place) (option_map (λ groups. sums ++ groups) (last_with same)) rows)) is)

  from_first : (rows : List (List Value)) → Ascend columns kinds rows → fold (and_row columns place) (Some []) rows ≡ option_map entries (fold (grouped columns place) (Some []) rows)
  from_first [] ascend = refl
  from_first (row ∷ rows) ascend = all rows [] (group_of columns place row) (ascend.0.of_kinds, ascend.0.in_range) tt ascend.1 ascend.2

  values : (sums : List Sum) → map (λ group. group.1) (entries sums) ≡ sums
  values [] = refl
  values (s ∷ sums) = ap (λ ss. s ∷ ss) (values sums)

  all_values : (groups : Groups) → groups ≡ option_map (map (λ group. group.1)) (option_map entries groups)
  all_values None = refl
  all_values (Some sums) = ap Some (sym (values sums))

  pub by_neighbours : (rows : List (List Value)) → Ascend columns kinds rows → or_refused TooMany (fold (grouped columns place) (Some []) rows) ≡ groups_of columns place rows
  by_neighbours rows ascend =
      ap (or_refused TooMany) (all_values (fold (grouped columns place) (Some []) rows) ∙ ap (option_map (map (λ group. group.1))) (sym (from_first rows ascend)))
      ∙ groups_by_rows columns place rows
