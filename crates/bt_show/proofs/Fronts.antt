-- What follows the front of a key, and the last of groups. Serves the groups of an index.
use Rattle.std.proofs.Common.{◌≡◌, ◌∙◌, ◌≤◌, ℕ, Bool, true, false, not, IfSome, ℤ, List, [], ◌∷◌, ◌++◌, Option, Some, None}
use Rattle.std.proofs.Common.{append_assoc, drop, length, map, option_map, if◌then◌else◌, refl, sym, ap, subst, take}
use Rattle.std.proofs.lemmas.List.{get_or-append_right, length-map, length-take-le, map-append, take-append-drop, take-append-le, take-map, take_at}
use Rattle.std.proofs.lemmas.Option.{none-some}
use Rattle.std.specs.Prelude.{◌+◌, ◌-◌, ◌+ℤ◌, nat_le}
use Rattle.bt_value.specs.Values.{same_values}
use Rattle.bt_value.specs.declared.value.Kind.{Kind}
use Rattle.bt_value.specs.declared.value.Value.{Value}
use Rattle.bt_value.specs.declared.value.Value.TheVariants as value
use Rattle.bt_value.proofs.offered.SameValues.{same_values-sound}
use Rattle.bt_keycode.specs.Codes.{IsCode, IsCodeOf, IsNoCode, code_of, kind_of}
use Rattle.bt_keycode.specs.Decodings.{decoded}
use Rattle.bt_keycode.specs.Keys.{Key}
use Rattle.bt_keycode.proofs.offered.Decoded.{code_decoded, decoded_code, none_decoded}
use Rattle.bt_keycode.proofs.offered.Ranges.{take_in_range}
use Rattle.bt_show.specs.Groups.{most_rows, number_in, number_of_value}
use Rattle.bt_show.specs.inside.Entries.{row_of_entry}
use Rattle.bt_show.specs.inside.Fronts.{IsFront, IsFrontWhereKept, IsLastOf}
use Rattle.bt_show.specs.inside.Neighbours.{Groups, group_of, grouped, groups_then, with_more}
use Rattle.bt_show.specs.declared.groups.Sum.{Sum}
use Rattle.bt_show.proofs.offered.Columnwise.{code-append, in_range-append}

-- ---- codes in two parts

code_in_parts : (first following : List Kind) (front rest : Key) (values others : List Value) → IsCodeOf first front values → IsCodeOf following rest others
    → IsCodeOf (first ++ following) (front ++ rest) (values ++ others)
code_in_parts first following front rest values others a b = record {
  of_kinds = map-append kind_of values others ∙ ap (λ ks. ks ++ map kind_of others) a.of_kinds ∙ ap (λ ks. first ++ ks) b.of_kinds;
  in_range = in_range-append values others a.in_range b.in_range;
  code = code-append values others ∙ ap (λ bytes. bytes ++ code_of others) a.code ∙ ap (λ bytes. front ++ bytes) b.code;
}

-- the code of the first values
pub first_code : (n : ℕ) (kinds : List Kind) (key : Key) (values : List Value) → IsCodeOf kinds key values → IsCodeOf (take n kinds) (code_of (take n values)) (take n values)
first_code n kinds key values is = record {
  of_kinds = sym (take-map kind_of n values) ∙ ap (take n) is.of_kinds;
  in_range = take_in_range n values is.in_range;
  code = refl;
}

-- these values, or others if there are none
abbrev or_values : List Value → Option (List Value) → List Value
or_values values None = values
or_values values (Some found) = found

-- the row of an entry is the values of its key, followed by the included ones
pub row_values : (kinds : List Kind) (key : Key) (included row : List Value) → row_of_entry kinds (key, included) ≡ Some row → (values : List Value)
    × (IsCodeOf kinds key values × (row ≡ values ++ included))
row_values kinds key included row = of_read (decoded kinds key) refl
  where
    of_read : (read : Option (List Value)) → decoded kinds key ≡ read → option_map (λ values. values ++ included) read ≡ Some row → (values : List Value)
        × (IsCodeOf kinds key values × (row ≡ values ++ included))
    of_read None same is = absurd (none-some row is)
    of_read (Some values) same is = (values, (decoded_code kinds key values same, sym (ap (or_values row) is)))

-- the number at a place of the row of an entry, after the values of the key: it is that of an included value, if the key is a code
module _ (kinds : List Kind) (key : Key) (included : List Value) (place : ℕ) where
  pub included_number : IsCode kinds key → length kinds ≤ place
      → option_map (λ row. number_in row place) (row_of_entry kinds (key, included)) ≡ Some (number_in included (place - length kinds))
  included_number is few =
      let long : length is.0 ≡ length kinds = sym (length-map is.0 kind_of) ∙ ap length is.1.of_kinds in
      ap (λ read. option_map (λ row. number_in row place) (option_map (λ values. values ++ included) read)) (code_decoded kinds key is.0 is.1)
      ∙ ap (λ v. Some (number_of_value v)) (get_or-append_right is.0 included (length kinds) place (value.Flag false) long few)

  pub no_number : IsNoCode kinds key → option_map (λ row. number_in row place) (row_of_entry kinds (key, included)) ≡ None
  no_number none = ap (λ read. option_map (λ row. number_in row place) (option_map (λ values. values ++ included) read)) (none_decoded kinds key none)

module _ (kinds : List Kind) (g : ℕ × ℕ × Groups) (front : Key) (values : List Value) (is : IsFront kinds g front values) where
  as_many : length values ≡ g.0
  as_many = sym (length-map values kind_of) ∙ ap length is.code.of_kinds ∙ length-take-le g.0 kinds is.few

  -- the row of an entry whose key begins with a front, by the row of what follows the front
  pub row_following : (key rest : Key) (included others : List Value) → key ≡ front ++ rest → row_of_entry (drop g.0 kinds) (rest, included) ≡ Some others
      → row_of_entry kinds (key, included) ≡ Some (values ++ others)
  row_following key rest included others begins shows =
      let read = row_values (drop g.0 kinds) rest included others shows in
      let both : IsCodeOf (take g.0 kinds ++ drop g.0 kinds) (front ++ rest) (values ++ read.0) = code_in_parts (take g.0 kinds) (drop g.0 kinds) front rest values read.0 is.code read.1.0 in
      let whole : IsCodeOf kinds key (values ++ read.0) =
      subst (λ k. IsCodeOf kinds k (values ++ read.0)) (sym begins)
      (subst (λ ks. IsCodeOf ks (front ++ rest) (values ++ read.0)) (take-append-drop g.0 kinds) both) in
      ap (option_map (λ all. all ++ included)) (code_decoded kinds key (values ++ read.0) whole)
      ∙ ap Some (append_assoc values read.0 included ∙ ap (λ row. values ++ row) (sym read.1.1))

  -- that row belongs to the last group
  pub last_after : (others : List Value) → IsLastOf (take g.0 (values ++ others)) g.2
  last_after others = subst (λ vs. IsLastOf vs g.2) (sym (take_at values others g.0 as_many)) is.last

  -- and its number comes after the front
  pub number_after : (others : List Value) → number_in (values ++ others) g.1 ≡ number_in others (g.1 - g.0)
  number_after others = ap number_of_value (get_or-append_right values others g.0 g.1 (value.Flag false) as_many is.following)

  abbrev IsOfLast : Key → List Value → Option ℤ → Type 0
  IsOfLast key included number =
      IfSome number (λ number. (row : List Value) × ((row_of_entry kinds (key, included) ≡ Some row) × IsLastOf (take g.0 row) g.2 × (number_in row g.1 ≡ number)))

  -- a number that the row of the rest has, by the kinds after those of a group, is that of a row of the last group
  pub last_number : (key rest : Key) (included : List Value) → key ≡ front ++ rest
      → (number : Option ℤ) → number ≡ option_map (λ row. number_in row (g.1 - g.0)) (row_of_entry (drop g.0 kinds) (rest, included))
      → IsOfLast key included number
  last_number key rest included begins number found = subst (IsOfLast key included) (sym found) (by_row (row_of_entry (drop g.0 kinds) (rest, included)) refl)
    where
      by_row : (shown : Option (List Value)) → row_of_entry (drop g.0 kinds) (rest, included) ≡ shown
          → IsOfLast key included (option_map (λ row. number_in row (g.1 - g.0)) shown)
      by_row None shows = tt
      by_row (Some others) shows = (values ++ others, (row_following key rest included others begins shows, last_after others, number_after others))

-- ---- the last of groups

in_front : (s : Sum) (values : List Value) (groups : Groups) → IsLastOf values groups → IsLastOf values (option_map (λ sums. s ∷ sums) groups)
in_front s values None last = tt
in_front s values (Some sums) last = (s ∷ last.0, last.1, (ap (λ all. s ∷ all) last.2.0, last.2.1))

last_then : (sums : List Sum) (own : Sum) → IsLastOf own.group (groups_then sums (own ∷ []))
last_then [] own = ([], own, (refl, refl))
last_then (s ∷ []) own = by_test (same_values s.group own.group) refl
  where
    by_test : (same : Bool) → same_values s.group own.group ≡ same → IsLastOf own.group (if same then option_map (λ both. both ∷ []) (with_more s own.count own.total) else Some (s ∷ own ∷ []))
    by_test true test = by_fit (nat_le (s.count + own.count) most_rows)
      where
        by_fit : (fits : Bool) → IsLastOf own.group (option_map (λ both. both ∷ []) (if fits then Some (record s { count = s.count + own.count; total = s.total +ℤ own.total }) else None))
        by_fit true = ([], record s { count = s.count + own.count; total = s.total +ℤ own.total }, (refl, same_values-sound s.group own.group test))
        by_fit false = tt
    by_test false test = (s ∷ [], own, (refl, refl))
last_then (s ∷ r ∷ sums) own = in_front s own.group (groups_then (r ∷ sums) (own ∷ [])) (last_then (r ∷ sums) own)

-- a row that was added belongs to the last group
pub last_grouped : (columns place : ℕ) (groups : Groups) (row : List Value) → IsLastOf (take columns row) (grouped columns place groups row)
last_grouped columns place None row = tt
last_grouped columns place (Some sums) row = last_then sums (group_of columns place row)

-- the last of a list, or this one if the list is empty
abbrev last_or : Sum → List Sum → Sum
last_or sum [] = sum
last_or sum (s ∷ sums) = last_or s sums

last_or-append : (d : Sum) (before : List Sum) (last : Sum) → last_or d (before ++ last ∷ []) ≡ last
last_or-append d [] last = refl
last_or-append d (s ∷ before) last = last_or-append s before last

-- a list has only one last item
pub same_last : (sums before : List Sum) (last : Sum) (values : List Value) → sums ≡ before ++ last ∷ [] → IsLastOf values (Some sums) → last.group ≡ values
same_last sums before last values begin is =
    ap (λ (s : Sum). s.group) (sym (last_or-append last before last) ∙ ap (last_or last) (sym begin ∙ is.2.0) ∙ last_or-append last is.0 is.1) ∙ is.2.1

-- only these are the values of the last of groups
one_last : (sums : List Sum) (values others : List Value) → IsLastOf values (Some sums) → IsLastOf others (Some sums) → values ≡ others
one_last sums values others is also = sym is.2.1 ∙ same_last sums is.0 is.1 others is.2.0 also

-- a front is still that of the last group after a row is added to that group
pub kept_front : (kinds : List Kind) (g : ℕ × ℕ × Groups) (row : List Value) (front : Option Key) → IsLastOf (take g.0 row) g.2
    → IsFrontWhereKept kinds g front → IsFrontWhereKept kinds (g.0, g.1, grouped g.0 g.1 g.2 row) front
kept_front kinds g row None last is = tt
kept_front kinds g row (Some front) last is = by_groups g.2 last is.1.last
  where
    by_groups : (groups : Groups) → IsLastOf (take g.0 row) groups → IsLastOf is.0 groups → (values : List Value) × IsFront kinds (g.0, g.1, grouped g.0 g.1 groups row) front values
    by_groups None own kept = (is.0, record { few = is.1.few; following = is.1.following; code = is.1.code; last = tt })
    by_groups (Some sums) own kept = (
      take g.0 row,
      record {
        few = is.1.few;
        following = is.1.following;
        code =
            subst (IsCodeOf (take g.0 kinds) front) (one_last sums is.0 (take g.0 row) kept own) is.1.code;
        last = last_grouped g.0 g.1 (Some sums) row;
      },
    )

-- the code of the first values of a row that was added is the front of the last group
pub new_front : (kinds : List Kind) (g : ℕ × ℕ × Groups) (key : Key) (included row : List Value) (front : Option Key) → row_of_entry kinds (key, included) ≡ Some row
    → IfSome front (λ _. g.0 ≤ length kinds) → IfSome front (λ _. g.0 ≤ g.1) → IfSome front (λ front. front ≡ code_of (take g.0 row)) → IsFrontWhereKept kinds (g.0, g.1, grouped g.0 g.1 g.2 row) front
new_front kinds g key included row None shows few following code = tt
new_front kinds g key included row (Some front) shows few following code =
    let read = row_values kinds key included row shows in
    let long : length read.0 ≡ length kinds = sym (length-map read.0 kind_of) ∙ ap length read.1.0.of_kinds in
    let first : take g.0 row ≡ take g.0 read.0 = ap (take g.0) read.1.1 ∙ take-append-le g.0 read.0 included (subst (λ n. g.0 ≤ n) (sym long) few) in
    let own : IsCodeOf (take g.0 kinds) (code_of (take g.0 row)) (take g.0 row) = subst (λ vs. IsCodeOf (take g.0 kinds) (code_of vs) vs) (sym first) (first_code g.0 kinds key read.0 read.1.0) in
    (take g.0 row, record { few = few; following = following; code = subst (λ bytes. IsCodeOf (take g.0 kinds) bytes (take g.0 row)) (sym code) own; last = last_grouped g.0 g.1 g.2 row })

-- groups with a row counted to the last of them are the groups with that row
module _ (columns place : ℕ) (sums after : List Sum) (number : ℤ) (fits : Bool)
    (counts : (values : List Value) → IsLastOf values (Some sums) → groups_then sums (record { group = values; count = 1; total = number } ∷ []) ≡ (if fits then Some after else None)) where
  answers : (fits : Bool) → ◌≡◌ {A = Groups} (if not fits then None else Some after) (if fits then Some after else None)
  answers true = refl
  answers false = refl

  abbrev IsCounted : ℕ × ℕ × Groups → Type 0
  IsCounted now = (row : List Value) → IsLastOf (take now.0 row) now.2 → number_in row now.1 ≡ number
      → ◌≡◌ {A = ℕ × ℕ × Groups} (columns, place, if not fits then None else Some after) (now.0, now.1, grouped now.0 now.1 now.2 row)

  counted_here : IsCounted (columns, place, Some sums)
  counted_here row last is =
      ap (λ (groups : Groups). (columns, place, groups))
      (answers fits ∙ sym (counts (take columns row) last) ∙ ap (λ (n : ℤ). groups_then sums (record { group = take columns row; count = 1; total = n } ∷ [])) (sym is))

  pub counted_row : (over : Bool) (now : ℕ × ℕ × Groups) → ◌≡◌ {A = ℕ × ℕ × Groups} now (columns, place, if over then None else Some sums) → over ≡ false → IsCounted now
  counted_row over now is false_is = subst IsCounted (sym (is ∙ ap (λ (b : Bool). (columns, place, if b then None else Some sums)) false_is)) counted_here
