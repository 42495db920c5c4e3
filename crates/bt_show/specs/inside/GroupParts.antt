-- The groups of rows in two parts are those of the rows in one.
use Rattle.std.proofs.Common.{◌≡◌, ◌∙◌, ℕ, Bool, true, false, if◌then◌else◌, List, [], ◌∷◌, ◌++◌, Option, Some, None, option_map, fold, refl, sym, ap, arith}
use Rattle.std.proofs.Math.IntN.{+ℤ_assoc}
use Rattle.std.proofs.lemmas.Bool.Decides.{nat_tests}
use Rattle.std.specs.Prelude.{ℤ, ◌+◌, ◌+ℤ◌, nat_le}
use Rattle.bt_value.specs.Values.{same_values}
use Rattle.bt_value.specs.declared.value.Value.{Value}
use Rattle.bt_value.proofs.offered.SameValues.{same_values-sound}
use Rattle.bt_keycode.specs.Keys.{Key}
use Rattle.bt_read.specs.Folds.{joined_as_one}
use Rattle.bt_show.specs.Groups.{most_rows}
use Rattle.bt_show.specs.inside.Neighbours.{Groups, after_row, group_of, grouped, groups_then, joined_groups, joined_with, with_more}
use Rattle.bt_show.specs.declared.groups.Sum.{Sum}

-- ---- joining groups

-- no groups stay no groups
none_following : (a : Groups) → joined_groups a None ≡ None
none_following None = refl
none_following (Some groups) = refl

none_before : (a : Groups) → joined_groups (Some []) a ≡ a
none_before None = refl
none_before (Some groups) = refl

pub none_then : (a : List Sum) → groups_then a [] ≡ Some a
none_then [] = refl
none_then (s ∷ []) = refl
none_then (s ∷ r ∷ ss) = ap (option_map (λ groups. s ∷ groups)) (none_then (r ∷ ss))

groups_unit : (a : Groups) → joined_groups a (Some []) ≡ a
groups_unit None = refl
groups_unit (Some groups) = none_then groups

-- a group before one and others, by whether they are the same
abbrev before_one : Bool → Sum → Sum → List Sum → Groups
before_one same s t us = if same then option_map (λ both. both ∷ us) (with_more s t.count t.total) else Some (s ∷ t ∷ us)

-- a group with the rows of one, and of that one and another
abbrev pair : Sum → Sum → Sum
pair s t = record s { count = s.count + t.count; total = s.total +ℤ t.total }

in_all : (x y z : ℕ) (all : Groups) → (if nat_le (x + y) most_rows then (if nat_le ((x + y) + z) most_rows then all else None) else None)
    ≡ (if nat_le (y + z) most_rows then (if nat_le (x + (y + z)) most_rows then all else None) else None)
in_all x y z all = grind (arith, nat_tests)

first_of : (fits : Bool) (s : Sum) (us : List Sum) → option_map (λ both. both ∷ us) (if fits then Some s else None) ≡ (if fits then Some (s ∷ us) else None)
first_of true s us = refl
first_of false s us = refl

-- one group, then one, then others
one_one : (s t u : Sum) (us : List Sum) → joined_groups (groups_then (s ∷ []) (t ∷ [])) (Some (u ∷ us)) ≡ joined_groups (Some (s ∷ [])) (groups_then (t ∷ []) (u ∷ us))
one_one s t u us = by_same (same_values s.group t.group) (same_values t.group u.group) refl refl
  where
    outer : same_values s.group t.group ≡ true → same_values s.group u.group ≡ same_values t.group u.group
    outer e = ap (λ g. same_values g u.group) (same_values-sound s.group t.group e)

    first_two : (fits same : Bool) → same_values s.group u.group ≡ same
        → joined_groups (option_map (λ both. both ∷ []) (if fits then Some (pair s t) else None)) (Some (u ∷ us)) ≡ (if fits then before_one same (pair s t) u us else None)
    first_two true same e = ap (λ same. before_one same (pair s t) u us) e
    first_two false same e = refl

    last_two : (fits same : Bool) → same_values s.group t.group ≡ same
        → joined_groups (Some (s ∷ [])) (option_map (λ both. both ∷ us) (if fits then Some (pair t u) else None)) ≡ (if fits then before_one same s (pair t u) us else None)
    last_two true same e = ap (λ same. before_one same s (pair t u) us) e
    last_two false same e = refl

    fits_two : Bool
    fits_two = nat_le (s.count + t.count) most_rows

    fits_last : Bool
    fits_last = nat_le (t.count + u.count) most_rows

    all_same : (if fits_two then before_one true (pair s t) u us else None) ≡ (if fits_last then before_one true s (pair t u) us else None)
    all_same =
        ap (λ g. if fits_two then g else None) (first_of (nat_le ((s.count + t.count) + u.count) most_rows) (pair (pair s t) u) us)
        ∙ in_all s.count t.count u.count (Some (pair (pair s t) u ∷ us))
        ∙ ap (λ (n : ℕ). if fits_last then (if nat_le (s.count + (t.count + u.count)) most_rows then Some (record {
          group = s.group;
          count = n;
          total =
              (s.total +ℤ t.total) +ℤ u.total;
        } ∷ us) else None) else None) (omega arith)
        ∙ ap (λ (n : ℤ). if fits_last then (if nat_le (s.count + (t.count + u.count)) most_rows then Some (record {
          group = s.group;
          count =
              s.count + (t.count + u.count);
          total = n;
        } ∷ us) else None) else None) (+ℤ_assoc s.total t.total u.total)
        ∙ ap (λ g. if fits_last then g else None) (sym (first_of (nat_le (s.count + (t.count + u.count)) most_rows) (pair s (pair t u)) us))

    last_other : (fits : Bool) → (if fits then Some (pair s t ∷ u ∷ us) else None) ≡ option_map (λ both. both ∷ u ∷ us) (if fits then Some (pair s t) else None)
    last_other fits = sym (first_of fits (pair s t) (u ∷ us))

    first_other : (fits : Bool) → option_map (λ groups. s ∷ groups) (option_map (λ both. both ∷ us) (if fits then Some (pair t u) else None)) ≡ (if fits then Some (s ∷ pair t u ∷ us) else None)
    first_other true = refl
    first_other false = refl

    by_same : (a b : Bool) → same_values s.group t.group ≡ a → same_values t.group u.group ≡ b
        → joined_groups (before_one a s t []) (Some (u ∷ us)) ≡ joined_groups (Some (s ∷ [])) (before_one b t u us)
    by_same true true e f = first_two fits_two true (outer e ∙ f) ∙ all_same ∙ sym (last_two fits_last true e)
    by_same true false e f = first_two fits_two false (outer e ∙ f) ∙ last_other fits_two ∙ sym (ap (λ same. before_one same s t (u ∷ us)) e)
    by_same false true e f = ap (λ same. option_map (λ groups. s ∷ groups) (before_one same t u us)) f ∙ first_other fits_last ∙ sym (last_two fits_last false e)
    by_same false false e f = ap (λ same. option_map (λ groups. s ∷ groups) (before_one same t u us)) f ∙ sym (ap (λ same. before_one same s t (u ∷ us)) e)

-- a group before two or more, by whether it is the same as the first of them
abbrev before_two : Bool → Option Sum → Sum → Sum → Groups → Groups
before_two same both s t None = None
before_two same both s t (Some more) = if same then option_map (λ u. u ∷ more) both else Some (s ∷ t ∷ more)

two_then : (same : Bool) (both : Option Sum) (s t r : Sum) (ts us : List Sum)
    → joined_groups (if same then option_map (λ u. u ∷ r ∷ ts) both else Some (s ∷ t ∷ r ∷ ts)) (Some us) ≡ before_two same both s t (groups_then (r ∷ ts) us)
two_then true None s t r ts us = elim (groups_then (r ∷ ts) us) as (λ z. None ≡ before_two true None s t z) [ None ↦ refl | Some more ↦ refl ]
two_then true (Some u) s t r ts us =
    elim (groups_then (r ∷ ts) us) as (λ z. option_map (λ groups. u ∷ groups) z ≡ before_two true (Some u) s t z) [ None ↦ refl | Some more ↦ refl ]
two_then false both s t r ts us =
    elim (groups_then (r ∷ ts) us) as (λ z. option_map (λ groups. s ∷ groups) (option_map (λ groups. t ∷ groups) z) ≡ before_two false both s t z) [ None ↦ refl | Some more ↦ refl ]

before_more : (s t : Sum) (z : Groups) → joined_groups (Some (s ∷ [])) (option_map (λ groups. t ∷ groups) z) ≡ before_two (same_values s.group t.group) (with_more s t.count t.total) s t z
before_more s t None = refl
before_more s t (Some more) = refl

-- one group, then two or more, then others
one_two : (s t r : Sum) (ts us : List Sum) → joined_groups (groups_then (s ∷ []) (t ∷ r ∷ ts)) (Some us) ≡ joined_groups (Some (s ∷ [])) (groups_then (t ∷ r ∷ ts) us)
one_two s t r ts us = two_then (same_values s.group t.group) (with_more s t.count t.total) s t r ts us ∙ sym (before_more s t (groups_then (r ∷ ts) us))

one_any : (s : Sum) (ts us : List Sum) → joined_groups (groups_then (s ∷ []) ts) (Some us) ≡ joined_groups (Some (s ∷ [])) (groups_then ts us)
one_any s [] us = refl
one_any s (t ∷ []) [] = groups_unit (groups_then (s ∷ []) (t ∷ []))
one_any s (t ∷ []) (u ∷ us) = one_one s t u us
one_any s (t ∷ r ∷ ts) us = one_two s t r ts us

-- a group before others stays as it is
stays : (s r : Sum) (ss ts us : List Sum)
    → joined_groups (option_map (λ groups. s ∷ groups) (groups_then (r ∷ ss) ts)) (Some us) ≡ option_map (λ groups. s ∷ groups) (joined_groups (groups_then (r ∷ ss) ts) (Some us))
stays s r [] [] us = refl
stays s r [] (t ∷ ts) us = by_same (same_values r.group t.group) (nat_le (r.count + t.count) most_rows)
  where
    one : Bool → Bool → Groups
    one same fits = if same then option_map (λ both. both ∷ ts) (if fits then Some (pair r t) else None) else Some (r ∷ t ∷ ts)

    by_same : (same fits : Bool) → joined_groups (option_map (λ groups. s ∷ groups) (one same fits)) (Some us) ≡ option_map (λ groups. s ∷ groups) (joined_groups (one same fits) (Some us))
    by_same true true = refl
    by_same true false = refl
    by_same false fits = refl
stays s r (q ∷ ss) ts us =
    elim (groups_then (q ∷ ss) ts) as (λ z. joined_groups (option_map (λ groups. s ∷ groups) (option_map (λ groups. r ∷ groups) z)) (Some us)
    ≡ option_map (λ groups. s ∷ groups) (joined_groups (option_map (λ groups. r ∷ groups) z) (Some us))) [ None ↦ refl | Some x ↦ refl ]

moved : (s r : Sum) (ss : List Sum) (z : Groups) → joined_groups (Some (s ∷ r ∷ ss)) z ≡ option_map (λ groups. s ∷ groups) (joined_groups (Some (r ∷ ss)) z)
moved s r ss None = refl
moved s r ss (Some x) = refl

lists_assoc : (ss ts us : List Sum) → joined_groups (groups_then ss ts) (Some us) ≡ joined_groups (Some ss) (groups_then ts us)
lists_assoc [] ts us = sym (none_before (groups_then ts us))
lists_assoc (s ∷ []) ts us = one_any s ts us
lists_assoc (s ∷ r ∷ ss) ts us =
    stays s r ss ts us ∙ ap (option_map (λ groups. s ∷ groups)) (lists_assoc (r ∷ ss) ts us) ∙ sym (moved s r ss (groups_then ts us))

groups_assoc : (a b c : Groups) → joined_groups (joined_groups a b) c ≡ joined_groups a (joined_groups b c)
groups_assoc None b c = refl
groups_assoc (Some ss) None c = refl
groups_assoc (Some ss) (Some ts) None = none_following (groups_then ss ts)
groups_assoc (Some ss) (Some ts) (Some us) = lists_assoc ss ts us

-- ---- rows in two parts

module _ (columns place : ℕ) where
  -- groups with the row of a key
  abbrev pub with_row : Groups → Key × List Value → Groups
  with_row groups row = grouped columns place groups row.1

  -- the columns and the place stay
  pub columns_stay : (groups : Groups) (rows : List (Key × List Value)) → ◌≡◌ {A = ℕ × ℕ × Groups} (fold after_row (columns, place, groups) rows) (columns, place, fold with_row groups rows)
  columns_stay groups [] = refl
  columns_stay groups (row ∷ rows) = columns_stay (with_row groups row) rows

  parts : (groups : Groups) (rows following : List (Key × List Value)) → joined_groups (fold with_row groups rows) (fold with_row (Some []) following) ≡ fold with_row groups (rows ++ following)
  parts groups rows following = joined_as_one joined_groups (λ (row : Key × List Value). Some (group_of columns place row.1 ∷ [])) (Some []) groups_assoc groups_unit groups rows following

pub groups_as_one : (g : ℕ × ℕ × Groups) (rows following : List (Key × List Value))
    → ◌≡◌ {A = ℕ × ℕ × Groups} (joined_with (fold after_row g rows) (fold after_row (g.0, g.1, Some []) following)) (fold after_row g (rows ++ following))
groups_as_one g rows following =
    ap (λ (h : ℕ × ℕ × Groups). joined_with h (fold after_row (g.0, g.1, Some []) following)) (columns_stay g.0 g.1 g.2 rows)
    ∙ ap (λ (h : ℕ × ℕ × Groups). joined_with (g.0, g.1, fold (with_row g.0 g.1) g.2 rows) h) (columns_stay g.0 g.1 (Some []) following)
    ∙ ap (λ (groups : Groups). (g.0, g.1, groups)) (parts g.0 g.1 g.2 rows following)
    ∙ sym (columns_stay g.0 g.1 g.2 (rows ++ following))
