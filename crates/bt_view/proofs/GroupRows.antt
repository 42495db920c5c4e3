-- Rows that are added to their groups one by one make the groups of the rows. Serves grouped sums.
use Rattle.std.proofs.Common.{◌≡◌, ◌∙◌, ℕ, ◌+◌, ◌<◌, ◌≤◌, ◌&&◌, ◌++◌, Bool, true, false, true≢false, T, List, [], ◌∷◌, Option, Some, None, Ok, Err}
use Rattle.std.proofs.Common.{append-nil, append_assoc, arith, refl, sym, ap, subst, fold, length, length-append, map, take, cond, if◌then◌else◌}
use Rattle.std.specs.Prelude.{ℤ, pos, ◌+ℤ◌, is_some, nat_le, option_map}
use Rattle.std.specs.Cmp.{tied_itself}
use Rattle.std.specs.FinMap.{find, is_sorted, nat_cmp-IsAntisymmetric, put, slice_cmp-IsAntisymmetric}
use Rattle.std.specs.FinMap.Entries.{below_all, find-put, is_sorted-put, same_entries}
use Rattle.std.specs.List.{list_all}
use Rattle.std.specs.Ordering.{eq_by_cmp, is_eq, is_lt}
use Rattle.std.proofs.Math.IntN.{+ℤ_idl}
use Rattle.std.proofs.lemmas.Bool.Decides.{nat_tests}
use Rattle.std.proofs.lemmas.List.Elements.{filter-append}
use Rattle.std.proofs.lemmas.List.Sums.{fold-append}
use Rattle.bt_value.specs.Results.{or_refused}
use Rattle.bt_value.specs.declared.refusal.Refusal.TheVariants.{TooMany}
use Rattle.bt_value.specs.declared.value.Value.{Value}
use Rattle.bt_keycode.specs.Codes.{code_of}
use Rattle.bt_keycode.specs.Keys.{Key, key_cmp}
use Rattle.bt_keycode.proofs.offered.Order.{same_key, total_keys}
use Rattle.bt_form.specs.Messages.{Rows}
use Rattle.bt_view.specs.Groups.{first_values, groups_of, most_rows, number_in, rows_in_group, sum_of, total_of}
use Rattle.bt_show.specs.inside.Neighbours.{group_of, with_more}
use Rattle.bt_show.specs.declared.groups.Sum.{Sum}

-- whether two keys are equal
abbrev is_key : Key → Key → Bool
is_key = eq_by_cmp key_cmp

is_itself : (k : Key) → is_key k k ≡ true
is_itself k = ap is_eq (tied_itself total_keys k)

-- groups by the codes of their first values, with a row that is added to its group, or is the first of a new one
abbrev pub added_to : ℕ → ℕ → Rows Sum → List Value → Option Sum → Option (Rows Sum)
added_to columns place groups row None = Some (put key_cmp (code_of (take columns row)) (group_of columns place row) groups)
added_to columns place groups row (Some sum) =
    option_map (λ sum. put key_cmp (code_of (take columns row)) sum groups) (with_more sum 1 (number_in row place))

-- no groups are left once one has more rows than can be counted
abbrev pub and_row : ℕ → ℕ → Option (Rows Sum) → List Value → Option (Rows Sum)
and_row columns place None row = None
and_row columns place (Some groups) row = added_to columns place groups row (find key_cmp (code_of (take columns row)) groups)

abbrev is_counted : Sum → Bool
is_counted group = nat_le group.count most_rows

module _ (columns place : ℕ) where
  abbrev code : List Value → Key
  code row = code_of (take columns row)

  abbrev value : List Value → List Value
  value row = take columns row

  abbrev number : List Value → ℤ
  number row = number_in row place

  abbrev rows_of : Key → List (List Value) → List (List Value)
  rows_of key rows = rows_in_group columns key rows

  abbrev total_in : List (List Value) → ℤ
  total_in rows = total_of place rows

  abbrev sum_with : List (List Value) → Key × List Value → Sum
  sum_with rows group = sum_of columns place rows group

  abbrev by_code : List (List Value) → Rows (List Value)
  by_code rows = first_values columns rows

  abbrev pairs : List (List Value) → Rows (List Value)
  pairs rows = map (λ row. (code row, value row)) rows

  groups-sorted : (rows : List (List Value)) → T (is_sorted key_cmp (by_code rows))
  groups-sorted [] = tt
  groups-sorted (row ∷ rows) = is_sorted-put key_cmp total_keys (code row) (value row) (by_code rows) (groups-sorted rows)

  find-groups : (q : Key) (rows : List (List Value)) → find key_cmp q (by_code rows) ≡ find key_cmp q (pairs rows)
  find-groups q [] = refl
  find-groups q (row ∷ rows) = find-put key_cmp total_keys q (code row) (value row) (by_code rows) ∙ ap (cond (is_key q (code row)) (Some (value row))) (find-groups q rows)

  -- the first of two
  abbrev first_of : Option (List Value) → Option (List Value) → Option (List Value)
  first_of None other = other
  first_of (Some v) other = Some v

  find-more : (q : Key) (rows : List (List Value)) (row : List Value)
      → find key_cmp q (pairs (rows ++ row ∷ [])) ≡ first_of (find key_cmp q (pairs rows)) (cond (is_key q (code row)) (Some (value row)) None)
  find-more q [] row = refl
  find-more q (r ∷ rows) row = by_test (is_key q (code r)) (find-more q rows row)
    where
      by_test : (b : Bool) → find key_cmp q (pairs (rows ++ row ∷ [])) ≡ first_of (find key_cmp q (pairs rows)) (cond (is_key q (code row)) (Some (value row)) None)
          → cond b (Some (value r)) (find key_cmp q (pairs (rows ++ row ∷ []))) ≡ first_of (cond b (Some (value r)) (find key_cmp q (pairs rows))) (cond (is_key q (code row)) (Some (value row)) None)
      by_test true rest = refl
      by_test false rest = rest

  -- a key that is not found has no rows, and one that has rows is found
  no_rows : (q : Key) (rows : List (List Value)) → find key_cmp q (pairs rows) ≡ None → rows_of q rows ≡ []
  no_rows q [] none = refl
  no_rows q (r ∷ rows) none = by_test (is_key q (code r)) none (no_rows q rows)
    where
      by_test : (b : Bool) → cond b (Some (value r)) (find key_cmp q (pairs rows)) ≡ None → (find key_cmp q (pairs rows) ≡ None → rows_of q rows ≡ [])
          → cond b (r ∷ rows_of q rows) (rows_of q rows) ≡ []
      by_test true is rest = cc
      by_test false is rest = rest is

  rows-more : (q : Key) (rows : List (List Value)) (row : List Value) → rows_of q (rows ++ row ∷ []) ≡ rows_of q rows ++ cond (is_key q (code row)) (row ∷ []) []
  rows-more q rows row = filter-append (λ r. is_key q (code r)) rows (row ∷ [])

  -- what is found under a key in the groups of rows
  abbrev expected : List (List Value) → Key → Option (Sum)
  expected rows q = option_map (λ v. sum_with rows (q, v)) (find key_cmp q (pairs rows))

  record AreGroups (rows : List (List Value)) (m : Rows Sum) : Type 0 where
    sorted : T (is_sorted key_cmp m)
    found : (q : Key) → find key_cmp q m ≡ expected rows q
    counted : (q : Key) → length (rows_of q rows) ≤ most_rows

  -- the groups of some rows, or one of them has too many rows
  abbrev Follows : List (List Value) → Option (Rows Sum) → Type 0
  Follows rows None = (q : Key) × (most_rows < length (rows_of q rows))
  Follows rows (Some m) = AreGroups rows m

  length-more : (q : Key) (rows : List (List Value)) (row : List Value) → length (rows_of q (rows ++ row ∷ [])) ≡ length (rows_of q rows) + cond (is_key q (code row)) 1 0
  length-more q rows row = ap length (rows-more q rows row) ∙ length-append (rows_of q rows) (cond (is_key q (code row)) (row ∷ []) [])
      ∙ ap (λ n. length (rows_of q rows) + n) (by_test (is_key q (code row)))
    where
      by_test : (b : Bool) → length (cond b (row ∷ []) []) ≡ cond b 1 0
      by_test true = refl
      by_test false = refl

  over_stays : (rows : List (List Value)) (row : List Value) → Follows rows None → Follows (rows ++ row ∷ []) None
  over_stays rows row over = (over.0, by_test (is_key over.0 (code row)) (length-more over.0 rows row))
    where
      by_test : (b : Bool) → length (rows_of over.0 (rows ++ row ∷ [])) ≡ length (rows_of over.0 rows) + cond b 1 0 → most_rows < length (rows_of over.0 (rows ++ row ∷ []))
      by_test true is = let many = over.1 in omega (arith, is, many)
      by_test false is = let many = over.1 in omega (arith, is, many)

  -- another key
  other-expected : (q : Key) (rows : List (List Value)) (row : List Value) → is_key q (code row) ≡ false → expected (rows ++ row ∷ []) q ≡ expected rows q
  other-expected q rows row other =
      ap (option_map (λ v. sum_with (rows ++ row ∷ []) (q, v))) (find-more q rows row
      ∙ ap (λ b. first_of (find key_cmp q (pairs rows)) (cond b (Some (value row)) None)) other ∙ only (find key_cmp q (pairs rows)))
      ∙ ap (λ (rs : List (List Value)). option_map (λ v. same_sum v rs) (find key_cmp q (pairs rows))) (rows-more q rows row
      ∙ ap (λ b. rows_of q rows ++ cond b (row ∷ []) []) other ∙ append-nil (rows_of q rows))
    where
      only : (o : Option (List Value)) → first_of o None ≡ o
      only None = refl
      only (Some v) = refl

      same_sum : List Value → List (List Value) → Sum
      same_sum v rs = record { group = v; count = length rs; total = total_in rs }

  -- a row of the key
  own-rows : (q : Key) (rows : List (List Value)) (row : List Value) → is_key q (code row) ≡ true → rows_of q (rows ++ row ∷ []) ≡ rows_of q rows ++ row ∷ []
  own-rows q rows row same = rows-more q rows row ∙ ap (λ b. rows_of q rows ++ cond b (row ∷ []) []) same

  total-more : (rs : List (List Value)) (row : List Value) → total_in (rs ++ row ∷ []) ≡ total_in rs +ℤ number row
  total-more rs row = fold-append (λ total r. total +ℤ number r) (pos 0) rs (row ∷ [])

  -- the first row of a key
  first_row : (rows : List (List Value)) (m : Rows Sum) (row : List Value) → AreGroups rows m → find key_cmp (code row) m ≡ None
      → AreGroups (rows ++ row ∷ []) (put key_cmp (code row) (group_of columns place row) m)
  first_row rows m row are new = record {
    sorted = is_sorted-put key_cmp total_keys (code row) (group_of columns place row) m are.sorted;
    found = λ q. find-put key_cmp total_keys q (code row) (group_of columns place row) m ∙ by_key q (is_key q (code row)) refl;
    counted = λ q. by_count q (is_key q (code row)) refl (length-more q rows row) (are.counted q);
  }
    where
      unpaired : (o : Option (List Value)) (f : List Value → Sum) → option_map f o ≡ None → o ≡ None
      unpaired None f e = refl
      unpaired (Some v) f e = cc

      absent : find key_cmp (code row) (pairs rows) ≡ None
      absent = unpaired (find key_cmp (code row) (pairs rows)) (λ v. sum_with rows (code row, v)) (sym (are.found (code row)) ∙ new)

      own : Some (group_of columns place row) ≡ expected (rows ++ row ∷ []) (code row)
      own =
          let found = find-more (code row) rows row ∙ ap (λ o. first_of o (cond (is_key (code row) (code row)) (Some (value row)) None)) absent
          ∙ ap (λ b. cond b (Some (value row)) None) (is_itself (code row)) in
          let members = own-rows (code row) rows row (is_itself (code row)) ∙ ap (λ (rs : List (List Value)). rs ++ row ∷ []) (no_rows (code row) rows absent) in
          let total : pos 0 +ℤ number row ≡ number row = +ℤ_idl (number row) in
          sym (ap (option_map (λ v. sum_with (rows ++ row ∷ []) (code row, v))) found
          ∙ (λ i. Some (record { group = value row; count = length (members i); total = total_in (members i) }))
          ∙ (λ i. Some (record { group = value row; count = 1; total = total i })))

      by_key : (q : Key) (b : Bool) → is_key q (code row) ≡ b → cond b (Some (group_of columns place row)) (find key_cmp q m) ≡ expected (rows ++ row ∷ []) q
      by_key q true same = own ∙ ap (expected (rows ++ row ∷ [])) (sym (same_key q (code row) same))
      by_key q false other = are.found q ∙ sym (other-expected q rows row other)

      by_count : (q : Key) (b : Bool) → is_key q (code row) ≡ b → length (rows_of q (rows ++ row ∷ [])) ≡ length (rows_of q rows) + cond b 1 0 → length (rows_of q rows) ≤ most_rows
          → length (rows_of q (rows ++ row ∷ [])) ≤ most_rows
      by_count q true same is few =
          let none : length (rows_of q rows) ≡ 0 = ap (λ k. length (rows_of k rows)) (same_key q (code row) same) ∙ ap length (no_rows (code row) rows absent) in
          omega (arith, is, none)
      by_count q false other is few = omega (arith, is, few)

  -- one more row of a key
  next_row : (rows : List (List Value)) (m : Rows Sum) (row : List Value) (sum : Sum) → AreGroups rows m → find key_cmp (code row) m ≡ Some sum
      → Follows (rows ++ row ∷ []) (option_map (λ sum. put key_cmp (code row) sum m) (with_more sum 1 (number row)))
  next_row rows m row sum are old = by_most (nat_le (sum.count + 1) most_rows) refl
    where
      More : Sum
      More = record sum { count = sum.count + 1; total = sum.total +ℤ number row }

      of_value : (o : Option (List Value)) → option_map (λ v. sum_with rows (code row, v)) o ≡ Some sum → (v : List Value) × (o ≡ Some v) × (sum ≡ sum_with rows (code row, v))
      of_value None e = cc
      of_value (Some v) e = (v, refl, cc)

      was : (v : List Value) × (find key_cmp (code row) (pairs rows) ≡ Some v) × (sum ≡ sum_with rows (code row, v))
      was = of_value (find key_cmp (code row) (pairs rows)) (sym (are.found (code row)) ∙ old)

      one_more : length (rows_of (code row) (rows ++ row ∷ [])) ≡ sum.count + 1
      one_more = length-more (code row) rows row ∙ ap (λ b. length (rows_of (code row) rows) + cond b 1 0) (is_itself (code row)) ∙ ap (λ (s : Sum). s.count + 1) (sym was.2)

      own : Some More ≡ expected (rows ++ row ∷ []) (code row)
      own =
          let found = find-more (code row) rows row ∙ ap (λ o. first_of o (cond (is_key (code row) (code row)) (Some (value row)) None)) was.1 in
          let members = own-rows (code row) rows row (is_itself (code row)) in
          let count = ap length members ∙ length-append (rows_of (code row) rows) (row ∷ []) in
          let total = ap total_in members ∙ total-more (rows_of (code row) rows) row in
          sym (ap (option_map (λ v. sum_with (rows ++ row ∷ []) (code row, v))) found
          ∙ (λ i. Some (record { group = was.0; count = count i; total = total i }))
          ∙ ap (λ (s : Sum). Some (record s { count = s.count + 1; total = s.total +ℤ number row })) (sym was.2))

      by_key : (q : Key) (b : Bool) → is_key q (code row) ≡ b → cond b (Some More) (find key_cmp q m) ≡ expected (rows ++ row ∷ []) q
      by_key q true same = own ∙ ap (expected (rows ++ row ∷ [])) (sym (same_key q (code row) same))
      by_key q false other = are.found q ∙ sym (other-expected q rows row other)

      by_count : (q : Key) (b : Bool) → is_key q (code row) ≡ b → sum.count + 1 ≤ most_rows → length (rows_of q (rows ++ row ∷ [])) ≡ length (rows_of q rows) + cond b 1 0
          → length (rows_of q rows) ≤ most_rows → length (rows_of q (rows ++ row ∷ [])) ≤ most_rows
      by_count q true same most is few = let own_count = ap (λ k. length (rows_of k (rows ++ row ∷ []))) (same_key q (code row) same) ∙ one_more in omega (arith, own_count, most)
      by_count q false other most is few = omega (arith, is, few)

      by_most : (b : Bool) → nat_le (sum.count + 1) most_rows ≡ b → Follows (rows ++ row ∷ []) (option_map (λ sum. put key_cmp (code row) sum m) (if b then Some More else None))
      by_most true is =
          let most : sum.count + 1 ≤ most_rows = grind (arith, nat_tests, is) in
          record {
            sorted = is_sorted-put key_cmp total_keys (code row) More m are.sorted;
            found = λ q. find-put key_cmp total_keys q (code row) More m ∙ by_key q (is_key q (code row)) refl;
            counted = λ q. by_count q (is_key q (code row)) refl most (length-more q rows row) (are.counted q);
          }
      by_most false is =
          let over : most_rows < sum.count + 1 = grind (arith, nat_tests, is) in
          (code row, omega (arith, over, one_more))

  step : (rows : List (List Value)) (row : List Value) (state : Option (Rows Sum)) → Follows rows state → Follows (rows ++ row ∷ []) (and_row columns place state row)
  step rows row None over = over_stays rows row over
  step rows row (Some m) are = by_found (find key_cmp (code row) m) refl
    where
      by_found : (o : Option (Sum)) → find key_cmp (code row) m ≡ o → Follows (rows ++ row ∷ []) (added_to columns place m row o)
      by_found None is = first_row rows m row are is
      by_found (Some sum) is = next_row rows m row sum are is

  steps : (rows more : List (List Value)) (state : Option (Rows Sum)) → Follows rows state → Follows (rows ++ more) (fold (and_row columns place) state more)
  steps rows [] state follows = subst (λ (rs : List (List Value)). Follows rs state) (sym (append-nil rows)) follows
  steps rows (row ∷ more) state follows =
      subst (λ (rs : List (List Value)). Follows rs (fold (and_row columns place) (and_row columns place state row) more)) (append_assoc rows (row ∷ []) more)
      (steps (rows ++ row ∷ []) more (and_row columns place state row) (step rows row state follows))

  -- the groups by their codes
  abbrev keyed : List (List Value) → Rows (List Value) → Rows Sum
  keyed rows groups = map (λ g. (g.0, sum_with rows g)) groups

  keyed-sums : (rows : List (List Value)) (groups : Rows (List Value)) → map (λ g. g.1) (keyed rows groups) ≡ map (sum_with rows) groups
  keyed-sums rows [] = refl
  keyed-sums rows (g ∷ groups) = ap (λ gs. sum_with rows g ∷ gs) (keyed-sums rows groups)

  keyed-below : (rows : List (List Value)) (k : Key) (groups : Rows (List Value)) → below_all key_cmp k (keyed rows groups) ≡ below_all key_cmp k groups
  keyed-below rows k [] = refl
  keyed-below rows k (g ∷ groups) = ap (λ b. is_lt (key_cmp k g.0) && b) (keyed-below rows k groups)

  keyed-sorted : (rows : List (List Value)) (groups : Rows (List Value)) → is_sorted key_cmp (keyed rows groups) ≡ is_sorted key_cmp groups
  keyed-sorted rows [] = refl
  keyed-sorted rows (g ∷ groups) = (λ i. keyed-below rows g.0 groups i && keyed-sorted rows groups i)

  keyed-find : (rows : List (List Value)) (q : Key) (groups : Rows (List Value)) → find key_cmp q (keyed rows groups) ≡ option_map (λ v. sum_with rows (q, v)) (find key_cmp q groups)
  keyed-find rows q [] = refl
  keyed-find rows q (g ∷ groups) = by_test (is_key q g.0) refl (keyed-find rows q groups)
    where
      by_test : (b : Bool) → is_key q g.0 ≡ b → find key_cmp q (keyed rows groups) ≡ option_map (λ v. sum_with rows (q, v)) (find key_cmp q groups)
          → cond b (Some (sum_with rows g)) (find key_cmp q (keyed rows groups)) ≡ option_map (λ v. sum_with rows (q, v)) (cond b (Some g.1) (find key_cmp q groups))
      by_test true same rest = ap (λ k. Some (sum_with rows (k, g.1))) (sym (same_key q g.0 same))
      by_test false other rest = rest

  all_counted : (rows : List (List Value)) (groups : Rows (List Value)) → ((q : Key) → length (rows_of q rows) ≤ most_rows) → list_all is_counted (map (sum_with rows) groups) ≡ true
  all_counted rows [] few = refl
  all_counted rows (g ∷ groups) few =
      let count = few g.0 in
      let one : nat_le (length (rows_of g.0 rows)) most_rows ≡ true = grind (arith, nat_tests, count) in
      ap (λ b. b && list_all is_counted (map (sum_with rows) groups)) one ∙ all_counted rows groups few

  one_over : (rows : List (List Value)) (groups : Rows (List Value)) (q : Key) → is_some (find key_cmp q groups) ≡ true → most_rows < length (rows_of q rows)
      → list_all is_counted (map (sum_with rows) groups) ≡ false
  one_over rows [] q found over = absurd (true≢false (sym found))
  one_over rows (g ∷ groups) q found over = by_test (is_key q g.0) refl found (λ later. one_over rows groups q later over)
    where
      anything_false : (b : Bool) → (b && false) ≡ false
      anything_false true = refl
      anything_false false = refl

      by_test : (b : Bool) → is_key q g.0 ≡ b → is_some (cond b (Some g.1) (find key_cmp q groups)) ≡ true
          → (is_some (find key_cmp q groups) ≡ true → list_all is_counted (map (sum_with rows) groups) ≡ false)
          → (nat_le (length (rows_of g.0 rows)) most_rows && list_all is_counted (map (sum_with rows) groups)) ≡ false
      by_test true same is rest =
          let count : length (rows_of q rows) ≡ length (rows_of g.0 rows) = ap (λ k. length (rows_of k rows)) (same_key q g.0 same) in
          let many : nat_le (length (rows_of g.0 rows)) most_rows ≡ false = grind (arith, nat_tests, count, over) in
          ap (λ b. b && list_all is_counted (map (sum_with rows) groups)) many
      by_test false other is rest = ap (λ b. nat_le (length (rows_of g.0 rows)) most_rows && b) (rest is) ∙ anything_false (nat_le (length (rows_of g.0 rows)) most_rows)

  -- rows that are added to their groups one by one make the groups of the rows
  pub groups_by_rows : (rows : List (List Value)) → or_refused TooMany (option_map (map (λ group. group.1)) (fold (and_row columns place) (Some []) rows)) ≡ groups_of columns place rows
  groups_by_rows rows = by_state (fold (and_row columns place) (Some []) rows) (steps [] rows (Some []) (record { sorted = tt; found = λ q. refl; counted = λ q. omega arith }))
    where
      has_rows : (q : Key) → most_rows < length (rows_of q rows) → (o : Option (List Value)) → find key_cmp q (pairs rows) ≡ o → is_some o ≡ true
      has_rows q over None is = let none : length (rows_of q rows) ≡ 0 = ap length (no_rows q rows is) in absurd (omega (arith, over, none))
      has_rows q over (Some v) is = refl

      by_state : (state : Option (Rows Sum)) → Follows rows state → or_refused TooMany (option_map (map (λ group. group.1)) state) ≡ groups_of columns place rows
      by_state None over =
          let some = ap is_some (find-groups over.0 rows) ∙ has_rows over.0 over.1 (find key_cmp over.0 (pairs rows)) refl in
          sym (ap (λ b. if b then Ok (map (sum_with rows) (by_code rows)) else Err TooMany) (one_over rows (by_code rows) over.0 some over.1))
      by_state (Some m) are =
          let same : m ≡ keyed rows (by_code rows) = same_entries key_cmp total_keys (slice_cmp-IsAntisymmetric nat_cmp-IsAntisymmetric) m (keyed rows (by_code rows)) are.sorted
          (subst T (sym (keyed-sorted rows (by_code rows))) (groups-sorted rows))
          (λ q. are.found q ∙ ap (option_map (λ v. sum_with rows (q, v))) (sym (find-groups q rows)) ∙ sym (keyed-find rows q (by_code rows))) in
          ap (λ (es : Rows Sum). Ok (map (λ g. g.1) es)) same ∙ ap Ok (keyed-sums rows (by_code rows))
          ∙ sym (ap (λ b. if b then Ok (map (sum_with rows) (by_code rows)) else Err TooMany) (all_counted rows (by_code rows) are.counted))
