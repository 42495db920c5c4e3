-- The entries of rows, sorted by key, are what an index selects of the rows.
use Rattle.std.proofs.Common.{◌≡◌, ℕ, ◌+◌, ◌<◌, ◌≤◌, Bool, true, false, cond, T, List, [], ◌∷◌, ◌++◌, ◌&&◌, All, IsPermutation, append-nil, append_assoc}
use Rattle.std.proofs.Common.{◌-◌, ◌⊎◌, inl, inr, zero, suc, set, Result, Ok, drop, filter, get_or, length, not, refl, subst, sym, ap, arith, ◌∙◌, Option, Some, None, true≢false}
use Rattle.std.proofs.Math.ListN.{drop_of_length-le}
use Rattle.std.proofs.lemmas.List.{drop_more, get_or_default, get_or-set_other, get_or-set_same, nil_from_length}
use Rattle.std.proofs.lemmas.List.Elements.{All-filter, All-head, All-tail, filter_passes}
use Rattle.std.proofs.lemmas.List.Sorted.{All-permutation, sum_by-IsPermutation}
use Rattle.std.proofs.lemmas.List.Sums.{length-filter}
use Rattle.std.specs.FinMap.{find, put}
use Rattle.std.specs.FinMap.Entries.{below_all, by_order, is_sorted}
use Rattle.std.specs.List.Sorted.{IsStableBy, ties}
use Rattle.std.specs.Option.{option_to_list}
use Rattle.std.specs.Ordering.{eq_by_cmp, is_eq}
use Rattle.std.specs.declared.cmp.Ordering.TheVariants.{Less, Equal, Greater}
use Rattle.bt_value.specs.declared.value.Value.{Value}
use Rattle.bt_keycode.specs.Keys.{AllFrom, IsSorted, is_before, key_cmp}
use Rattle.bt_keycode.proofs.offered.Order.{not_after}
use Rattle.bt_keycode.proofs.offered.Truths.{t_first, t_second, true_t}
use Rattle.bt_message.specs.Effects.{Rows}
use Rattle.bt_message.specs.Messages.{sorted_batch}
use Rattle.bt_messages.proofs.offered.Stable.{earlier, stable_is_sorted_batch, tied_key}
use Rattle.bt_fanout.specs.Entries.{Definition, StandsUnder, entry_of}
use Rattle.bt_fanout.specs.Promises.{SuitsRows}
use Rattle.bt_fanout.specs.Selections.{AreApart, EachStands, entry_in, select, with_entry}
use Rattle.bt_fanout.specs.inside.RowEntries.{AreEntriesOrFailed, IsEntryOrFailed, entries_of}
use Rattle.bt_fanout.proofs.Entries.{apart}
use Rattle.bt_fanout.proofs.Lookups.{equal_itself, find-select, find_below, is_at, sorted-select, value_at}
use Rattle.bt_fanout.proofs.Owners.{owns}
use Rattle.bt_fanout.proofs.offered.Suiting.{all_more, all_none}

-- ---- what keeps at most one element keeps the same one in any order

module _ {X : Type 0} (p : X → Bool) where
  all_kept : (P : X → Type 0) (xs : List X) → All P (filter p xs) → All (λ x. p x ≡ true → P x) xs
  all_kept P [] h = all_none (λ x. p x ≡ true → P x)
  all_kept P (x ∷ xs) h = by_test (p x) refl h (all_kept P xs)
    where
      by_test : (b : Bool) → p x ≡ b → All P (cond b (x ∷ filter p xs) (filter p xs)) → (All P (filter p xs) → All (λ x. p x ≡ true → P x) xs) → All (λ x. p x ≡ true → P x) (x ∷ xs)
      by_test true e h rest = all_more (λ x. p x ≡ true → P x) x xs (λ t. All-head P x (filter p xs) h) (rest (All-tail P x (filter p xs) h))
      by_test false e h rest = all_more (λ x. p x ≡ true → P x) x xs (λ t. absurd (true≢false (sym t ∙ e))) (rest h)

  single : (xs : List X) (a : X) → length xs ≡ 1 → All (λ x. p x ≡ true → x ≡ a) xs → All (λ x. p x ≡ true) xs → xs ≡ a ∷ []
  single [] a one is pass = absurd (omega (arith, one))
  single (x ∷ []) a one is pass = ap (λ y. y ∷ []) (All-head (λ x. p x ≡ true → x ≡ a) x [] is (All-head (λ x. p x ≡ true) x [] pass))
  single (x ∷ y ∷ xs) a one is pass = absurd (omega (arith, one))

  one_kept : (xs ys : List X) → IsPermutation xs ys → length (filter p xs) ≤ 1 → filter p ys ≡ filter p xs
  one_kept xs ys moved few = by_kept (filter p xs) refl few
    where
      same : length (filter p ys) ≡ length (filter p xs)
      same = length-filter p ys ∙ sum_by-IsPermutation (λ x. cond (p x) 1 0) xs ys moved ∙ sym (length-filter p xs)

      by_kept : (zs : List X) → filter p xs ≡ zs → length zs ≤ 1 → filter p ys ≡ zs
      by_kept [] e few = nil_from_length (filter p ys) (same ∙ ap length e)
      by_kept (a ∷ []) e few =
          let only = all_kept (λ x. x ≡ a) xs (subst (All (λ x. x ≡ a)) (sym e) (all_more (λ x. x ≡ a) a [] refl (all_none (λ x. x ≡ a)))) in
          single (filter p ys) a (same ∙ ap length e) (All-filter p (λ x. p x ≡ true → x ≡ a) ys (All-permutation (λ x. p x ≡ true → x ≡ a) xs ys moved only)) (filter_passes p ys)
      by_kept (a ∷ b ∷ zs) e few = absurd (omega (arith, few))

-- ---- a new key is put where a stable sort has it

not_first : {E : Type 0} (b : Bool) (v : E) (o : Option E) → cond b (Some v) o ≡ None → (b ≡ false) × (o ≡ None)
not_first true v o e = cc
not_first false v o e = (refl, e)

exchanged : {X : Type 0} (a b : Bool) (x y : X) (zs : List X) → (a ≡ true → b ≡ true → ⊥) →
    cond a (x ∷ cond b (y ∷ zs) zs) (cond b (y ∷ zs) zs) ≡ cond b (y ∷ cond a (x ∷ zs) zs) (cond a (x ∷ zs) zs)
exchanged true true x y zs h = absurd (h refl refl)
exchanged true false x y zs h = refl
exchanged false true x y zs h = refl
exchanged false false x y zs h = refl

module _ {E : Type 0} where
  put_in_order : (x : List ℕ × E) (k : List ℕ) (v : E) (es : Rows E) → find key_cmp k es ≡ None → filter (ties earlier x) (put key_cmp k v es) ≡ filter (ties earlier x) ((k, v) ∷ es)
  put_in_order x k v [] none = refl
  put_in_order x k v (e ∷ es) none =
      let new : (eq_by_cmp key_cmp k e.0 ≡ false) × (find key_cmp k es ≡ None) = not_first (eq_by_cmp key_cmp k e.0) e.1 (find key_cmp k es) none in
      elim (key_cmp k e.0) as (λ o. is_eq o ≡ false → filter (ties earlier x) (by_order o ((k, v) ∷ e ∷ es) ((e.0, v) ∷ es) (e ∷ put key_cmp k v es)) ≡ filter (ties earlier x) ((k, v) ∷ e ∷ es)) [
        | Less ↦ λ other. refl
        | Equal ↦ λ other. absurd (true≢false other)
        | Greater ↦ λ other.
            ap (λ zs. cond (ties earlier x e) (e ∷ zs) zs) (put_in_order x k v es new.1)
            ∙ exchanged (ties earlier x e) (ties earlier x (k, v)) e (k, v) (filter (ties earlier x) es)
            (λ a b. true≢false (sym (equal_itself k) ∙ ap (eq_by_cmp key_cmp k) (sym (tied_key x (k, v) b) ∙ tied_key x e a) ∙ new.0))
      ] new.0

  from_below : (k : List ℕ) (es : Rows E) → T (below_all key_cmp k es) → AllFrom k es
  from_below k [] h = tt
  from_below k (e ∷ es) h = (not_after k e.0 (true_t _ (t_first _ _ h)), from_below k es (t_second _ _ h))

  -- strictly rising keys are in order
  in_order : (es : Rows E) → T (is_sorted key_cmp es) → IsSorted es
  in_order [] h = tt
  in_order (e ∷ es) h = (from_below e.0 es (t_first _ _ h), in_order es (t_second _ _ h))

  -- no two of strictly rising keys are equal
  none_tied : (x : List ℕ × E) (k : List ℕ) (es : Rows E) → x.0 ≡ k → T (below_all key_cmp k es) → filter (ties earlier x) es ≡ []
  none_tied x k [] same h = refl
  none_tied x k (e ∷ es) same h =
      let before : is_before x.0 e.0 ≡ true = ap (λ j. is_before j e.0) same ∙ true_t _ (t_first _ _ h) in
      ap (λ b. cond (not b && not (earlier e x)) (e ∷ filter (ties earlier x) es) (filter (ties earlier x) es)) before ∙ none_tied x k es same (t_second _ _ h)

  few_tied : (x : List ℕ × E) (es : Rows E) → T (is_sorted key_cmp es) → length (filter (ties earlier x) es) ≤ 1
  few_tied x [] h = omega arith
  few_tied x (e ∷ es) h = by_test (ties earlier x e) refl (few_tied x es (t_second _ _ h))
    where
      by_test : (b : Bool) → ties earlier x e ≡ b → length (filter (ties earlier x) es) ≤ 1 → length (cond b (e ∷ filter (ties earlier x) es) (filter (ties earlier x) es)) ≤ 1
      by_test true tied few = let none = ap length (none_tied x e.0 es (tied_key x e tied) (t_first _ _ h)) in omega (arith, none)
      by_test false tied few = few

-- ---- the entries of rows

module _ {X E : Type 0} (entry : List ℕ → X → Option (List ℕ × E)) where
  module _ (Stands : List ℕ → X → Type 0) (are_apart : AreApart Stands entry) where
    -- later rows have no entry with the key of that of a row
    new_key : (r : List ℕ × X) (rows : Rows X) (a : List ℕ × E) → T (is_sorted key_cmp (r ∷ rows)) → EachStands Stands (r ∷ rows) → entry r.0 r.1 ≡ Some a → find key_cmp a.0 (select entry rows) ≡ None
    new_key r rows a sorted stand e =
        find-select entry a.0 r.0 rows (t_second _ _ sorted) (owns entry Stands are_apart a.0 r.0 r.1 stand.0 (ap (is_at a.0) e ∙ equal_itself a.0) rows stand.1)
        ∙ ap (λ x. value_at a.0 (entry_in entry r.0 x)) (find_below r.0 rows (t_first _ _ sorted))

    selects_in_order : (rows : Rows X) → T (is_sorted key_cmp rows) → EachStands Stands rows → IsStableBy earlier (entries_of entry rows) (select entry rows)
    selects_in_order [] sorted stand x = refl
    selects_in_order (r ∷ rows) sorted stand x =
        elim (entry r.0 r.1) as (λ o. entry r.0 r.1 ≡ o → filter (ties earlier x) (with_entry o (select entry rows)) ≡ filter (ties earlier x) (option_to_list o ++ entries_of entry rows)) [
          | None ↦ λ e. selects_in_order rows (t_second _ _ sorted) stand.1 x
          | Some a ↦ λ e.
              put_in_order x a.0 a.1 (select entry rows) (new_key r rows a sorted stand e)
              ∙ ap (λ zs. cond (ties earlier x a) (a ∷ zs) zs) (selects_in_order rows (t_second _ _ sorted) stand.1 x)
        ] refl

    selected_are_sorted : (rows : Rows X) → T (is_sorted key_cmp rows) → EachStands Stands rows → select entry rows ≡ sorted_batch (entries_of entry rows)
    selected_are_sorted rows sorted stand =
        stable_is_sorted_batch (entries_of entry rows) (select entry rows) (in_order (select entry rows) (sorted-select entry rows)) (selects_in_order rows sorted stand)

    -- so entries have only one order by rising key
    reordered_are_selected : (rows : Rows X) (es : Rows E) → T (is_sorted key_cmp rows) → EachStands Stands rows → IsPermutation (entries_of entry rows) es → IsSorted es → es ≡ select entry rows
    reordered_are_selected rows es sorted stand moved up =
        stable_is_sorted_batch (entries_of entry rows) es up
        (λ x. one_kept (ties earlier x) (entries_of entry rows) es moved
        (subst (λ kept. length kept ≤ 1) (selects_in_order rows sorted stand x) (few_tied x (select entry rows) (sorted-select entry rows))))
        ∙ sym (selected_are_sorted rows sorted stand)

pub sorted_entries-are : (def : Definition) (rows sorted : Rows (List Value)) → SuitsRows def rows → IsPermutation (entries_of (entry_of def) rows) sorted → IsSorted sorted
    → sorted ≡ select (entry_of def) rows
sorted_entries-are def rows sorted suits moved up =
    reordered_are_selected (entry_of def) (StandsUnder def suits.kinds) (apart def suits.kinds) rows sorted suits.sorted suits.stand moved up

-- ---- while they are collected

-- the entry of one more row
pub one_more : (def : Definition) (rows : Rows (List Value)) (i : ℕ) (row : List ℕ × List Value) (whole old new : Rows (List Value)) → i < length rows → row ≡ get_or rows i row →
    whole ≡ old ++ entries_of (entry_of def) (drop i rows) → new ≡ old ++ option_to_list (entry_of def row.0 row.1) → whole ≡ new ++ entries_of (entry_of def) (drop (i + 1) rows)
one_more def rows i row whole old new within is so more =
    so ∙ ap (λ rs. old ++ entries_of (entry_of def) rs) (drop_more rows i row within ∙ ap (λ r. r ∷ drop (i + 1) rows) (sym is))
    ∙ sym (append_assoc old (option_to_list (entry_of def row.0 row.1)) (entries_of (entry_of def) (drop (i + 1) rows)))
    ∙ ap (λ es. es ++ entries_of (entry_of def) (drop (i + 1) rows)) (sym more)

-- none are left
pub all_collected : (def : Definition) (rows : Rows (List Value)) (i : ℕ) (whole entries : Rows (List Value)) → length rows ≤ i
    → whole ≡ entries ++ entries_of (entry_of def) (drop i rows) → entries ≡ whole
all_collected def rows i whole entries past e = sym (e ∙ ap (λ rs. entries ++ entries_of (entry_of def) rs) (drop_of_length-le rows past) ∙ append-nil entries)

-- of entries that are left, the first is that of the next row, and the others are those of the rows after it
module _ {F : Type 0} (def : Definition) (rows : Rows (List Value)) (made : Result (Option (List ℕ × List Value)) F) (rest all : List (Result (Option (List ℕ × List Value)) F))
    (next : all ≡ made ∷ rest) (few : length all ≤ length rows) (are : AreEntriesOrFailed def (length rows - length all) rows all) where
  pub first_made : IsEntryOrFailed def (get_or rows (length rows - length all) ([], [])) made
  first_made =
      let here : length rows - length all + 0 ≡ length rows - length all = omega arith in
      subst (λ i. IsEntryOrFailed def (get_or rows i ([], [])) made) here
      (subst (λ ms. IsEntryOrFailed def (get_or rows (length rows - length all + 0) ([], [])) (get_or ms 0 (Ok None))) next (are 0 (omega (arith, ap length next))))

  pub others_made : AreEntriesOrFailed def (length rows - length rest) rows rest
  others_made k within =
      let place : length rows - length all + (k + 1) ≡ length rows - length rest + k = omega (arith, ap length next, few) in
      let one : k + 1 ≡ suc k = omega arith in
      subst (λ i. IsEntryOrFailed def (get_or rows i ([], [])) (get_or rest k (Ok None))) place
      (subst (λ i. IsEntryOrFailed def (get_or rows (length rows - length all + (k + 1)) ([], [])) (get_or (made ∷ rest) i (Ok None))) one
      (subst (λ ms. IsEntryOrFailed def (get_or rows (length rows - length all + (k + 1)) ([], [])) (get_or ms (k + 1) (Ok None))) next (are (k + 1) (omega (arith, within, ap length next)))))

at_or_before : (k n : ℕ) → k < n + 1 → (k ≡ n) ⊎ (k < n)
at_or_before zero zero within = inl refl
at_or_before zero (suc n) within = inr (omega arith)
at_or_before (suc k) zero within = absurd (omega (arith, within))
at_or_before (suc k) (suc n) within = elim (at_or_before k n (omega (arith, within))) [
  | inl e ↦ inl (ap suc e)
  | inr l ↦ inr (omega (arith, l))
]

-- one more entry of a piece
pub set_entry : {F : Type 0} (def : Definition) (rows : Rows (List Value)) (start offset : ℕ) (piece : List (Result (Option (List ℕ × List Value)) F)) (made : Result (Option (List ℕ × List Value)) F)
    → offset < length piece → ((k : ℕ) → k < offset → IsEntryOrFailed def (get_or rows (start + k) ([], [])) (get_or piece k (Ok None)))
    → (row : List ℕ × List Value) → start + offset < length rows → row ≡ get_or rows (start + offset) row → IsEntryOrFailed def row made
    → (k : ℕ) → k < offset + 1 → IsEntryOrFailed def (get_or rows (start + k) ([], [])) (get_or (set piece offset made) k (Ok None))
set_entry def rows start offset piece made here so_far row there row_is is k within = elim (at_or_before k offset within) [
  | inl e ↦
      subst (λ i. IsEntryOrFailed def (get_or rows (start + i) ([], [])) (get_or (set piece offset made) i (Ok None))) (sym e)
      (subst (IsEntryOrFailed def (get_or rows (start + offset) ([], []))) (sym (get_or-set_same piece offset made (Ok None) here))
      (subst (λ r. IsEntryOrFailed def r made) (row_is ∙ get_or_default rows (start + offset) row ([], []) there) is))
  | inr before ↦
      subst (IsEntryOrFailed def (get_or rows (start + k) ([], []))) (sym (get_or-set_other piece offset k made (Ok None) (λ e. absurd (omega (arith, e, before))))) (so_far k before)
]
