-- The rows of a range after the last key of a page are those after the page. Serves ranges of pages.
use Rattle.std.proofs.Common.{ℕ, zero, suc, ◌≡◌, ◌∙◌, ◌++◌, ◌&&◌, Bool, T, true, false, cond, not, ap, drop, refl, subst, sym, take}
use Rattle.std.proofs.Common.{List, [], ◌∷◌, Option, Some, None}
use Rattle.std.proofs.Math.Seq.{take-nil}
use Rattle.std.specs.FinMap.{is_sorted}
use Rattle.std.specs.FinMap.Entries.{below_all}
use Rattle.std.specs.List.{filter}
use Rattle.bt_value.proofs.offered.Tests.{first_true, second_true}
use Rattle.bt_keycode.specs.Keys.{IsFrom, Key, is_before, is_before_lower, is_before_upper, is_between, key_cmp}
use Rattle.bt_keycode.proofs.offered.NextKeys.{past}
use Rattle.bt_keycode.proofs.offered.Order.{later_chain, not_after, not_before_itself}
use Rattle.bt_show.specs.Ranges.{GoesOn, range_after}
use Rattle.bt_show.specs.declared.range.KeyRange.{KeyRange}

pub is_test : (b : Bool) → T b → b ≡ true
is_test true h = refl
is_test false h = absurd h

-- a key after one that is at or after a limit is at or after it
from_later : (low : Option Key) (k q : Key) → is_before k q ≡ true → IsFrom low k → IsFrom low q
from_later None k q after from = refl
from_later (Some low) k q after from = later_chain low k q from (not_after k q after)

at_or_after : (b c : Bool) → (not b && c) ≡ true → b ≡ false
at_or_after false c inside = refl
at_or_after true c inside = absurd cc

-- ---- the keys of a range that are after a key of it

module _ (from to : Option Key) (k : Key) where
  -- a key that is not after the last one is not in the rest
  not_in_rest : (q : Key) → is_before k q ≡ false → is_between (Some (k ++ 0 ∷ [])) to q ≡ false
  not_in_rest q before = ap (λ b. not b && is_before_upper to q) (past k q ∙ ap not before)

  -- a later key is in the rest if it is in the range
  rest_alike : (q : Key) → IsFrom from k → is_before k q ≡ true → is_between (Some (k ++ 0 ∷ [])) to q ≡ is_between from to q
  rest_alike q begins after = ap (λ b. not b && is_before_upper to q) (past k q ∙ ap not after ∙ sym (from_later from k q after begins))

  -- a key in the range is at or after its lower limit
  begins_before : (q : Key) → is_between from to q ≡ true → IsFrom from q
  begins_before q inside = at_or_after (is_before_lower from q) (is_before_upper to q) inside

  -- a key that is not in the range is not in the rest, if the last key is in the range
  outside : (q : Key) → IsFrom from k → is_between from to q ≡ false → (b : Bool) → is_before k q ≡ b
      → is_between (Some (k ++ 0 ∷ [])) to q ≡ false
  outside q begins out true after = rest_alike q begins after ∙ out
  outside q begins out false after = not_in_rest q after

module _ {X : Type 0} where
  -- this is true of the key of each row
  abbrev EachKey : (Key → Type 0) → List (Key × X) → Type 0
  EachKey P [] = Unit {0}
  EachKey P (r ∷ rs) = P r.0 × EachKey P rs

  -- each row has a key after this one
  abbrev AreAfter : Key → List (Key × X) → Type 0
  AreAfter k = EachKey (λ q. is_before k q ≡ true)

  all_after : (k : Key) (rows : List (Key × X)) → below_all key_cmp k rows ≡ true → AreAfter k rows
  all_after k [] below = tt
  all_after k (r ∷ rs) below =
      (first_true (is_before k r.0) (below_all key_cmp k rs) below, all_after k rs (second_true (is_before k r.0) (below_all key_cmp k rs) below))

  not_none : (front : List (Key × X)) (last : Key × X) → [] ≡ front ++ last ∷ [] → ⊥
  not_none [] last is = absurd cc
  not_none (f ∷ fs) last is = absurd cc

  none_dropped : (n : ℕ) (rows : List (Key × X)) → take n rows ≡ [] → drop n rows ≡ rows
  none_dropped zero rows none = refl
  none_dropped (suc n) [] none = refl
  none_dropped (suc n) (r ∷ rs) none = absurd cc

  -- ---- the last row of a page is one of the rows that pass a test

  module _ (test : Key → Bool) (P : Key → Type 0) (last : Key × X) where
    abbrev passing : List (Key × X) → List (Key × X)
    passing rows = filter (λ r. test r.0) rows

    -- the last row of each page of these rows has the property and passes the test
    abbrev LastPasses : List (Key × X) → Type 0
    LastPasses rows = (n : ℕ) (front : List (Key × X)) → take n (passing rows) ≡ front ++ last ∷ [] → P last.0 × (test last.0 ≡ true)

    -- the first row is the last one of the page, or a later row is
    in_front : (r : Key × X) (rs : List (Key × X)) → P r.0 → LastPasses rs → test r.0 ≡ true → (m : ℕ) (front : List (Key × X))
        → r ∷ take m (passing rs) ≡ front ++ last ∷ [] → P last.0 × (test last.0 ≡ true)
    in_front r rs first later passed m [] is =
        let same : r ≡ last = cc in
        (subst (λ (q : Key × X). P q.0) same first, subst (λ (q : Key × X). test q.0 ≡ true) same passed)
    in_front r rs first later passed m (f ∷ fs) is = let more : take m (passing rs) ≡ fs ++ last ∷ [] = cc in later m fs more

    in_page : (r : Key × X) (rs : List (Key × X)) → P r.0 → LastPasses rs → (b : Bool) → test r.0 ≡ b → (n : ℕ) (front : List (Key × X))
        → take n (cond b (r ∷ passing rs) (passing rs)) ≡ front ++ last ∷ [] → P last.0 × (test last.0 ≡ true)
    in_page r rs first later true passed zero front is = absurd (not_none front last is)
    in_page r rs first later true passed (suc m) front is = in_front r rs first later passed m front is
    in_page r rs first later false passed n front is = later n front is

    of_page : (rows : List (Key × X)) → EachKey P rows → LastPasses rows
    of_page [] all = λ n front is. absurd (not_none front last (sym (take-nil n) ∙ is))
    of_page (r ∷ rs) all = λ n front is. in_page r rs all.0 (of_page rs all.1) (test r.0) refl n front is

  -- ---- the rows after the key of that row

  module _ (from to : Option Key) (k : Key) where
    abbrev in_range : Key × X → Bool
    in_range r = is_between from to r.0

    abbrev in_rest : Key × X → Bool
    in_rest r = is_between (Some (k ++ 0 ∷ [])) to r.0

    all_rest : (rows : List (Key × X)) → IsFrom from k → AreAfter k rows → filter in_rest rows ≡ filter in_range rows
    all_rest [] begins all = refl
    all_rest (r ∷ rs) begins all =
        let alike = rest_alike from to k r.0 begins all.0 in
        λ i. cond (alike i) (r ∷ all_rest rs begins all.1 i) (all_rest rs begins all.1 i)

    module _ (x : X) where
      -- after each page of these rows that ends with that row, the rest follows
      abbrev RestFollows : List (Key × X) → Type 0
      RestFollows rows =
          (n : ℕ) (front : List (Key × X)) → take n (filter in_range rows) ≡ front ++ (k, x) ∷ [] → filter in_rest rows ≡ drop n (filter in_range rows)

      module _ (r : Key × X) (rs : List (Key × X)) (later : AreAfter r.0 rs) (rest : RestFollows rs) where
        -- the first row is not in the rest
        skipped : in_rest r ≡ false → (others : List (Key × X)) → filter in_rest rs ≡ others → filter in_rest (r ∷ rs) ≡ others
        skipped out others is = ap (λ b. cond b (r ∷ filter in_rest rs) (filter in_rest rs)) out ∙ is

        after_front : in_range r ≡ true → (m : ℕ) (front : List (Key × X)) → r ∷ take m (filter in_range rs) ≡ front ++ (k, x) ∷ []
            → filter in_rest (r ∷ rs) ≡ drop m (filter in_range rs)
        after_front inside m [] is =
            let same : r ≡ (k, x) = cc in
            let none : take m (filter in_range rs) ≡ [] = cc in
            let key : r.0 ≡ k = ap (λ (q : Key × X). q.0) same in
            let begins = subst (IsFrom from) key (begins_before from to k r.0 inside) in
            skipped (not_in_rest from to k r.0 (ap (is_before k) key ∙ not_before_itself k)) (drop m (filter in_range rs))
            (all_rest rs begins (subst (λ (q : Key). AreAfter q rs) key later) ∙ sym (none_dropped m (filter in_range rs) none))
        after_front inside m (f ∷ fs) is =
            let more : take m (filter in_range rs) ≡ fs ++ (k, x) ∷ [] = cc in
            let after = (of_page (is_between from to) (λ q. is_before r.0 q ≡ true) (k, x) rs later m fs more).0 in
            skipped (not_in_rest from to k r.0 (not_after r.0 k after)) (drop m (filter in_range rs)) (rest m fs more)

        after_page : (b : Bool) → in_range r ≡ b → (n : ℕ) (front : List (Key × X))
            → take n (cond b (r ∷ filter in_range rs) (filter in_range rs)) ≡ front ++ (k, x) ∷ []
            → filter in_rest (r ∷ rs) ≡ drop n (cond b (r ∷ filter in_range rs) (filter in_range rs))
        after_page true inside zero front is = absurd (not_none front (k, x) is)
        after_page true inside (suc m) front is = after_front inside m front is
        after_page false out n front is =
            let begins = begins_before from to k k (of_page (is_between from to) (λ q. is_before r.0 q ≡ true) (k, x) rs later n front is).1 in
            skipped (outside from to k r.0 begins out (is_before k r.0) refl) (drop n (filter in_range rs)) (rest n front is)

      rest_follows : (rows : List (Key × X)) → is_sorted key_cmp rows ≡ true → RestFollows rows
      rest_follows [] sorted = λ n front is. absurd (not_none front (k, x) (sym (take-nil n) ∙ is))
      rest_follows (r ∷ rs) sorted = λ n front is.
          let later = all_after r.0 rs (first_true (below_all key_cmp r.0 rs) (is_sorted key_cmp rs) sorted) in
          let rest = rest_follows rs (second_true (below_all key_cmp r.0 rs) (is_sorted key_cmp rs) sorted) in
          after_page r rs later rest (in_range r) refl n front is

pub goes_on : (range : KeyRange) (key : Key) → GoesOn range key (range_after range key)
goes_on range key rows n sorted ends = rest_follows range.from range.to key ends.1 rows (is_test (is_sorted key_cmp rows) sorted) n ends.0 ends.2
