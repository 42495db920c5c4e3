-- The rows of a range before the last key of a page from its end are those before the page. Serves ranges of pages from the end.
use Rattle.std.proofs.Common.{ℕ, ◌≡◌, ◌∙◌, ◌++◌, ◌∷◌, ◌&&◌, Bool, T, true, false, cond, not, List, [], Option, Some, None, ap, drop, refl, reverse, subst, sym, take}
use Rattle.std.proofs.lemmas.List.{append_assoc, reverse-append, reverse-reverse, take-append-drop}
use Rattle.std.specs.FinMap.{is_sorted}
use Rattle.std.specs.FinMap.Entries.{below_all, is_sorted-where_key}
use Rattle.std.specs.List.{filter}
use Rattle.bt_value.proofs.offered.Tests.{first_true, second_true}
use Rattle.bt_keycode.specs.Keys.{Key, is_before, is_before_lower, is_before_upper, is_between, key_cmp}
use Rattle.bt_keycode.proofs.offered.Order.{before_chain, not_after, not_before_itself}
use Rattle.bt_show.specs.Ranges.{GoesOnBefore, range_before}
use Rattle.bt_show.specs.declared.range.KeyRange.{KeyRange}
use Rattle.bt_show.proofs.NextPages.{is_test}

module _ {X : Type 0} where
  abbrev passing : (Key → Bool) → List (Key × X) → List (Key × X)
  passing test rows = filter (λ r. test r.0) rows

  -- ---- each row that passes a test passes it

  abbrev EachPasses : (Key → Bool) → List (Key × X) → Type 0
  EachPasses test [] = Unit {0}
  EachPasses test (r ∷ rs) = (test r.0 ≡ true) × EachPasses test rs

  with_first : (test : Key → Bool) (r : Key × X) (rows : List (Key × X)) → EachPasses test rows → (b : Bool) → test r.0 ≡ b → EachPasses test (cond b (r ∷ rows) rows)
  with_first test r rows all true is = (is, all)
  with_first test r rows all false is = all

  each_passes : (test : Key → Bool) (rows : List (Key × X)) → EachPasses test (passing test rows)
  each_passes test [] = tt
  each_passes test (r ∷ rs) = with_first test r (passing test rs) (each_passes test rs) (test r.0) refl

  one_passes : (test : Key → Bool) (earlier later : List (Key × X)) (r : Key × X) → EachPasses test (earlier ++ r ∷ later) → test r.0 ≡ true
  one_passes test [] later r all = all.0
  one_passes test (e ∷ es) later r all = one_passes test es later r all.1

  -- ---- the rows before one of sorted rows

  none_earlier : (k : Key) (rows : List (Key × X)) → below_all key_cmp k rows ≡ true → passing (λ q. is_before q k) rows ≡ []
  none_earlier k [] below = refl
  none_earlier k (r ∷ rs) below =
      ap (λ b. cond b (r ∷ passing (λ q. is_before q k) rs) (passing (λ q. is_before q k) rs)) (not_after k r.0 (first_true (is_before k r.0) (below_all key_cmp k rs) below))
      ∙ none_earlier k rs (second_true (is_before k r.0) (below_all key_cmp k rs) below)

  after_it : (q : Key) (earlier later : List (Key × X)) (r : Key × X) → below_all key_cmp q (earlier ++ r ∷ later) ≡ true → is_before q r.0 ≡ true
  after_it q [] later r below = first_true (is_before q r.0) (below_all key_cmp q later) below
  after_it q (e ∷ es) later r below = after_it q es later r (second_true (is_before q e.0) (below_all key_cmp q (es ++ r ∷ later)) below)

  earlier_ones : (earlier later : List (Key × X)) (r : Key × X) → is_sorted key_cmp (earlier ++ r ∷ later) ≡ true
      → passing (λ q. is_before q r.0) (earlier ++ r ∷ later) ≡ earlier
  earlier_ones [] later r sorted =
      ap (λ b. cond b (r ∷ passing (λ q. is_before q r.0) later) (passing (λ q. is_before q r.0) later)) (not_before_itself r.0)
      ∙ none_earlier r.0 later (first_true (below_all key_cmp r.0 later) (is_sorted key_cmp later) sorted)
  earlier_ones (e ∷ es) later r sorted =
      let rest = es ++ r ∷ later in
      let before = after_it e.0 es later r (first_true (below_all key_cmp e.0 rest) (is_sorted key_cmp rest) sorted) in
      ap (λ b. cond b (e ∷ passing (λ q. is_before q r.0) rest) (passing (λ q. is_before q r.0) rest)) before
      ∙ ap (λ rows. e ∷ rows) (earlier_ones es later r (second_true (below_all key_cmp e.0 rest) (is_sorted key_cmp rest) sorted))

  -- ---- the rows of a range before a key of it

  -- those that are before the key, of the rows that pass a test that they all pass if a later one does
  both_tests : (test narrow : Key → Bool) (k : Key) → ((q : Key) → (test q && is_before q k) ≡ narrow q) → (rows : List (Key × X))
      → passing narrow rows ≡ passing (λ q. is_before q k) (passing test rows)
  both_tests test narrow k alike [] = refl
  both_tests test narrow k alike (r ∷ rs) =
      ap (λ b. cond b (r ∷ passing narrow rs) (passing narrow rs)) (sym (alike r.0)) ∙ ap (λ rows. cond (test r.0 && is_before r.0 k) (r ∷ rows) rows) (both_tests test narrow k alike rs)
      ∙ in_turn (test r.0) (is_before r.0 k) refl
    where
      earlier : List (Key × X)
      earlier = passing (λ q. is_before q k) (passing test rs)

      in_turn : (a b : Bool) → is_before r.0 k ≡ b → cond (a && b) (r ∷ earlier) earlier ≡ passing (λ q. is_before q k) (cond a (r ∷ passing test rs) (passing test rs))
      in_turn true b is = ap (λ c. cond c (r ∷ earlier) earlier) (sym is)
      in_turn false b is = refl

-- a key before one that is before an upper bound is before the bound too
upper_alike : (to : Option Key) (k q : Key) → is_before_upper to k ≡ true → (a b : Bool) → is_before q k ≡ b → (a && is_before_upper to q) && b ≡ a && b
upper_alike to k q ends false b is = refl
upper_alike None k q ends true b is = refl
upper_alike (Some t) k q ends true true is = ap (λ c. c && true) (before_chain q k t is ends)
upper_alike (Some t) k q ends true false is = none (is_before q t)
  where
    none : (c : Bool) → (c && false) ≡ false
    none true = refl
    none false = refl

upper_part : (a b : Bool) → (a && b) ≡ true → b ≡ true
upper_part true b is = is
upper_part false b is = absurd cc

module _ {X : Type 0} (from to : Option Key) (k : Key) (x : X) where
  -- if rows of a range end with a row and later ones, the range before its key has the ones before it
  before_one : (rows earlier later : List (Key × X)) → T (is_sorted key_cmp rows) → filter (λ r. is_between from to r.0) rows ≡ earlier ++ (k, x) ∷ later
      → filter (λ r. is_between from (Some k) r.0) rows ≡ earlier
  before_one rows earlier later sorted is =
      let there = one_passes (is_between from to) earlier later (k, x) (subst (EachPasses (is_between from to)) is (each_passes (is_between from to) rows)) in
      let ends = upper_part (not (is_before_lower from k)) (is_before_upper to k) there in
      let in_order = is_test (is_sorted key_cmp (filter (λ r. is_between from to r.0) rows)) (is_sorted-where_key key_cmp (is_between from to) rows sorted) in
      both_tests (is_between from to) (is_between from (Some k)) k (λ q. upper_alike to k q ends (not (is_before_lower from q)) (is_before q k) refl) rows
      ∙ ap (passing (λ q. is_before q k)) is
      ∙ earlier_ones earlier later (k, x) (ap (is_sorted key_cmp) (sym is) ∙ in_order)

  -- the rows before a page from the end
  earlier_follow : (rows : List (Key × X)) (n : ℕ) (front : List (Key × X)) → T (is_sorted key_cmp rows)
      → take n (reverse (filter (λ r. is_between from to r.0) rows)) ≡ front ++ (k, x) ∷ []
      → reverse (filter (λ r. is_between from (Some k) r.0) rows) ≡ drop n (reverse (filter (λ r. is_between from to r.0) rows))
  earlier_follow rows n front sorted ends =
      let inside = filter (λ r. is_between from to r.0) rows in
      let rest = drop n (reverse inside) in
      let all : reverse inside ≡ front ++ (k, x) ∷ rest =
      sym (take-append-drop n (reverse inside)) ∙ ap (λ page. page ++ rest) ends ∙ append_assoc front ((k, x) ∷ []) rest in
      let turned : inside ≡ reverse rest ++ (k, x) ∷ reverse front =
      sym (reverse-reverse inside) ∙ ap reverse all ∙ reverse-append front ((k, x) ∷ rest) ∙ ap (λ rows. rows ++ reverse front) (reverse-append ((k, x) ∷ []) rest)
      ∙ append_assoc (reverse rest) ((k, x) ∷ []) (reverse front) in
      ap reverse (before_one rows (reverse rest) (reverse front) sorted turned) ∙ reverse-reverse rest

pub goes_on_before : (range : KeyRange) (key : Key) → GoesOnBefore range key (range_before range key)
goes_on_before range key rows n sorted ends = earlier_follow range.from range.to key ends.1 rows n ends.0 sorted ends.2
