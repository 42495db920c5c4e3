-- The map of rows: the pairs in the order of their keys if no key occurs twice, or else the first row whose key an earlier one has.
use Rattle.std.proofs.Common.{◌≡◌, ℕ, zero, suc, ◌+◌, ◌<◌, ◌≤◌, Bool, true, false, cond, T, List, [], ◌∷◌, get_or, length, refl, sym, ap, ◌∙◌, inl, inr, true≢false, arith, Option, Some, None, Ok, Err}
use Rattle.std.specs.Prelude.{drop, is_some, option_map, take}
use Rattle.std.proofs.lemmas.Bool.Decides.{eqb_tells}
use Rattle.std.proofs.lemmas.List.{get_or-drop, get_or-take, length-drop, length-take}
use Rattle.std.proofs.lemmas.List.Sorted.{Contains-permutation, IsPermutation-sym, sum_by-IsPermutation}
use Rattle.std.proofs.lemmas.List.Sums.{sum_by-cons, sum_by-take-drop}
use Rattle.std.specs.Cmp.{tied_itself}
use Rattle.std.specs.FinMap.{find, is_sorted, nat_cmp-IsAntisymmetric, slice_cmp-IsAntisymmetric}
use Rattle.std.specs.FinMap.Entries.{below_all, find-put, is_sorted-put, same_entries}
use Rattle.std.specs.List as list
use Rattle.std.specs.List.{Contains, range_with_len, sum_by}
use Rattle.std.specs.List.Sorted.{IsPermutation}
use Rattle.std.specs.Ordering.{eq_by_cmp, is_eq, is_lt}
use Rattle.bt_value.specs.Results.{unless}
use Rattle.bt_value.specs.declared.refusal.Refusal.TheVariants.{DuplicateKey}
use Rattle.bt_value.specs.declared.value.Value.{Value}
use Rattle.bt_keycode.specs.Keys.{Key, key_cmp}
use Rattle.bt_keycode.proofs.offered.Order.{is_less, same_key, total_keys}
use Rattle.bt_keycode.proofs.offered.Truths.{not_true, t_first, t_second, true_t}
use Rattle.bt_keycode.specs.Standing.{RowMap}
use Rattle.bt_load.specs.Maps.{first_repeat, is_repeated, key_at, keyed_rows, map_by_key, map_of}

-- whether two keys are equal
abbrev pub is_key : Key → Key → Bool
is_key = eq_by_cmp key_cmp

pub is_itself : (k : Key) → is_key k k ≡ true
is_itself k = ap is_eq (tied_itself total_keys k)

-- ---- how many times a key occurs

abbrev pub count : Key → RowMap → ℕ
count k = sum_by (λ p. cond (is_key k p.0) 1 0)

count-cons : (k : Key) (p : Key × List Value) (ps : RowMap) → count k (p ∷ ps) ≡ cond (is_key k p.0) 1 0 + count k ps
count-cons k p ps = sum_by-cons (λ (q : Key × List Value). cond (is_key k q.0) 1 0) p ps

count-here : (k : Key) (p : Key × List Value) (ps : RowMap) → is_key k p.0 ≡ true → count k (p ∷ ps) ≡ 1 + count k ps
count-here k p ps e = count-cons k p ps ∙ ap (λ b. cond b 1 0 + count k ps) e

none_left : (b : Bool) (n : ℕ) → cond b 1 0 + n ≡ 0 → (b ≡ false) × (n ≡ 0)
none_left true n e = absurd (omega (arith, e))
none_left false n e = (refl, omega (arith, e))

-- a key that doesn't occur isn't found
pub find-absent : (k : Key) (ps : RowMap) → count k ps ≡ 0 → find key_cmp k ps ≡ None
find-absent k [] e = refl
find-absent k (p ∷ ps) e =
    let none = none_left (is_key k p.0) (count k ps) (sym (count-cons k p ps) ∙ e) in
    ap (λ b. cond b (Some p.1) (find key_cmp k ps)) none.0 ∙ find-absent k ps none.1

-- ---- the map

pub map_by_key-sorted : (ps : RowMap) → T (is_sorted key_cmp (map_by_key ps))
map_by_key-sorted [] = tt
map_by_key-sorted (p ∷ ps) = is_sorted-put key_cmp total_keys p.0 p.1 (map_by_key ps) (map_by_key-sorted ps)

-- the map has the same value at each key as the pairs
find-map_by_key : (q : Key) (ps : RowMap) → find key_cmp q (map_by_key ps) ≡ find key_cmp q ps
find-map_by_key q [] = refl
find-map_by_key q (p ∷ ps) = find-put key_cmp total_keys q p.0 p.1 (map_by_key ps) ∙ ap (cond (is_key q p.0) (Some p.1)) (find-map_by_key q ps)

-- ---- pairs in the order of their keys

find_contained : (q : Key) (ps : RowMap) (row : List Value) → find key_cmp q ps ≡ Some row → Contains ps (q, row)
find_contained q [] row e = cc
find_contained q (p ∷ ps) row e = by_cases (is_key q p.0) refl e (find_contained q ps row)
  where
    by_cases : (b : Bool) → is_key q p.0 ≡ b → cond b (Some p.1) (find key_cmp q ps) ≡ Some row → (find key_cmp q ps ≡ Some row → Contains ps (q, row)) → Contains (p ∷ ps) (q, row)
    by_cases true same e rest =
        let one : p.1 ≡ row = cc in
        let key : p.0 ≡ q = sym (same_key q p.0 same) in
        (0, omega arith, λ i. (key i, one i))
    by_cases false same e rest = let at = rest e in (suc at.0, omega (arith, at.1), at.2)

contained_count : (q : Key) (ps : RowMap) (n : ℕ) (d : Key × List Value) → n < length ps → (get_or ps n d).0 ≡ q → 1 ≤ count q ps
contained_count q [] n d within is = absurd (omega (arith, within))
contained_count q (p ∷ ps) zero d within is =
    let one = count-here q p ps (ap (is_key q) is ∙ is_itself q) in
    omega (arith, one)
contained_count q (p ∷ ps) (suc n) d within is =
    let all = count-cons q p ps in
    let some = contained_count q ps n d (omega (arith, within)) is in
    omega (arith, all, some)

found_at : (q : Key) (ps : RowMap) (row : List Value) (n : ℕ) → count q ps ≤ 1 → n < length ps → get_or ps n (q, row) ≡ (q, row) → find key_cmp q ps ≡ Some row
found_at q [] row n few within is = absurd (omega (arith, within))
found_at q (p ∷ ps) row zero few within is =
    let same : is_key q p.0 ≡ true = ap (λ (x : Key × List Value). is_key q x.0) is ∙ is_itself q in
    ap (λ b. cond b (Some p.1) (find key_cmp q ps)) same ∙ ap (λ (x : Key × List Value). Some x.1) is
found_at q (p ∷ ps) row (suc n) few within is =
    let all = count-cons q p ps in
    let inside : n < length ps = omega (arith, within) in
    by_test (is_key q p.0) refl (contained_count q ps n (q, row) inside (ap (λ (x : Key × List Value). x.0) is)) (found_at q ps row n (omega (arith, all, few)) inside is)
  where
    by_test : (b : Bool) → is_key q p.0 ≡ b → 1 ≤ count q ps → find key_cmp q ps ≡ Some row → cond b (Some p.1) (find key_cmp q ps) ≡ Some row
    by_test true same some rest = let one = count-here q p ps same in absurd (omega (arith, one, few, some))
    by_test false same some rest = rest

pub contained_find : (q : Key) (ps : RowMap) (row : List Value) → count q ps ≤ 1 → Contains ps (q, row) → find key_cmp q ps ≡ Some row
contained_find q ps row few at = found_at q ps row at.0 few at.1 at.2

-- the result of a search doesn't depend on the order
find_moved : (q : Key) (ps qs : RowMap) → IsPermutation ps qs → count q ps ≤ 1 → find key_cmp q ps ≡ find key_cmp q qs
find_moved q ps qs moved few = by_both (find key_cmp q ps) (find key_cmp q qs) refl refl
  where
    same : count q qs ≡ count q ps
    same = sum_by-IsPermutation (λ (p : Key × List Value). cond (is_key q p.0) 1 0) ps qs moved

    there : (row : List Value) → find key_cmp q ps ≡ Some row → find key_cmp q qs ≡ Some row
    there row e = contained_find q qs row (omega (arith, same, few)) (Contains-permutation ps qs (q, row) moved (find_contained q ps row e))

    back : (row : List Value) → find key_cmp q qs ≡ Some row → find key_cmp q ps ≡ Some row
    back row e = contained_find q ps row few (Contains-permutation qs ps (q, row) (IsPermutation-sym ps qs moved) (find_contained q qs row e))

    by_both : (a b : Option (List Value)) → find key_cmp q ps ≡ a → find key_cmp q qs ≡ b → find key_cmp q ps ≡ find key_cmp q qs
    by_both None None e f = e ∙ sym f
    by_both (Some row) b e f = e ∙ sym (there row e)
    by_both None (Some row) e f = back row f ∙ sym f

-- a key smaller than others doesn't occur
count-below : (k : Key) (ps : RowMap) → T (below_all key_cmp k ps) → count k ps ≡ 0
count-below k [] below = refl
count-below k (p ∷ ps) below =
    let other : is_key k p.0 ≡ false = ap is_eq (is_less (key_cmp k p.0) (true_t (is_lt (key_cmp k p.0)) (t_first (is_lt (key_cmp k p.0)) (below_all key_cmp k ps) below))) in
    count-cons k p ps ∙ ap (λ b. cond b 1 0 + count k ps) other ∙ (let none = count-below k ps (t_second (is_lt (key_cmp k p.0)) (below_all key_cmp k ps) below) in omega (arith, none))

count-sorted : (q : Key) (ps : RowMap) → T (is_sorted key_cmp ps) → count q ps ≤ 1
count-sorted q [] sorted = omega arith
count-sorted q (p ∷ ps) sorted = by_test (is_key q p.0) refl (count-sorted q ps rest)
  where
    first : T (below_all key_cmp p.0 ps)
    first = t_first (below_all key_cmp p.0 ps) (is_sorted key_cmp ps) sorted

    rest : T (is_sorted key_cmp ps)
    rest = t_second (below_all key_cmp p.0 ps) (is_sorted key_cmp ps) sorted

    by_test : (b : Bool) → is_key q p.0 ≡ b → count q ps ≤ 1 → count q (p ∷ ps) ≤ 1
    by_test true same few =
        let one = count-here q p ps same in
        let none : count q ps ≡ 0 = ap (λ k. count k ps) (same_key q p.0 same) ∙ count-below p.0 ps first in
        omega (arith, one, none)
    by_test false same few =
        let all = count-cons q p ps ∙ ap (λ b. cond b 1 0 + count q ps) same in
        omega (arith, all, few)

-- ---- the first of some numbers that passes a test

none_passes : (test : ℕ → Bool) (start n : ℕ) → ((k : ℕ) → start ≤ k → k < start + n → test k ≡ false) → list.find test (range_with_len start n) ≡ None
none_passes test start zero fails = refl
none_passes test start (suc n) fails =
    ap (λ b. cond b (Some start) (list.find test (range_with_len (start + 1) n))) (fails start (omega arith) (omega arith))
    ∙ none_passes test (start + 1) n (λ k from below. fails k (omega (arith, from)) (omega (arith, below)))

first_passes : (test : ℕ → Bool) (start n place : ℕ) → start ≤ place → place < start + n → test place ≡ true → ((k : ℕ) → k < place → test k ≡ false)
    → list.find test (range_with_len start n) ≡ Some place
first_passes test start zero place from below passes fails = absurd (omega (arith, from, below))
first_passes test start (suc n) place from below passes fails = elim (eqb_tells start place) [
  | inl here ↦ ap (λ b. cond b (Some start) (list.find test (range_with_len (start + 1) n))) (ap test here.1 ∙ passes) ∙ ap Some here.1
  | inr other ↦
      (let later : start < place = (let apart = other.1 in omega (arith, from, apart)) in
      ap (λ b. cond b (Some start) (list.find test (range_with_len (start + 1) n))) (fails start later)
      ∙ first_passes test (start + 1) n place (omega (arith, later)) (omega (arith, below)) passes fails)
]

-- ---- no key occurs twice

none_repeated : (ps : RowMap) → ((q : Key) → count q ps ≤ 1) → first_repeat ps ≡ None
none_repeated ps few = none_passes (is_repeated ps) 0 (length ps) (λ k from below. ap is_some (find-absent (key_at ps k) (take k ps) (absent k (omega (arith, below)))))
  where
    absent : (k : ℕ) → k < length ps → count (key_at ps k) (take k ps) ≡ 0
    absent k within =
        let q = key_at ps k in
        let all = few q in
        let parts = sum_by-take-drop (λ (p : Key × List Value). cond (is_key q p.0) 1 0) ps k in
        let place : k + 0 ≡ k = omega arith in
        let here = contained_count q (drop k ps) 0 ([], []) (omega (arith, within, length-drop k ps)) (ap (λ (p : Key × List Value). p.0) (get_or-drop k ps 0 ([], [])) ∙ ap (key_at ps) place) in
        omega (arith, all, parts, here)

-- the rows with their keys, in the order of strictly rising keys, are their map
pub sorted_is_map : (keys : ℕ) (rows : List (List Value)) (pairs : RowMap) → IsPermutation (keyed_rows keys rows) pairs → T (is_sorted key_cmp pairs) → map_of keys rows ≡ Ok pairs
sorted_is_map keys rows pairs moved sorted =
    ap (λ (place : Option ℕ). unless (option_map (λ n. DuplicateKey (n + 1)) place) (map_by_key (keyed_rows keys rows))) (none_repeated (keyed_rows keys rows) few)
    ∙ ap Ok (same_entries key_cmp total_keys (slice_cmp-IsAntisymmetric nat_cmp-IsAntisymmetric) (map_by_key (keyed_rows keys rows)) pairs (map_by_key-sorted (keyed_rows keys rows)) sorted
    (λ q. find-map_by_key q (keyed_rows keys rows) ∙ find_moved q (keyed_rows keys rows) pairs moved (few q)))
  where
    few : (q : Key) → count q (keyed_rows keys rows) ≤ 1
    few q =
        let same = sum_by-IsPermutation (λ (p : Key × List Value). cond (is_key q p.0) 1 0) (keyed_rows keys rows) pairs moved in
        let once = count-sorted q pairs sorted in
        omega (arith, same, once)

-- ---- a key occurs twice

found_for : (q : Key) (ps : RowMap) (j : ℕ) (d : Key × List Value) → j < length ps → (get_or ps j d).0 ≡ q → is_some (find key_cmp q ps) ≡ true
found_for q [] j d within is = absurd (omega (arith, within))
found_for q (p ∷ ps) zero d within is = ap (λ b. is_some (cond b (Some p.1) (find key_cmp q ps))) (ap (is_key q) is ∙ is_itself q)
found_for q (p ∷ ps) (suc j) d within is = by_test (is_key q p.0) (found_for q ps j d (omega (arith, within)) is)
  where
    by_test : (b : Bool) → is_some (find key_cmp q ps) ≡ true → is_some (cond b (Some p.1) (find key_cmp q ps)) ≡ true
    by_test true found = refl
    by_test false found = found

-- the place at which a key is found
place_of : (q : Key) (ps : RowMap) → is_some (find key_cmp q ps) ≡ true → (j : ℕ) × (j < length ps) × (key_at ps j ≡ q)
place_of q [] found = absurd (true≢false (sym found))
place_of q (p ∷ ps) found = by_test (is_key q p.0) refl (place_of q ps) found
  where
    by_test : (b : Bool) → is_key q p.0 ≡ b → (is_some (find key_cmp q ps) ≡ true → (j : ℕ) × (j < length ps) × (key_at ps j ≡ q))
        → is_some (cond b (Some p.1) (find key_cmp q ps)) ≡ true → (j : ℕ) × (j < length (p ∷ ps)) × (key_at (p ∷ ps) j ≡ q)
    by_test true same later found = (0, omega arith, sym (same_key q p.0 same))
    by_test false same later found = let rest = later found in (suc rest.0, omega (arith, rest.1), rest.2)

not_repeated : (ps : RowMap) (k : ℕ) → k < length ps → ((j : ℕ) → j < k → key_at ps j ≡ key_at ps k → ⊥) → is_repeated ps k ≡ false
not_repeated ps k within other = not_true (is_repeated ps k) (λ found.
    let at = place_of (key_at ps k) (take k ps) found in
    let below : at.0 < k = omega (arith, at.1, length-take k ps) in
    other at.0 below (ap (λ (p : Key × List Value). p.0) (sym (get_or-take k ps at.0 ([], []) below)) ∙ at.2))

repeated : (ps : RowMap) (j k : ℕ) → k < length ps → j < k → key_at ps j ≡ key_at ps k → is_repeated ps k ≡ true
repeated ps j k within below same =
    found_for (key_at ps k) (take k ps) j ([], []) (omega (arith, within, below, length-take k ps)) (ap (λ (p : Key × List Value). p.0) (get_or-take k ps j ([], []) below) ∙ same)

-- the first row whose key an earlier one has is refused
pub refused_is_first : (keys : ℕ) (rows : List (List Value)) (j n : ℕ) → n < length (keyed_rows keys rows) → j < n → key_at (keyed_rows keys rows) j ≡ key_at (keyed_rows keys rows) n
    → ((k i : ℕ) → k < n → i < k → key_at (keyed_rows keys rows) i ≡ key_at (keyed_rows keys rows) k → ⊥) → map_of keys rows ≡ Err (DuplicateKey (n + 1))
refused_is_first keys rows j n within below same first =
    let pairs = keyed_rows keys rows in
    ap (λ (place : Option ℕ). unless (option_map (λ n. DuplicateKey (n + 1)) place) (map_by_key pairs)) (first_passes (is_repeated pairs) 0 (length pairs) n (omega arith) (omega (arith, within))
    (repeated pairs j n within below same) (λ k low. not_repeated pairs k (omega (arith, low, within)) (λ i under e. first k i low under e)))
