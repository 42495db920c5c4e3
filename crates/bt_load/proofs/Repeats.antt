-- Keys in order: if none repeats the one before it, they strictly rise. The smallest place of one that does is the first whose key an earlier place has.
use Rattle.std.proofs.Common.{◌≡◌, ◌≢◌, ℕ, zero, suc, ◌+◌, ◌-◌, ◌<◌, ◌≤◌, false, T, List, [], ◌∷◌, get_or, length, map, refl}
use Rattle.std.proofs.Common.{sym, zero-add, ap, ◌∙◌, subst, ◌⊎◌, inl, inr, min, ⊎_elim, true≢false, arith, Option, Some, None, Err}
use Rattle.std.proofs.lemmas.Bool.{cases_lt, lt-ltb}
use Rattle.std.proofs.lemmas.Bool.Decides.{eqb_tells}
use Rattle.std.proofs.Math.Nat.{min-eq_left, min-eq_right, min-le_left, min-le_right}
use Rattle.std.proofs.lemmas.List.{get_or-map, get_or_default, length-map}
use Rattle.std.proofs.lemmas.List.Elements.{All-get_or, Contains-get_or}
use Rattle.std.proofs.lemmas.List.Sorted.{All-permutation, Contains-permutation, IsPermutation-map, sorted_far}
use Rattle.std.specs.Cmp.{tied_itself}
use Rattle.std.specs.FinMap.{is_sorted}
use Rattle.std.specs.FinMap.Entries.{below_all}
use Rattle.std.specs.List.{All, AllAdjacentBelow}
use Rattle.std.specs.List.Sorted.{IsPermutation, IsSorted}
use Rattle.std.specs.Ordering.{is_eq, is_lt, nat_cmp, ordering_reverse, ordering_then}
use Rattle.std.specs.declared.cmp.Ordering.{Ordering}
use Rattle.std.specs.declared.cmp.Ordering.TheVariants.{Less, Equal, Greater}
use Rattle.bt_value.specs.declared.refusal.Refusal.TheVariants.{DuplicateKey}
use Rattle.bt_value.specs.declared.value.Value.{Value}
use Rattle.bt_keycode.specs.Keys.{Key, is_before, key_cmp}
use Rattle.bt_keycode.proofs.offered.Order.{neither_before, same_key, total_keys}
use Rattle.bt_keycode.proofs.offered.Truths.{not_true, t_both}
use Rattle.bt_keycode.specs.Standing.{RowMap, row_key}
use Rattle.bt_load.specs.Maps.{key_at, keyed_rows, map_of}
use Rattle.bt_load.specs.Steps.{AreAtTheirPlaces, Placed, no_key, placed_cmp}
use Rattle.bt_load.specs.inside.Sorts.{IsFirstRepeat, IsKeyBelow, Repeats, at, lower_of, pair_at, placed_from}
use Rattle.bt_load.proofs.Maps.{refused_is_first}
use Rattle.bt_load.proofs.Orders.{placed_before, placed_ranks}
use Rattle.bt_load.proofs.Places.{distinct_placed, occurs_twice}

-- ---- the item at a place

pub length-placed_from : (keys place : ℕ) (rows : List (List Value)) → length (placed_from keys place rows) ≡ length rows
length-placed_from keys place [] = refl
length-placed_from keys place (row ∷ rows) = ap suc (length-placed_from keys (place + 1) rows)

pub same_placed : (key : Key) (m n : ℕ) → m ≡ n → ◌≡◌ {A = Placed} (key, m) (key, n)
same_placed key m n e = let f : ℕ → Placed = λ k. (key, k) in ap f e

placed_at : (keys place : ℕ) (rows : List (List Value)) (n : ℕ) (d : Placed) → n < length rows → get_or (placed_from keys place rows) n d ≡ (row_key keys (get_or rows n []), place + n)
placed_at keys place [] n d within = absurd (omega (arith, within))
placed_at keys place (row ∷ rows) zero d within = let here : place ≡ place + 0 = omega arith in same_placed (row_key keys row) place (place + 0) here
placed_at keys place (row ∷ rows) (suc n) d within =
    let next : place + 1 + n ≡ place + suc n = omega arith in
    placed_at keys (place + 1) rows n d (omega (arith, within)) ∙ same_placed (row_key keys (get_or rows n [])) (place + 1 + n) (place + suc n) next

-- each of these keys is at its own place
pub at_their_places : (keys : ℕ) (rows : List (List Value)) → AreAtTheirPlaces (placed_from keys 0 rows)
at_their_places keys rows k l = ap (λ (p : Placed). p.1) (placed_at keys 0 rows k no_key (omega (arith, l, length-placed_from keys 0 rows))) ∙ zero-add k

key-at : (keys : ℕ) (rows : List (List Value)) (n : ℕ) → n < length rows → key_at (keyed_rows keys rows) n ≡ row_key keys (get_or rows n [])
key-at keys rows n within =
    let f : List Value → Key × List Value = λ row. (row_key keys row, row) in
    ap (λ (p : Key × List Value). p.0) (get_or-map f rows n [] ([], []) within)

-- the keys with the rows at their places are the rows with their keys
pairs_from : (keys place : ℕ) (all rest : List (List Value)) → ((n : ℕ) → n < length rest → get_or all (place + n) [] ≡ get_or rest n [])
    → map (pair_at all) (placed_from keys place rest) ≡ keyed_rows keys rest
pairs_from keys place all [] same = refl
pairs_from keys place all (row ∷ rest) same =
    let here : place + 0 ≡ place = omega arith in
    let first : get_or all place [] ≡ row = subst (λ n. get_or all n [] ≡ row) here (same 0 (omega arith)) in
    let others = pairs_from keys (place + 1) all rest (λ n within.
    let next : place + suc n ≡ place + 1 + n = omega arith in
    subst (λ k. get_or all k [] ≡ get_or rest n []) next (same (suc n) (omega (arith, within))))
    in
    λ i. (row_key keys row, first i) ∷ others i

pairs_moved : (keys : ℕ) (rows : List (List Value)) (placed : List Placed) → IsPermutation (placed_from keys 0 rows) placed → IsPermutation (keyed_rows keys rows) (map (pair_at rows) placed)
pairs_moved keys rows placed moved =
    let same = pairs_from keys 0 rows rows (λ n within. let here : 0 + n ≡ n = omega arith in ap (λ k. get_or rows k []) here) in
    subst (λ ps. IsPermutation ps (map (pair_at rows) placed)) same (IsPermutation-map (pair_at rows) (placed_from keys 0 rows) placed moved)

-- ---- keys that strictly rise

abbrev Rise : List Placed → Type 0
Rise placed = AllAdjacentBelow IsKeyBelow placed (length placed)

rest_rises : (p : Placed) (placed : List Placed) → Rise (p ∷ placed) → Rise placed
rest_rises p placed up k d within =
    let next : suc k + 1 ≡ suc (k + 1) = omega arith in
    subst (λ n. IsKeyBelow (get_or placed k d) (get_or (p ∷ placed) n d)) next (up (suc k) d (omega (arith, within)))

first_rises : (p q : Placed) (placed : List Placed) → Rise (p ∷ q ∷ placed) → IsKeyBelow p q
first_rises p q placed up = up 0 p (omega arith)

-- without the second one
skipped_rises : (p q : Placed) (placed : List Placed) → Rise (p ∷ q ∷ placed) → Rise (p ∷ placed)
skipped_rises p q [] up k d within = absurd (omega (arith, within))
skipped_rises p q (r ∷ placed) up zero d within =
    total_keys.trans p.0 q.0 r.0 (first_rises p q (r ∷ placed) up) (first_rises q r placed (rest_rises p (q ∷ r ∷ placed) up))
skipped_rises p q (r ∷ placed) up (suc k) d within =
    let next : suc k + 1 ≡ suc (k + 1) = omega arith in
    subst (λ n. IsKeyBelow (get_or (r ∷ placed) k d) (get_or (p ∷ r ∷ placed) n d)) (sym next)
    (rest_rises q (r ∷ placed) (rest_rises p (q ∷ r ∷ placed) up) k d (omega (arith, within)))

less : (o : Ordering) → o ≡ Less → T (is_lt o)
less o e = subst (λ b. T b) (sym (ap is_lt e)) tt

first_below : (f : Placed → List Value) (p : Placed) (placed : List Placed) → Rise (p ∷ placed) → T (below_all key_cmp p.0 (map (λ q. (q.0, f q)) placed))
first_below f p [] up = tt
first_below f p (q ∷ placed) up = t_both _ _ (less _ (first_rises p q placed up)) (first_below f p placed (skipped_rises p q placed up))

rising_sorted : (f : Placed → List Value) (placed : List Placed) → Rise placed → T (is_sorted key_cmp (map (λ q. (q.0, f q)) placed))
rising_sorted f [] up = tt
rising_sorted f (p ∷ placed) up = t_both _ _ (first_below f p placed up) (rising_sorted f placed (rest_rises p placed up))

-- ---- the pairs of the result

-- the rows with their keys, in the order of the keys
pub record AreSortedPairs (keys : ℕ) (rows : List (List Value)) (pairs : RowMap) : Type 0 where
  pub moved : IsPermutation (keyed_rows keys rows) pairs
  pub rising : T (is_sorted key_cmp pairs)

pub sorted_pairs : (keys : ℕ) (rows : List (List Value)) (placed : List Placed) (pairs : RowMap) → pairs ≡ map (pair_at rows) placed → IsPermutation (placed_from keys 0 rows) placed
    → AllAdjacentBelow IsKeyBelow placed (length placed) → AreSortedPairs keys rows pairs
sorted_pairs keys rows placed pairs is moved up = subst (AreSortedPairs keys rows) (sym is) (record {
  moved = pairs_moved keys rows placed moved;
  rising = rising_sorted (λ p. get_or rows p.1 []) placed up;
})

-- ---- two neighbours in order

not_less : (m n : ℕ) → is_lt (nat_cmp m n) ≡ false → n ≤ m
not_less m n h = ⊎_elim (λ lt. absurd (true≢false (rw (lt-ltb m n lt) at h))) (λ ge. ge) (cases_lt m n)

-- an item that does not come before another has no smaller key
not_before_key : (p q : Placed) → placed_before p q ≡ false → is_before p.0 q.0 ≡ false
not_before_key p q h = by_order (key_cmp p.0 q.0) h
  where
    by_order : (o : Ordering) → is_lt (ordering_then o (nat_cmp p.1 q.1)) ≡ false → is_lt o ≡ false
    by_order Less h = h
    by_order Equal h = refl
    by_order Greater h = refl

-- for equal keys, places decide
not_before_place : (p q : Placed) → p.0 ≡ q.0 → placed_before p q ≡ false → q.1 ≤ p.1
not_before_place p q same h =
    let tie : key_cmp p.0 q.0 ≡ Equal = ap (λ k. key_cmp k q.0) same ∙ tied_itself total_keys q.0 in
    not_less p.1 q.1 (sym (ap (λ o. is_lt (ordering_then o (nat_cmp p.1 q.1))) tie) ∙ h)

only_less : (o : Ordering) → is_eq o ≡ false → is_lt (ordering_reverse o) ≡ false → o ≡ Less
only_less Less e f = refl
only_less Equal e f = absurd (true≢false e)
only_less Greater e f = absurd (true≢false f)

-- if no key repeats the one before it, keys rise
pub rises : (placed : List Placed) → IsSorted placed_cmp placed → IsFirstRepeat placed (length placed) None → Rise placed
rises placed up none k d within =
    let p = at placed k in
    let q = at placed (k + 1) in
    let back : k + 1 - 1 ≡ k = omega arith in
    let apart : is_eq (key_cmp p.0 q.0) ≡ false = not_true _ (λ same. none (k + 1) within (record {
      some = omega arith;
      within = within;
      same = ap (λ n. is_eq (key_cmp (at placed n).0 q.0)) back ∙ same;
    })) in
    let order = not_before_key q p (up k _ (omega arith) within) in
    let rise : IsKeyBelow p q = only_less (key_cmp p.0 q.0) apart (ap is_lt (sym (total_keys.antisymm q.0 p.0)) ∙ order) in
    let here = any_default k (omega (arith, within)) in
    let next = any_default (k + 1) within in
    subst (λ (x : Placed). IsKeyBelow x (get_or placed (k + 1) d)) here (subst (λ (x : Placed). IsKeyBelow p x) next rise)
  where
    any_default : (n : ℕ) → n < length placed → at placed n ≡ get_or placed n d
    any_default n within = get_or_default placed n (([], 0)) d within

module _ (keys : ℕ) (rows : List (List Value)) (placed : List Placed) (moved : IsPermutation (placed_from keys 0 rows) placed) (up : IsSorted placed_cmp placed) where
  -- a key is that of the row at its place
  abbrev IsPlaced : Placed → Type 0
  IsPlaced p = (p.0 ≡ row_key keys (get_or rows p.1 [])) × (p.1 < length rows)

  all_placed : All IsPlaced (placed_from keys 0 rows)
  all_placed n d within =
      let inside : n < length rows = omega (arith, within, length-placed_from keys 0 rows) in
      let zero_on : 0 + n ≡ n = omega arith in
      let is = placed_at keys 0 rows n d inside ∙ same_placed (row_key keys (get_or rows n [])) (0 + n) n zero_on in
      subst IsPlaced (sym is) (refl, inside)

  source : (n : ℕ) → n < length placed → IsPlaced (at placed n)
  source n within = All-get_or IsPlaced placed n _ within (All-permutation IsPlaced (placed_from keys 0 rows) placed moved all_placed)

  -- the position of the key of a row in order
  record Stood (k : ℕ) : Type 0 where
    n : ℕ
    within : n < length placed
    place : (at placed n).1 ≡ k
    key : (at placed n).0 ≡ row_key keys (get_or rows k [])

  stood : (k : ℕ) → k < length rows → Stood k
  stood k within =
      let d : Placed = ([], 0) in
      let inside : k < length (placed_from keys 0 rows) = omega (arith, within, length-placed_from keys 0 rows) in
      let x = get_or (placed_from keys 0 rows) k d in
      let to = Contains-permutation (placed_from keys 0 rows) placed x moved (Contains-get_or (placed_from keys 0 rows) k d inside) in
      let is : at placed to.0 ≡ (row_key keys (get_or rows k []), 0 + k) =
      get_or_default placed to.0 d x to.1 ∙ to.2 ∙ placed_at keys 0 rows k d within
      in
      let zero_on : 0 + k ≡ k = omega arith in
      record {
        n = to.0;
        within = to.1;
        place = ap (λ (p : Placed). p.1) is ∙ zero_on;
        key = ap (λ (p : Placed). p.0) is;
      }

  -- a key that repeats the one before it is also that of an earlier row
  earlier_of : (n : ℕ) → Repeats placed n → (j : ℕ) × (j < (at placed n).1) × (row_key keys (get_or rows j []) ≡ row_key keys (get_or rows (at placed n).1 []))
  earlier_of n repeat =
      let low : n - 1 < length placed = omega (arith, repeat.within) in
      let back : n - 1 + 1 ≡ n = omega (arith, repeat.some) in
      let p = at placed (n - 1) in
      let q = at placed n in
      let one : p.0 ≡ q.0 = same_key p.0 q.0 repeat.same in
      let order : placed_before q p ≡ false = subst (λ k. placed_before (at placed k) p ≡ false) back (up (n - 1) _ (omega arith) (omega (arith, back, repeat.within))) in
      let le : p.1 ≤ q.1 = not_before_place q p (sym one) order in
      let few = (distinct_placed keys rows placed moved).once q.1 in
      let apart : p.1 ≢ q.1 = λ e. let two = occurs_twice placed (n - 1) n _ (omega (arith, back)) repeat.within e in omega (arith, two, few) in
      (p.1, strictly p.1 q.1 le apart, sym (source (n - 1) low).0 ∙ one ∙ (source n repeat.within).0)
    where
      strictly : (j k : ℕ) → j ≤ k → j ≢ k → j < k
      strictly j k le other = omega (arith, le, other)

  -- if a row has the key of an earlier one, a key repeats in order
  repeats_for : (k j : ℕ) → k < length rows → j < k → row_key keys (get_or rows j []) ≡ row_key keys (get_or rows k []) → (n : ℕ) × Repeats placed n × ((at placed n).1 ≡ k)
  repeats_for k j in_k below same =
      let late = stood k in_k in
      let early = stood j (omega (arith, in_k, below)) in
      let one : (at placed early.n).0 ≡ (at placed late.n).0 = early.key ∙ same ∙ sym late.key in
      let order : early.n < late.n = ⊎_elim (λ lt. lt) (λ ge. absurd (backwards late early one ge)) (cases_lt early.n late.n) in
      let m = late.n - 1 in
      let back : m + 1 ≡ late.n = omega (arith, order) in
      let far = not_before_key (at placed m) (at placed early.n) (sorted_far placed_before placed_ranks placed up early.n m _ (omega (arith, order)) (omega (arith, late.within))) in
      let near = not_before_key (at placed late.n) (at placed m) (sorted_far placed_before placed_ranks placed up m late.n _ (omega arith) late.within) in
      let same_as : (at placed m).0 ≡ (at placed late.n).0 = neither_before (at placed m).0 (at placed late.n).0 (subst (λ x. is_before (at placed m).0 x ≡ false) one far) near in (
        late.n,
        record {
          some = omega (arith, order);
          within = late.within;
          same =
              ap (λ x. is_eq (key_cmp x (at placed late.n).0)) same_as ∙ ap is_eq (tied_itself total_keys (at placed late.n).0);
        },
        late.place,
      )
    where
      backwards : (late : Stood k) (early : Stood j) → (at placed early.n).0 ≡ (at placed late.n).0 → late.n ≤ early.n → ⊥
      backwards late early one ge =
          let far = sorted_far placed_before placed_ranks placed up late.n early.n _ ge early.within in
          let le = not_before_place (at placed early.n) (at placed late.n) one far in
          omega (arith, le, early.place, late.place, below)

  -- the place of a repeat is one of the rows
  pub repeat_within : (place : ℕ) → IsFirstRepeat placed (length placed) (Some place) → place < length rows
  repeat_within place found = subst (λ k. k < length rows) found.0.2 (source found.0.0 found.0.1.within).1

  -- and it is the first row whose key an earlier one has
  pub repeat_refused : (place : ℕ) → IsFirstRepeat placed (length placed) (Some place) → map_of keys rows ≡ Err (DuplicateKey (place + 1))
  repeat_refused place found =
      let n = found.0.0 in
      let is = found.0.2 in
      let within = repeat_within place found in
      let before = earlier_of n found.0.1 in
      let below : before.0 < place = subst (λ k. before.0 < k) is before.1 in
      let long : length (keyed_rows keys rows) ≡ length rows = length-map rows (λ row. (row_key keys row, row)) in
      let same : key_at (keyed_rows keys rows) before.0 ≡ key_at (keyed_rows keys rows) place =
      key-at keys rows before.0 (omega (arith, below, within)) ∙ before.2 ∙ ap (λ k. row_key keys (get_or rows k [])) is ∙ sym (key-at keys rows place within) in
      refused_is_first keys rows before.0 place (omega (arith, within, long)) below same (λ k i low under e.
      let in_k : k < length rows = omega (arith, low, within) in
      let again = repeats_for k i in_k under (sym (key-at keys rows i (omega (arith, under, in_k))) ∙ e ∙ key-at keys rows k in_k) in
      let lowest = found.1 again.0 again.1.within again.1 in
      omega (arith, lowest, again.2, low))

-- ---- one more place in order is read

below_more : (n most : ℕ) → n < most + 1 → n ≢ most → n < most
below_more n most within other = omega (arith, within, other)

pub one_more_stays : (placed : List Placed) (most : ℕ) (found : Option ℕ) → (Repeats placed most → ⊥) → IsFirstRepeat placed most found → IsFirstRepeat placed (most + 1) found
one_more_stays placed most None not before =
    λ n within again. elim (eqb_tells n most) [ inl e ↦ not (subst (Repeats placed) e.1 again) | inr other ↦ before n (below_more n most within other.1) again ]
one_more_stays placed most (Some place) not before = (
  before.0,
  λ n within again. elim (eqb_tells n most) [ inl e ↦ absurd (not (subst (Repeats placed) e.1 again)) | inr other ↦ before.1 n (below_more n most within other.1) again ],
)

pub one_more_repeats : (placed : List Placed) (most : ℕ) (found : Option ℕ) (place : ℕ) → Repeats placed most → place ≡ (at placed most).1 → IsFirstRepeat placed most found
    → IsFirstRepeat placed (most + 1) (Some (lower_of found place))
one_more_repeats placed most None place repeat is before = (
  (most, repeat, sym is),
  λ n within again. elim (eqb_tells n most) [
    | inl e ↦ (let same = ap (λ k. (at placed k).1) e.1 in
        omega (arith, is, same))
    | inr other ↦ absurd (before n (below_more n most within other.1) again)
  ],
)
one_more_repeats placed most (Some found) place repeat is before = (
  by_order (cases_lt found place),
  λ n within again. elim (eqb_tells n most) [
    | inl e ↦ (let same = ap (λ k. (at placed k).1) e.1 in let low = min-le_right found place in omega (arith, is, same, low))
    | inr other ↦ (let lowest = before.1 n (below_more n most within other.1) again in let low = min-le_left found place in omega (arith, lowest, low))
  ],
)
  where
    by_order : (found < place) ⊎ (place ≤ found) → (n : ℕ) × Repeats placed n × ((at placed n).1 ≡ min found place)
    by_order (inl lt) = (before.0.0, before.0.1, before.0.2 ∙ sym (min-eq_left (omega (arith, lt))))
    by_order (inr ge) = (most, repeat, sym is ∙ sym (min-eq_right ge))
