-- The leaves of rows are those of their parts, if each part has the rows of whole leaves.
use Rattle.std.proofs.Common.{◌≡◌, ◌∙◌, ◌-◌, ◌≤◌, ◌<◌, ℕ, zero, suc, true, List, [], ◌∷◌, ◌++◌, Option, None, ap, append_assoc, append-nil, arith, drop}
use Rattle.std.proofs.Common.{inl, inr, length, length-drop, length-take, map, refl, subst, sym, take}
use Rattle.std.proofs.Math.Seq.{take-length}
use Rattle.std.proofs.lemmas.List.{map-append}
use Rattle.bt_keycode.specs.Keys.{Key}
use Rattle.bt_message.specs.Effects.{Rows, effect_of, rows_after}
use Rattle.bt_message.specs.Messages.{Messages}
use Rattle.bt_message.specs.declared.message.Message.{Message}
use Rattle.bt_form.specs.Deals.{even, parted}
use Rattle.bt_form.specs.Flushes.{first_key, leaves, pivot_first}
use Rattle.bt_form.specs.Trees.{Shape, Siblings, leaf}
use Rattle.bt_form.proofs.offered.deals.Parts.{AllPositive, positive-even, total-even}
use Rattle.bt_form.proofs.offered.flushes.Groups.{as_leaf}
use Rattle.bt_form.proofs.offered.plans.RenewedChoice.{le_or_lt}
use Rattle.bt_plan.specs.Pieces.{Pieces, Place}
use Rattle.bt_gather.specs.inside.NewLeaves.{are_new_rows, first_items, led_pieces}
use Rattle.bt_gather.proofs.EvenParts.{IsTight, first-all, first-few, parted-append, sizes-split, tight-count, tight-split}
use Rattle.bt_gather.proofs.NewRows.{first-rows, new-take, rows-drop, rows-length, rows-new, rows-take, rows_put}

-- the key before the first item is replaced twice
led-anew : {X : Type 0} (j k : Key) (xs : List (Key × X)) → pivot_first j (pivot_first k xs) ≡ pivot_first j xs
led-anew j k [] = refl
led-anew j k (x ∷ xs) = refl

-- no part is empty
tight-few : (most n k : ℕ) → 0 < most → 1 ≤ k → IsTight most n k → k ≤ n
tight-few zero n k some one tight = absurd (omega arith)
tight-few (suc most) n (suc k) some one tight = omega (arith, tight.few)
tight-few (suc most) n zero some one tight = absurd (omega arith)

module _ {V : Type 0} (M : Type 0) where
  -- rows in this many leaves, as even as possible, each with its smallest key
  abbrev pub leaves_in : ℕ → Rows V → Siblings V M
  leaves_in zero rows = []
  leaves_in (suc k) rows = map (as_leaf M) (parted (even (length rows) (suc k)) rows)

  some-leaves : (k : ℕ) (rows : Rows V) → 1 ≤ k → leaves_in k rows ≡ map (as_leaf M) (parted (even (length rows) k) rows)
  some-leaves zero rows some = absurd (omega arith)
  some-leaves (suc k) rows some = refl

  -- the first leaves, and the others
  pub leaves-split : (k m : ℕ) (rows : Rows V) → 1 ≤ m → m ≤ k → (s : ℕ) → s ≡ first_items (length rows) k m → leaves_in k rows ≡ leaves_in m (take s rows) ++ leaves_in (k - m) (drop s rows)
  leaves-split k m rows some few s is = elim (le_or_lt k m) [
    | inl all ↦
        let same : m ≡ k = omega (arith, few, all) in
        let none : k - m ≡ 0 = omega (arith, all) in
        let whole : s ≡ length rows = is ∙ ap (first_items (length rows) k) same ∙ first-all (length rows) k (omega (arith, some, few)) in
        sym (append-nil (leaves_in k rows))
        ∙ ap (λ j. leaves_in j rows ++ []) (sym same)
        ∙ ap (λ rs. leaves_in m rs ++ []) (sym (take-length rows) ∙ ap (λ n. take n rows) (sym whole))
        ∙ ap (λ j. leaves_in m (take s rows) ++ leaves_in j (drop s rows)) (sym none)
    | inr more ↦
        let n = length rows in
        let fewer : s ≤ n = omega (arith, is, first-few n k m some more) in
        let first : length (take s rows) ≡ s = omega (arith, length-take s rows, fewer) in
        let rest : length (drop s rows) ≡ n - s = length-drop s rows in
        let ns = even s m in
        some-leaves k rows (omega (arith, some, few))
        ∙ ap (λ zs. map (as_leaf M) (parted zs rows)) (sizes-split n k m some more ∙ ap (λ z. even z m ++ even (n - z) (k - m)) (sym is))
        ∙ ap (map (as_leaf M)) (parted-append ns (even (n - s) (k - m)) rows ∙ ap (λ z. parted ns (take z rows) ++ parted (even (n - s) (k - m)) (drop z rows)) (total-even s m some))
        ∙ map-append (as_leaf M) (parted ns (take s rows)) (parted (even (n - s) (k - m)) (drop s rows))
        ∙ ap (λ z. map (as_leaf M) (parted (even z m) (take s rows)) ++ map (as_leaf M) (parted (even (n - s) (k - m)) (drop s rows))) (sym first)
        ∙ ap (λ z. map (as_leaf M) (parted (even (length (take s rows)) m) (take s rows)) ++ map (as_leaf M) (parted (even z (k - m)) (drop s rows))) (sym rest)
        ∙ ap (λ xs. xs ++ map (as_leaf M) (parted (even (length (drop s rows)) (k - m)) (drop s rows))) (sym (some-leaves m (take s rows) some))
        ∙ ap (λ xs. leaves_in m (take s rows) ++ xs) (sym (some-leaves (k - m) (drop s rows) (omega (arith, more))))
  ]

  -- ---- the leaves of one part

  first-taken : (n : ℕ) (rows : Rows V) → 0 < n → first_key (λ r. r.0) (take n rows) ≡ first_key (λ r. r.0) rows
  first-taken zero rows some = absurd (omega arith)
  first-taken (suc n) [] some = refl
  first-taken (suc n) (r ∷ rows) some = refl

  first-leaf : (ns : List ℕ) (rows : Rows V) → AllPositive ns → pivot_first (first_key (λ r. r.0) rows) (map (as_leaf M) (parted ns rows)) ≡ map (as_leaf M) (parted ns rows)
  first-leaf [] rows positive = refl
  first-leaf (n ∷ ns) rows positive = ap (λ k. (k, leaf (take n rows)) ∷ map (as_leaf M) (parted ns (drop n rows))) (sym (first-taken n rows positive.0))

  module _ (shape : Shape) (rows : Rows V) (k : ℕ) (some : 0 < shape.leaf) (one : 1 ≤ k) (tight : IsTight shape.leaf (length rows) k) where
    -- the leaves of rows are this many
    pub leaves-are : leaves shape rows ≡ pivot_first [] (leaves_in k rows)
    leaves-are = ap (λ j. pivot_first [] (map (as_leaf M) (parted (even (length rows) j) rows))) (tight-count shape.leaf (length rows) k one some tight)
        ∙ sym (ap (pivot_first []) (some-leaves k rows one))

    -- with the smallest key before the first
    pub leaves-led : (start : Key) → start ≡ first_key (λ r. r.0) rows → pivot_first start (leaves shape rows) ≡ leaves_in k rows
    leaves-led start is =
        ap (pivot_first start) leaves-are ∙ led-anew start [] (leaves_in k rows) ∙ ap (λ j. pivot_first j (leaves_in k rows)) is
        ∙ ap (pivot_first (first_key (λ r. r.0) rows)) (some-leaves k rows one)
        ∙ first-leaf (even (length rows) k) rows (positive-even (length rows) k one (tight-few shape.leaf (length rows) k some one tight)) ∙ sym (some-leaves k rows one)

-- one more part
pub led-more : {V M : Type 0} (ks : List Key) (ps : Pieces V M) (k : Key) (p : Place × Siblings V M) → length ks ≡ length ps →
    led_pieces (ks ++ k ∷ []) (ps ++ p ∷ []) ≡ led_pieces ks ps ++ pivot_first k p.1
led-more [] [] k p same = append-nil (pivot_first k p.1)
led-more [] (q ∷ ps) k p same = absurd (omega (arith, same))
led-more (j ∷ ks) [] k p same = absurd (omega (arith, same))
led-more (j ∷ ks) (q ∷ ps) k p same = ap (λ xs. pivot_first j q.1 ++ xs) (led-more ks ps k p (omega (arith, same))) ∙ sym (append_assoc (pivot_first j q.1) (led_pieces ks ps) (pivot_first k p.1))

-- the leaves that messages make of a leaf without rows
abbrev pub made_of : {V D : Type 0} → (Option V → D → V) → Shape → Messages (Message V D) → Siblings V (Message V D)
made_of merged shape ms = leaves shape (rows_after (effect_of merged) ms [])

module _ {V D : Type 0} (merged : Option V → D → V) (shape : Shape) (roomy : 0 < shape.leaf) where
  -- The leaves of the first messages come before those of the others.
  module _ (ms : Messages (Message V D)) (new : are_new_rows None ms ≡ true) (k : ℕ) (tight : IsTight shape.leaf (length ms) k) (m : ℕ) (some : 1 ≤ m) (few : m ≤ k)
      (s : ℕ) (size : s ≡ first_items (length ms) k m) where
    -- the messages of the part have the rows of whole leaves, and so have the others
    pub part-tight : IsTight shape.leaf (length (take s ms)) m × (m < k → IsTight shape.leaf (length (drop s ms)) (k - m))
    part-tight = elim (le_or_lt k m) [
      | inl all ↦
          let same : m ≡ k = omega (arith, few, all) in
          let whole : s ≡ length ms = size ∙ ap (first_items (length ms) k) same ∙ first-all (length ms) k (omega (arith, some, few)) in
          let whole-length : length (take s ms) ≡ length ms = omega (arith, length-take s ms, whole) in
          (subst (IsTight shape.leaf (length (take s ms))) (sym same) (subst (λ n. IsTight shape.leaf n k) (sym whole-length) tight), λ more. absurd (omega (arith, all, more)))
      | inr more ↦
          let both = tight-split shape.leaf (length ms) k m some more tight in
          let fewer : s ≤ length ms = omega (arith, size, first-few (length ms) k m some more) in
          let first : length (take s ms) ≡ first_items (length ms) k m = omega (arith, length-take s ms, fewer, size) in
          let rest : length (drop s ms) ≡ length ms - first_items (length ms) k m = omega (arith, length-drop s ms, size) in
          (subst (λ n. IsTight shape.leaf n m) (sym first) both.0, λ l. subst (λ n. IsTight shape.leaf n (k - m)) (sym rest) both.1)
    ]

    pub part-leaves : (start : Key) → start ≡ first_key (λ m. m.0) (take s ms) → pivot_first start (made_of merged shape (take s ms)) ≡ leaves_in (Message V D) m (take s (rows_put ms))
    part-leaves start is =
        let here : are_new_rows None (take s ms) ≡ true = new-take s None ms new in
        let rows = rows_put (take s ms) in
        let taken = rows-take s None ms new in
        ap (λ rs. pivot_first start (leaves shape rs)) (rows-new merged None (take s ms) here)
        ∙ leaves-led (Message V D) shape rows m roomy some (subst (λ n. IsTight shape.leaf n m) (sym (rows-length None (take s ms) here)) part-tight.0) start (is ∙ first-rows None (take s ms) here)
        ∙ ap (leaves_in (Message V D) m) taken

    pub next-part : (made now all : Siblings V (Message V D)) (start : Key) → start ≡ first_key (λ m. m.0) (take s ms) → now ≡ made ++ pivot_first start (made_of merged shape (take s ms)) →
        made ++ leaves_in (Message V D) k (rows_put ms) ≡ all → now ++ leaves_in (Message V D) (k - m) (rows_put (drop s ms)) ≡ all
    next-part made now all start is added so_far =
        let M = Message V D in
        let rows = rows_put ms in
        ap (λ xs. xs ++ leaves_in M (k - m) (rows_put (drop s ms))) (added ∙ ap (λ xs. made ++ xs) (part-leaves start is))
        ∙ append_assoc made (leaves_in M m (take s rows)) (leaves_in M (k - m) (rows_put (drop s ms)))
        ∙ ap (λ rs. made ++ (leaves_in M m (take s rows) ++ leaves_in M (k - m) rs)) (rows-drop s None ms new)
        ∙ sym (ap (λ xs. made ++ xs) (leaves-split M k m rows some few s (size ∙ ap (λ n. first_items n k m) (sym (rows-length None ms new)))))
        ∙ so_far

  -- all parts are made
  pub all-parts : (ms : Messages (Message V D)) → are_new_rows None ms ≡ true → (k : ℕ) → 1 ≤ k → IsTight shape.leaf (length ms) k → (made : Siblings V (Message V D)) (n : ℕ)
      (rest : Messages (Message V D)) → n ≡ 0 →
      made ++ leaves_in (Message V D) n (rows_put rest) ≡ leaves_in (Message V D) k (rows_put ms) → pivot_first [] made ≡ made_of merged shape ms
  all-parts ms new k one tight made n rest none so_far =
      let M = Message V D in
      ap (pivot_first []) (sym (append-nil made) ∙ sym (ap (λ j. made ++ leaves_in M j (rows_put rest)) none) ∙ so_far)
      ∙ sym (leaves-are M shape (rows_put ms) k roomy one (subst (λ n. IsTight shape.leaf n k) (sym (rows-length None ms new)) tight))
      ∙ ap (leaves shape) (sym (rows-new merged None ms new))
