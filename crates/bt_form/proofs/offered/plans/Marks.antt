-- The marks written one by one at the planned places show for each child whether its place is among them.
use Rattle.std.proofs.Common.{◌≡◌, ◌+◌, ◌<◌, ℕ, zero, suc, Bool, true, false, cond, eqb, List, [], ◌∷◌, length, map, set, replicate, refl, sym, ap, ◌∙◌, arith, eq-eqb, ne_eqb}
use Rattle.std.proofs.lemmas.List.{length-map}
use Rattle.std.specs.List.{zip}
use Rattle.bt_form.specs.Plans.{placed, planned}
use Rattle.bt_form.specs.Marks.{flush_marks, is_among}
use Rattle.bt_form.specs.declared.mode.Mode.{Mode}
use Rattle.bt_form.specs.declared.mode.Mode.TheVariants.{Absorb, Drain}
use Rattle.bt_form.specs.inside.Marks.{marks_of, set_all}
use Rattle.bt_form.specs.Passes.{marked, marked_all, unmarked}
use Rattle.bt_form.proofs.offered.plans.OnePass.{names}

-- ---- marks beside items, and items with marks

zip-set : {X : Type 0} (xs : List X) (i : ℕ) (marks : List Bool) → zip xs (set marks i true) ≡ marked i (zip xs marks)
zip-set [] i marks = refl
zip-set (x ∷ xs) i [] = refl
zip-set (x ∷ xs) zero (m ∷ ms) = refl
zip-set (x ∷ xs) (suc i) (m ∷ ms) = ap (λ z. (x, m) ∷ z) (zip-set xs i ms)

zip-set_all : {X : Type 0} (xs : List X) (places : List ℕ) (marks : List Bool) → zip xs (set_all places marks) ≡ marked_all places (zip xs marks)
zip-set_all xs [] marks = refl
zip-set_all xs (i ∷ is) marks = zip-set_all xs is (set marks i true) ∙ ap (marked_all is) (zip-set xs i marks)

zip-replicate : {X : Type 0} (xs : List X) → zip xs (replicate (length xs) false) ≡ unmarked xs
zip-replicate [] = refl
zip-replicate (x ∷ xs) = ap (λ z. (x, false) ∷ z) (zip-replicate xs)

-- Items with marks at some places are the items beside the list of these marks.
pub marked-zip : {X : Type 0} (xs : List X) (places : List ℕ) → marked_all places (unmarked xs) ≡ zip xs (marks_of (length xs) places)
marked-zip xs places = sym (zip-set_all xs places (replicate (length xs) false) ∙ ap (marked_all places) (zip-replicate xs))

pub names-zip : {X : Type 0} (xs : List X) (marks : List Bool) → length marks ≡ length xs → names (zip xs marks) ≡ xs
names-zip [] marks same = refl
names-zip (x ∷ xs) [] same = absurd (omega (arith, same))
names-zip (x ∷ xs) (m ∷ ms) same = ap (λ z. x ∷ z) (names-zip xs ms (omega (arith, same)))

-- ---- marks by predicates

-- a mark for each place, counted from k
abbrev marks_by : (ℕ → Bool) → ℕ → List ℕ → List Bool
marks_by test k ns = map (λ p. test p.0) (placed k ns)

same-marks : (test other : ℕ → Bool) → ((i : ℕ) → test i ≡ other i) → (k : ℕ) (ns : List ℕ) → marks_by test k ns ≡ marks_by other k ns
same-marks test other same k [] = refl
same-marks test other same k (n ∷ ns) = ap (λ b. b ∷ marks_by test (suc k) ns) (same k) ∙ ap (λ z. other k ∷ z) (same-marks test other same (suc k) ns)

no-marks : (k : ℕ) (ns : List ℕ) → replicate (length ns) false ≡ marks_by (λ i. false) k ns
no-marks k [] = refl
no-marks k (n ∷ ns) = ap (λ z. false ∷ z) (no-marks (suc k) ns)

module _ (test : ℕ → Bool) (j : ℕ) where
  -- also marked at the place j
  abbrev or_there : ℕ → Bool
  or_there i = cond (eqb i j) true (test i)

  -- before the first of these places
  there-before : (k : ℕ) (ns : List ℕ) → j < k → marks_by test k ns ≡ marks_by or_there k ns
  there-before k [] l = refl
  there-before k (n ∷ ns) l =
      ap (λ b. cond b true (test k) ∷ marks_by test (suc k) ns) (sym (ne_eqb k j (omega (arith, l))))
      ∙ ap (λ z. or_there k ∷ z) (there-before (suc k) ns (omega (arith, l)))

  set-there : (k i : ℕ) (ns : List ℕ) → j ≡ k + i → set (marks_by test k ns) i true ≡ marks_by or_there k ns
  set-there k i [] e = refl
  set-there k zero (n ∷ ns) e =
      ap (λ b. cond b true (test k) ∷ marks_by test (suc k) ns) (sym (eq-eqb k j (omega (arith, e))))
      ∙ ap (λ z. or_there k ∷ z) (there-before (suc k) ns (omega (arith, e)))
  set-there k (suc i) (n ∷ ns) e =
      ap (λ b. cond b true (test k) ∷ set (marks_by test (suc k) ns) i true) (sym (ne_eqb k j (omega (arith, e))))
      ∙ ap (λ z. or_there k ∷ z) (set-there (suc k) i ns (omega (arith, e)))

set_all-there : (places : List ℕ) (test : ℕ → Bool) (ns : List ℕ) → set_all places (marks_by test 0 ns) ≡ marks_by (λ i. cond (is_among i places) true (test i)) 0 ns
set_all-there [] test ns = refl
set_all-there (j ∷ js) test ns =
    ap (set_all js) (set-there test j 0 j ns (omega arith))
    ∙ set_all-there js (or_there test j) ns
    ∙ same-marks _ _ (λ i. either (is_among i js) (eqb i j) (test i)) 0 ns
  where
    either : (a b c : Bool) → cond a true (cond b true c) ≡ cond (cond b true a) true c
    either true true c = refl
    either true false c = refl
    either false true c = refl
    either false false c = refl

-- the marks of places show whether each place is among them
pub marks-words : (places ns : List ℕ) → marks_of (length ns) places ≡ map (λ p. is_among p.0 places) (placed 0 ns)
marks-words places ns =
    ap (set_all places) (no-marks 0 ns) ∙ set_all-there places (λ i. false) ns ∙ same-marks _ (λ i. is_among i places) (λ i. only (is_among i places)) 0 ns
  where
    only : (b : Bool) → cond b true false ≡ b
    only true = refl
    only false = refl

-- items with marks at some places, as a list by a predicate
pub marked-words : {X : Type 0} (weight : X → ℕ) (places : List ℕ) (xs : List X) →
    marked_all places (unmarked xs) ≡ zip xs (map (λ p. is_among p.0 places) (placed 0 (map weight xs)))
marked-words weight places xs =
    marked-zip xs places ∙ ap (λ n. zip xs (marks_of n places)) (sym (length-map xs weight)) ∙ ap (zip xs) (marks-words places (map weight xs))

-- ---- a mark for each child

length-placed : (k : ℕ) (ns : List ℕ) → length (placed k ns) ≡ length ns
length-placed k [] = refl
length-placed k (n ∷ ns) = ap suc (length-placed (suc k) ns)

pub length-flush_marks : (mode : Mode) (capacity : ℕ) (counts : List ℕ) → length (flush_marks mode capacity counts) ≡ length counts
length-flush_marks Absorb capacity counts = length-map (placed 0 counts) (λ p. is_among p.0 (planned counts capacity)) ∙ length-placed 0 counts
length-flush_marks Drain capacity counts = length-map counts (λ n. true)

-- the same mark for all
pub all-marked : (counts : List ℕ) → replicate (length counts) true ≡ map (λ n. true) counts
all-marked [] = refl
all-marked (n ∷ ns) = ap (λ z. true ∷ z) (all-marked ns)
