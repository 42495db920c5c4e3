-- No more children are planned than there are, and only such as there are.
use Rattle.std.proofs.Common.{◌≡◌, ◌≤◌, ◌<◌, ◌++◌, ℕ, suc, true, false, cond, nat_le, List, [], ◌∷◌, length, length-append, refl, ap, arith, ◌+◌}
use Rattle.bt_form.specs.declared.shape.TheConstants.{LARGEST_FANOUT}
use Rattle.bt_form.specs.Plans.{placed, planned, ranked, ranked_in, shortest, total_of}

length-placed : (k : ℕ) (ns : List ℕ) → length (placed k ns) ≡ length ns
length-placed k [] = refl
length-placed k (n ∷ ns) = ap suc (length-placed (suc k) ns)

length-ranked_in : (x : ℕ × ℕ) (ys : List (ℕ × ℕ)) → length (ranked_in x ys) ≡ suc (length ys)
length-ranked_in x [] = refl
length-ranked_in x (y ∷ ys) = elim (nat_le y.1 x.1) as (λ b. length (cond b (x ∷ y ∷ ys) (y ∷ ranked_in x ys)) ≡ suc (suc (length ys))) [
  | true ↦ refl
  | false ↦ ap suc (length-ranked_in x ys)
]

length-ranked : (xs : List (ℕ × ℕ)) → length (ranked xs) ≡ length xs
length-ranked [] = refl
length-ranked (x ∷ xs) = omega (arith, length-ranked_in x (ranked xs), length-ranked xs)

length-shortest : (capacity : ℕ) (xs : List (ℕ × ℕ)) → length (shortest capacity xs) ≤ length xs
length-shortest capacity [] = omega arith
length-shortest capacity (x ∷ xs) = elim (nat_le (x.1 + total_of xs) capacity) as (λ b. length (cond b [] (x.0 ∷ shortest capacity xs)) ≤ suc (length xs)) [
  | true ↦ omega arith
  | false ↦ omega (arith, length-shortest capacity xs)
]

length-planned : (ns : List ℕ) (capacity : ℕ) → length (planned ns capacity) ≤ length ns
length-planned ns capacity =
    omega (arith, length-shortest capacity (ranked (placed 0 ns)), length-ranked (placed 0 ns), length-placed 0 ns)

-- if one more place is planned, there is room for it
pub room-left : (places left rest counts : List ℕ) (capacity place : ℕ) → places ++ planned left capacity ≡ planned counts capacity → planned left capacity ≡ place ∷ rest →
    length counts ≤ LARGEST_FANOUT → length places < LARGEST_FANOUT
room-left places left rest counts capacity place so_far next few =
    omega (arith, ap length so_far, length-append places (planned left capacity), ap length next, length-planned counts capacity, few)

-- places of n items
abbrev pub AllBelow : ℕ → List ℕ → Type 0
AllBelow n [] = Unit {0}
AllBelow n (i ∷ is) = (i < n) × AllBelow n is

abbrev AllPlacedBelow : ℕ → List (ℕ × ℕ) → Type 0
AllPlacedBelow n [] = Unit {0}
AllPlacedBelow n (x ∷ xs) = (x.0 < n) × AllPlacedBelow n xs

below-placed : (n k : ℕ) (ns : List ℕ) → k + length ns ≤ n → AllPlacedBelow n (placed k ns)
below-placed n k [] few = tt
below-placed n k (m ∷ ns) few = (omega (arith, few), below-placed n (suc k) ns (omega (arith, few)))

below-ranked_in : (n : ℕ) (x : ℕ × ℕ) (ys : List (ℕ × ℕ)) → x.0 < n → AllPlacedBelow n ys → AllPlacedBelow n (ranked_in x ys)
below-ranked_in n x [] here there = (here, tt)
below-ranked_in n x (y ∷ ys) here there = elim (nat_le y.1 x.1) as (λ b. AllPlacedBelow n (cond b (x ∷ y ∷ ys) (y ∷ ranked_in x ys))) [
  | true ↦ (here, there)
  | false ↦ (there.0, below-ranked_in n x ys here there.1)
]

below-ranked : (n : ℕ) (xs : List (ℕ × ℕ)) → AllPlacedBelow n xs → AllPlacedBelow n (ranked xs)
below-ranked n [] below = tt
below-ranked n (x ∷ xs) below = below-ranked_in n x (ranked xs) below.0 (below-ranked n xs below.1)

below-shortest : (n capacity : ℕ) (xs : List (ℕ × ℕ)) → AllPlacedBelow n xs → AllBelow n (shortest capacity xs)
below-shortest n capacity [] below = tt
below-shortest n capacity (x ∷ xs) below = elim (nat_le (x.1 + total_of xs) capacity) as (λ b. AllBelow n (cond b [] (x.0 ∷ shortest capacity xs))) [
  | true ↦ tt
  | false ↦ (below.0, below-shortest n capacity xs below.1)
]

pub below-planned : (ns : List ℕ) (capacity : ℕ) → AllBelow (length ns) (planned ns capacity)
below-planned ns capacity = below-shortest (length ns) capacity (ranked (placed 0 ns)) (below-ranked (length ns) (placed 0 ns) (below-placed (length ns) 0 ns (omega arith)))
