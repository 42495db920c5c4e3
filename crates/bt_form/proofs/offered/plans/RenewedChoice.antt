-- Taking the fullest repeatedly takes the prefix of a sorted list.
use Rattle.std.proofs.Common.{◌≡◌, ℕ, zero, suc, ◌+◌, ◌<◌, ◌≤◌, true, false, cond, leb, List, [], ◌∷◌, ◌++◌, set, refl, sym, ap, ◌∙◌, arith, ◌⊎◌, inl, inr, eq-eqb, ne_eqb, subst₂}
use Rattle.std.proofs.lemmas.Bool.{le-leb, lt-leb, leb-true, leb-false, cond-true, cond-false}
use Rattle.bt_form.specs.Plans.{total, most, place_of, fullest, placed, total_of, ranked_in, ranked, shortest, planned, renewed}

-- the numbers above 0, with their places
abbrev pub live : ℕ → List ℕ → List (ℕ × ℕ)
live k [] = []
live k (zero ∷ ns) = live (suc k) ns
live k (suc n ∷ ns) = (k, suc n) ∷ live (suc k) ns

total-live : (k : ℕ) (ns : List ℕ) → total_of (live k ns) ≡ total ns
total-live k [] = refl
total-live k (zero ∷ ns) = omega (arith, total-live (suc k) ns)
total-live k (suc n ∷ ns) = omega (arith, total-live (suc k) ns)

total-ranked_in : (x : ℕ × ℕ) (xs : List (ℕ × ℕ)) → total_of (ranked_in x xs) ≡ x.1 + total_of xs
total-ranked_in x [] = refl
total-ranked_in x (y ∷ ys) = elim (leb y.1 x.1) as (λ b. total_of (cond b (x ∷ y ∷ ys) (y ∷ ranked_in x ys)) ≡ x.1 + (y.1 + total_of ys)) [
  | true ↦ refl
  | false ↦ omega (arith, total-ranked_in x ys)
]

total-ranked : (xs : List (ℕ × ℕ)) → total_of (ranked xs) ≡ total_of xs
total-ranked [] = refl
total-ranked (x ∷ xs) = omega (arith, total-ranked_in x (ranked xs), total-ranked xs)

-- nothing is left of a list without a number above 0
no_live : (k : ℕ) (ns : List ℕ) → most ns ≡ 0 → live k ns ≡ []
no_live k [] e = refl
no_live k (zero ∷ ns) e = no_live (suc k) ns (omega (arith, e))
no_live k (suc n ∷ ns) e = absurd (omega (arith, e))

below_head : (x y : ℕ × ℕ) (r xs : List (ℕ × ℕ)) → r ≡ y ∷ xs → y.1 ≤ x.1 → ranked_in x r ≡ x ∷ r
below_head x y r xs e l = ap (ranked_in x) e ∙ cond-true _ _ _ (le-leb y.1 x.1 l) ∙ ap (λ z. x ∷ z) (sym e)

past_head : (x y : ℕ × ℕ) (r xs : List (ℕ × ℕ)) → r ≡ y ∷ xs → x.1 < y.1 → ranked_in x r ≡ y ∷ ranked_in x xs
past_head x y r xs e l = ap (ranked_in x) e ∙ cond-false _ _ _ (lt-leb y.1 x.1 l)

pub most-here : (n : ℕ) (ns : List ℕ) → most ns ≤ n → most (n ∷ ns) ≡ n
most-here n ns l = omega arith

pub most-later : (n : ℕ) (ns : List ℕ) → n < most ns → most (n ∷ ns) ≡ most ns
most-later n ns l = omega arith

pub fullest-here : (n : ℕ) (ns : List ℕ) → most ns ≤ n → fullest (n ∷ ns) ≡ 0
fullest-here n ns l = cond-true _ _ _ (eq-eqb n _ (sym (most-here n ns l)))

pub fullest-later : (n : ℕ) (ns : List ℕ) → n < most ns → fullest (n ∷ ns) ≡ suc (fullest ns)
fullest-later n ns l = cond-false _ _ _ (ne_eqb n _ (omega arith)) ∙ ap (λ m. suc (place_of m ns)) (most-later n ns l)

pub le_or_lt : (a b : ℕ) → (a ≤ b) ⊎ (b < a)
le_or_lt a b = elim (leb a b) as (λ t. leb a b ≡ t → (a ≤ b) ⊎ (b < a)) [ true ↦ λ e. inl (leb-true a b e) | false ↦ λ e. inr (leb-false a b e) ] refl

abbrev Heads : ℕ → List ℕ → ℕ → ℕ → Type 0
Heads k ns p m = ranked (live k ns) ≡ (k + p, m) ∷ ranked (live k (set ns p 0))

-- a number that is not below any other goes in front
in_front : (k n : ℕ) (ns : List ℕ) → most ns ≤ suc n → (0 < most ns → Heads (suc k) ns (fullest ns) (most ns)) → ranked_in (k, suc n) (ranked (live (suc k) ns)) ≡ (k, suc n) ∷ ranked (live (suc k) ns)
in_front k n ns l h = elim (le_or_lt (most ns) 0) [
  | inl none ↦ ap (λ (x : List (ℕ × ℕ)). ranked_in (k, suc n) (ranked x)) (no_live (suc k) ns (omega arith)) ∙ sym (ap (λ (x : List (ℕ × ℕ)). (k, suc n) ∷ ranked x) (no_live (suc k) ns (omega arith)))
  | inr some ↦ below_head (k, suc n) _ _ _ (h some) l
]

-- the fullest is the head of the ranking, and the others are ranked after it
pub head-ranked : (k : ℕ) (ns : List ℕ) → 0 < most ns → Heads k ns (fullest ns) (most ns)
head-ranked k [] l = absurd (omega arith)
head-ranked k (zero ∷ ns) l =
    let some : 0 < most ns = omega arith in
    subst₂ (Heads k (0 ∷ ns)) (sym (fullest-later 0 ns some)) (sym (most-later 0 ns some))
    (head-ranked (suc k) ns some ∙ ap (λ p. (p, most ns) ∷ ranked (live (suc k) (set ns (fullest ns) 0))) (omega arith))
head-ranked k (suc n ∷ ns) l = elim (le_or_lt (most ns) (suc n)) [
  | inl here ↦ subst₂ (Heads k (suc n ∷ ns)) (sym (fullest-here (suc n) ns here)) (sym (most-here (suc n) ns here))
      (in_front k n ns here (head-ranked (suc k) ns) ∙ ap (λ p. (p, suc n) ∷ ranked (live (suc k) ns)) (omega arith))
  | inr later ↦ subst₂ (Heads k (suc n ∷ ns)) (sym (fullest-later (suc n) ns later)) (sym (most-later (suc n) ns later))
      (past_head (k, suc n) _ _ _ (head-ranked (suc k) ns (omega arith)) later ∙ ap (λ p. (p, most ns) ∷ ranked_in (k, suc n) (ranked (live (suc k) (set ns (fullest ns) 0)))) (omega arith))
]

pub nothing : (ns : List ℕ) → most ns ≡ 0 → total ns ≡ 0
nothing [] e = refl
nothing (n ∷ ns) e = omega (arith, nothing ns (omega (arith, e)), e)

done : (capacity : ℕ) (xs : List (ℕ × ℕ)) → total_of xs ≤ capacity → shortest capacity xs ≡ []
done capacity [] l = refl
done capacity (x ∷ xs) l = cond-true _ _ _ (le-leb _ capacity l)

abbrev rest : List ℕ → List ℕ
rest ns = set ns (fullest ns) 0

-- the number of the fullest is gone
pub total-rest : (ns : List ℕ) → 0 < most ns → most ns + total (rest ns) ≡ total ns
total-rest ns some =
    let e = ap total_of (head-ranked 0 ns some) in
    omega (arith, e, total-ranked (live 0 ns), total-live 0 ns, total-ranked (live 0 (rest ns)), total-live 0 (rest ns))

renewed-live : (capacity turns : ℕ) (ns : List ℕ) → total ns ≤ turns → renewed capacity turns ns ≡ shortest capacity (ranked (live 0 ns))
renewed-live capacity zero ns l = sym (done capacity _ (omega (arith, l, total-ranked (live 0 ns), total-live 0 ns)))
renewed-live capacity (suc turns) ns l = elim (le_or_lt (total ns) capacity) [
  | inl fits ↦ cond-true _ _ _ (le-leb _ _ fits) ∙ sym (done capacity _ (omega (arith, total-ranked (live 0 ns), total-live 0 ns)))
  | inr over ↦
      let some : 0 < most ns = elim (le_or_lt (most ns) 0) [ inl none ↦ omega (arith, nothing ns (omega arith)) | inr h ↦ h ] in
      let less = total-rest ns some in
      cond-false _ _ _ (lt-leb _ _ over)
      ∙ ap (λ x. fullest ns ∷ x) (renewed-live capacity turns (rest ns) (omega arith))
      ∙ sym (ap (shortest capacity) (head-ranked 0 ns some)
      ∙ cond-false _ _ _ (lt-leb (most ns + total_of (ranked (live 0 (rest ns)))) capacity (omega (arith, total-ranked (live 0 (rest ns)), total-live 0 (rest ns))))
      ∙ ap (λ p. p ∷ shortest capacity (ranked (live 0 (rest ns)))) (omega arith))
]

-- ---- places with 0 come last, and are never taken

abbrev zeros : ℕ → List ℕ → List (ℕ × ℕ)
zeros k [] = []
zeros k (zero ∷ ns) = (k, 0) ∷ zeros (suc k) ns
zeros k (suc n ∷ ns) = zeros (suc k) ns

total-zeros : (k : ℕ) (ns : List ℕ) → total_of (zeros k ns) ≡ 0
total-zeros k [] = refl
total-zeros k (zero ∷ ns) = omega (arith, total-zeros (suc k) ns)
total-zeros k (suc n ∷ ns) = total-zeros (suc k) ns

before_zeros : (k j n : ℕ) (ns : List ℕ) → ranked_in (j, n) (zeros k ns) ≡ (j, n) ∷ zeros k ns
before_zeros k j n [] = refl
before_zeros k j n (zero ∷ ns) = cond-true _ _ _ (le-leb 0 n (omega arith))
before_zeros k j n (suc m ∷ ns) = before_zeros (suc k) j n ns

-- a list of numbers above 0
abbrev AllLive : List (ℕ × ℕ) → Type 0
AllLive [] = Unit {0}
AllLive (x ∷ xs) = (0 < x.1) × AllLive xs

live-ranked_in : (x : ℕ × ℕ) (xs : List (ℕ × ℕ)) → 0 < x.1 → AllLive xs → AllLive (ranked_in x xs)
live-ranked_in x [] l all = (l, tt)
live-ranked_in x (y ∷ ys) l all = elim (leb y.1 x.1) as (λ b. AllLive (cond b (x ∷ y ∷ ys) (y ∷ ranked_in x ys))) [
  | true ↦ (l, all)
  | false ↦ (all.0, live-ranked_in x ys l all.1)
]

live-ranked : (k : ℕ) (ns : List ℕ) → AllLive (ranked (live k ns))
live-ranked k [] = tt
live-ranked k (zero ∷ ns) = live-ranked (suc k) ns
live-ranked k (suc n ∷ ns) = live-ranked_in (k, suc n) (ranked (live (suc k) ns)) (omega arith) (live-ranked (suc k) ns)

-- a number above 0 is ranked among those above 0, and 0 after them
ranked_in-live : (j n k : ℕ) (xs : List (ℕ × ℕ)) (ns : List ℕ) → ranked_in (j, suc n) (xs ++ zeros k ns) ≡ ranked_in (j, suc n) xs ++ zeros k ns
ranked_in-live j n k [] ns = before_zeros k j (suc n) ns
ranked_in-live j n k (y ∷ ys) ns = elim (leb y.1 (suc n)) as (λ b. cond b ((j, suc n) ∷ y ∷ (ys ++ zeros k ns)) (y ∷ ranked_in (j, suc n) (ys ++ zeros k ns))
    ≡ cond b ((j, suc n) ∷ y ∷ ys) (y ∷ ranked_in (j, suc n) ys) ++ zeros k ns) [
      | true ↦ refl
      | false ↦ ap (λ z. y ∷ z) (ranked_in-live j n k ys ns)
    ]

ranked_in-zero : (j k : ℕ) (xs : List (ℕ × ℕ)) (ns : List ℕ) → AllLive xs → ranked_in (j, 0) (xs ++ zeros k ns) ≡ xs ++ (j, 0) ∷ zeros k ns
ranked_in-zero j k [] ns all = before_zeros k j 0 ns
ranked_in-zero j k (y ∷ ys) ns all = cond-false _ _ _ (lt-leb y.1 0 all.0) ∙ ap (λ z. y ∷ z) (ranked_in-zero j k ys ns all.1)

ranked-placed : (k : ℕ) (ns : List ℕ) → ranked (placed k ns) ≡ ranked (live k ns) ++ zeros k ns
ranked-placed k [] = refl
ranked-placed k (zero ∷ ns) = ap (ranked_in (k, 0)) (ranked-placed (suc k) ns) ∙ ranked_in-zero k (suc k) (ranked (live (suc k) ns)) ns (live-ranked (suc k) ns)
ranked-placed k (suc n ∷ ns) = ap (ranked_in (k, suc n)) (ranked-placed (suc k) ns) ∙ ranked_in-live k n (suc k) (ranked (live (suc k) ns)) ns

total_of-append : (xs ys : List (ℕ × ℕ)) → total_of (xs ++ ys) ≡ total_of xs + total_of ys
total_of-append [] ys = omega arith
total_of-append (x ∷ xs) ys = omega (arith, total_of-append xs ys)

shortest-append : (capacity : ℕ) (xs ys : List (ℕ × ℕ)) → total_of ys ≡ 0 → shortest capacity (xs ++ ys) ≡ shortest capacity xs
shortest-append capacity [] ys e = done capacity ys (omega (arith, e))
shortest-append capacity (x ∷ xs) ys e =
    let same : x.1 + total_of (xs ++ ys) ≡ x.1 + total_of xs = omega (arith, total_of-append xs ys, e) in
    ap (λ n. cond (leb n capacity) [] (x.0 ∷ shortest capacity (xs ++ ys))) same
    ∙ ap (λ z. cond (leb (x.1 + total_of xs) capacity) [] (x.0 ∷ z)) (shortest-append capacity xs ys e)

-- taking the fullest repeatedly takes the plan
pub renewed-planned : (capacity turns : ℕ) (ns : List ℕ) → total ns ≤ turns → renewed capacity turns ns ≡ planned ns capacity
renewed-planned capacity turns ns l =
    renewed-live capacity turns ns l
    ∙ sym (ap (shortest capacity) (ranked-placed 0 ns) ∙ shortest-append capacity (ranked (live 0 ns)) (zeros 0 ns) (total-zeros 0 ns))
