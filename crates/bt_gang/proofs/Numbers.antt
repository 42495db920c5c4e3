-- Sums over lists of numbers.
use Rattle.std.proofs.Common.{◌≡◌, ◌≢◌, ℕ, zero, suc, ◌+◌, ◌<◌, ◌≤◌, List, [], ◌∷◌, ◌++◌, length, length-append, map, set, get_or, take, refl, sym, ap, ◌∙◌, arith}
use Rattle.std.proofs.lemmas.List.{take_more, take_all}
use Rattle.std.proofs.lemmas.Bool.Decides.{nat_tests}
use mathlib.Core.Logic.{dite}
use mathlib.Core.Option.{some, some-ne-none, some-injective}
use native.Mathlib.Decide.{ℕ_discrete}
use lib.ListN.{get_elem?}
use Rattle.bt_value.specs.Lists.{concatenation}
use Rattle.bt_gang.specs.Numbers.{sum_over, is_it, occurrences, below, once_below}

module _ {X : Type 0} (f : X → ℕ) where
  pub sum_over-append : (xs ys : List X) → sum_over f (xs ++ ys) ≡ sum_over f xs + sum_over f ys
  sum_over-append [] ys = omega arith
  sum_over-append (x ∷ xs) ys = omega (arith, sum_over-append xs ys)

  -- the sum after a change at one place
  pub sum_over-set : (xs : List X) (i : ℕ) (v w : X) → get_elem? xs i ≡ some v → sum_over f (set xs i w) + f v ≡ sum_over f xs + f w
  sum_over-set [] i v w at = absurd (some-ne-none v (sym at))
  sum_over-set (x ∷ xs) zero v w at = let e : f x ≡ f v = ap f (some-injective x v at) in omega arith
  sum_over-set (x ∷ xs) (suc i) v w at = let e = sum_over-set xs i v w at in omega arith

  pub sum_over-set_or : (xs : List X) (i : ℕ) (w d : X) → i < length xs → sum_over f (set xs i w) + f (get_or xs i d) ≡ sum_over f xs + f w
  sum_over-set_or [] i w d l = absurd (omega arith)
  sum_over-set_or (x ∷ xs) zero w d l = omega arith
  sum_over-set_or (x ∷ xs) (suc i) w d l = let e = sum_over-set_or xs i w d (omega arith) in omega arith

  -- one item adds at most the whole sum
  pub sum_over-one : (xs : List X) (i : ℕ) (v : X) → get_elem? xs i ≡ some v → f v ≤ sum_over f xs
  sum_over-one [] i v at = absurd (some-ne-none v (sym at))
  sum_over-one (x ∷ xs) zero v at = let e : f x ≡ f v = ap f (some-injective x v at) in omega arith
  sum_over-one (x ∷ xs) (suc i) v at = let e = sum_over-one xs i v at in omega arith

  -- two items at different places also do
  pub sum_over-two : (xs : List X) (i j : ℕ) (v u : X) → get_elem? xs i ≡ some v → get_elem? xs j ≡ some u → j ≢ i → f v + f u ≤ sum_over f xs
  sum_over-two [] i j v u at at' ne = absurd (some-ne-none v (sym at))
  sum_over-two (a ∷ xs) zero zero v u at at' ne = absurd (ne refl)
  sum_over-two (a ∷ xs) zero (suc j) v u at at' ne = let e : f a ≡ f v = ap f (some-injective a v at) in let l = sum_over-one xs j u at' in omega arith
  sum_over-two (a ∷ xs) (suc i) zero v u at at' ne = let e : f a ≡ f u = ap f (some-injective a u at') in let l = sum_over-one xs i v at in omega arith
  sum_over-two (a ∷ xs) (suc i) (suc j) v u at at' ne = let l = sum_over-two xs i j v u at at' (λ e. ne (ap suc e)) in omega arith

module _ {X Y : Type 0} where
  pub sum_over-map : (f : Y → ℕ) (g : X → Y) (xs : List X) → sum_over f (map g xs) ≡ sum_over (λ x. f (g x)) xs
  sum_over-map f g [] = refl
  sum_over-map f g (x ∷ xs) = let e = sum_over-map f g xs in omega arith

pub sum_over-concatenation : (f : ℕ → ℕ) (ls : List (List ℕ)) → sum_over f (concatenation ls) ≡ sum_over (λ l. sum_over f l) ls
sum_over-concatenation f [] = refl
sum_over-concatenation f (l ∷ ls) = let e = sum_over-concatenation f ls in let a = sum_over-append f l (concatenation ls) in omega arith

pub sum_over-length : {X : Type 0} (xs : List X) → sum_over (λ _. 1) xs ≡ length xs
sum_over-length [] = refl
sum_over-length (x ∷ xs) = omega (arith, sum_over-length xs)

pub length-below : (n : ℕ) → length (below n) ≡ n
length-below zero = refl
length-below (suc n) = omega (arith, length-append (below n) (n ∷ []), length-below n)

-- a number is among those below n once, if it is below n
pub occurrences-below : (x n : ℕ) → occurrences x (below n) ≡ once_below x n
occurrences-below x zero = grind (arith, nat_tests)
occurrences-below x (suc n) = let e = occurrences-below x n in let f = sum_over-append (is_it x) (below n) (n ∷ []) in grind (arith, nat_tests, e, f)

module _ {X : Type 0} where
  pub at_more : (xs ys : List X) (i : ℕ) (x : X) → get_elem? xs i ≡ some x → get_elem? (xs ++ ys) i ≡ some x
  at_more [] ys i x at = absurd (some-ne-none x (sym at))
  at_more (a ∷ xs) ys zero x at = at
  at_more (a ∷ xs) ys (suc i) x at = at_more xs ys i x at

  pub at_end : (xs : List X) (x : X) → get_elem? (xs ++ x ∷ []) (length xs) ≡ some x
  at_end [] x = refl
  at_end (a ∷ xs) x = at_end xs x

  pub at_below : (xs : List X) (i : ℕ) (x : X) → get_elem? xs i ≡ some x → i < length xs
  at_below [] i x e = absurd (some-ne-none x (sym e))
  at_below (y ∷ ys) zero x e = omega arith
  at_below (y ∷ ys) (suc i) x e = let l = at_below ys i x e in omega arith

module _ {X : Type 0} (f : X → ℕ) (d : X) (xs : List X) where
  sum_over-first_places : (n : ℕ) → n ≤ length xs → sum_over (λ i. f (get_or xs i d)) (below n) ≡ sum_over f (take n xs)
  sum_over-first_places zero l = refl
  sum_over-first_places (suc n) l =
      let g : ℕ → ℕ = λ i. f (get_or xs i d) in
      let a = sum_over-append g (below n) (n ∷ []) in
      let b = sum_over-first_places n (omega arith) in
      let one : suc n ≡ n + 1 = omega arith in
      let c : sum_over f (take (suc n) xs) ≡ sum_over f (take n xs ++ get_or xs n d ∷ []) = ap (λ k. sum_over f (take k xs)) one ∙ ap (sum_over f) (take_more xs n d (omega arith)) in
      let e = sum_over-append f (take n xs) (get_or xs n d ∷ []) in
      omega (arith, a, b, c, e)

  -- f of each place of the list
  pub sum_over-places : (n : ℕ) → length xs ≡ n → sum_over (λ i. f (get_or xs i d)) (below n) ≡ sum_over f xs
  sum_over-places n len = sum_over-first_places n (omega arith) ∙ ap (sum_over f) (take_all n xs (omega arith))

pub once_itself : (x : ℕ) → is_it x x ≡ 1
once_itself x = grind (arith, nat_tests)

pub not_another : (x y : ℕ) → y ≢ x → is_it x y ≡ 0
not_another x y ne = grind (arith, nat_tests, ne)

-- a number in a list, and the other numbers
pub taken_out : (x : ℕ) (ys : List ℕ) → 0 < occurrences x ys → (others : List ℕ) × ((h : ℕ → ℕ) → sum_over h ys ≡ h x + sum_over h others)
taken_out x [] l = absurd (omega arith)
taken_out x (y ∷ ys) l = dite (ℕ_discrete y x)
    (λ e. (ys, λ h. ap (λ k. h k + sum_over h ys) e))
    (λ ne.
    let none = not_another x y ne in
    let r = taken_out x ys (omega arith) in
    (y ∷ r.0, λ h. let e = r.1 h in omega arith))

-- if no number is more often in one list than in another, the other has the same numbers and some more
pub besides : (xs ys : List ℕ) → ((x : ℕ) → occurrences x xs ≤ occurrences x ys) → (others : List ℕ) × ((h : ℕ → ℕ) → sum_over h xs + sum_over h others ≡ sum_over h ys)
besides [] ys most = (ys, λ h. omega arith)
besides (x ∷ xs) ys most =
    let r = taken_out x ys (let l = most x in let k = once_itself x in omega arith) in
    let s = besides xs r.0 (λ y. let l = most y in let e = r.1 (is_it y) in omega arith) in
    (s.0, λ h. let e = r.1 h in let f = s.1 h in omega arith)

-- if each number is as often in one list as in another, their sums are equal for any weights
pub same_sums : (xs ys : List ℕ) → ((x : ℕ) → occurrences x xs ≡ occurrences x ys) → (h : ℕ → ℕ) → sum_over h xs ≡ sum_over h ys
same_sums xs ys same h =
    let a = (besides xs ys (λ x. let e = same x in omega arith)).1 h in
    let b = (besides ys xs (λ x. let e = same x in omega arith)).1 h in
    omega arith

pub weighs_part : (h : ℕ → ℕ) (x : ℕ) (ys : List ℕ) → 0 < occurrences x ys → h x ≤ sum_over h ys
weighs_part h x ys l = let e = (taken_out x ys l).1 h in omega arith
