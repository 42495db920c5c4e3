-- The number of messages in all bins.
use Rattle.std.proofs.Common.{◌≡◌, ℕ, zero, suc, ◌<◌, ◌≤◌, ◌+◌, ◌-◌, List, [], ◌∷◌, ◌++◌, append_assoc, replicate, get_or}
use Rattle.std.proofs.Common.{set, length, map, take, drop, Result, Ok, Err, OnOk, OnErr, refl, sym, ap, ◌∙◌, arith}
use Rattle.bt_messages.specs.Parts.{total}

module _ {X : Type 0} where
  -- the number of messages in all lists
  abbrev pub held : List (List X) → ℕ
  held bs = total (map length bs)

  pub held-append : (bs cs : List (List X)) → held (bs ++ cs) ≡ held bs + held cs
  held-append [] cs = omega arith
  held-append (b ∷ bs) cs = omega (arith, held-append bs cs)

  held-alike : (e : List X) (n : ℕ) → length e ≡ 0 → held (replicate n e) ≡ 0
  held-alike e zero l = refl
  held-alike e (suc n) l = omega (arith, l, held-alike e n l)

  pub held-cut : (bs : List (List X)) (i : ℕ) → held (take i bs) + held (drop i bs) ≡ held bs
  held-cut bs zero = omega arith
  held-cut [] (suc i) = refl
  held-cut (b ∷ bs) (suc i) = omega (arith, held-cut bs i)

  held-set : (bs : List (List X)) (i : ℕ) (b d : List X) → i < length bs → held (set bs i b) + length (get_or bs i d) ≡ held bs + length b
  held-set [] i b d l = absurd (omega (arith, l))
  held-set (c ∷ bs) zero b d l = omega arith
  held-set (c ∷ bs) (suc i) b d l = omega (arith, held-set bs i b d (omega (arith, l)))

  -- a list is emptied
  pub held-emptied : (bs : List (List X)) (i : ℕ) (old new : List X) (sum n : ℕ) → i < length bs → old ≡ get_or bs i old → n ≡ length old → new ≡ [] → sum ≡ held bs →
      (n ≤ sum) × (sum - n ≡ held (set bs i new))
  held-emptied bs i old new sum n l o e f w =
      let is = held-set bs i new old l in
      let left : n + held (set bs i new) ≡ sum = omega (arith, is, ap length o, e, ap length f, w) in
      (omega (arith, left), omega (arith, left))

  -- empty lists are put between others
  pub held-only_empty : (start new : List (List X)) (n : ℕ) → new ≡ start ++ replicate n [] → start ≡ [] → 0 ≡ held new
  held-only_empty start new n e f = omega (arith, ap held e, held-append start (replicate n []), ap held f, held-alike [] n refl)

  held-spread : (bs new : List (List X)) (i n : ℕ) → new ≡ take i bs ++ replicate n [] ++ drop i bs → held new ≡ held bs
  held-spread bs new i n e =
      omega (arith, ap held e, held-append (take i bs ++ replicate n []) (drop i bs), held-append (take i bs) (replicate n []), held-alike [] n refl, held-cut bs i)

  -- for either result
  pub held-either : {A E : Type 0} (r : Result A E) (bs new : List (List X)) (i n : ℕ) → OnOk r (new ≡ take i bs ++ replicate n [] ++ drop i bs) → OnErr r (new ≡ bs) → held new ≡ held bs
  held-either (Ok x) bs new i n e f = held-spread bs new i n e
  held-either (Err x) bs new i n e f = ap held f

  pub replicate_more : (n i : ℕ) (x : X) (start more wanted : List X) → i < n → start ++ replicate (n - i) x ≡ wanted → more ≡ start ++ x ∷ [] → more ++ replicate (n - (i + 1)) x ≡ wanted
  replicate_more n i x start more wanted l w e =
      let one : n - i ≡ suc (n - (i + 1)) = omega (arith, l) in
      ap (λ zs. zs ++ replicate (n - (i + 1)) x) e ∙ append_assoc start (x ∷ []) (replicate (n - (i + 1)) x) ∙ sym (ap (λ k. start ++ replicate k x) one) ∙ w
