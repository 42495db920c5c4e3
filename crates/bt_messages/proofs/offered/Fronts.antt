-- The first of sorted messages, for functions that take them off a stream.
use Rattle.std.proofs.Common.{◌≡◌, ℕ, zero, suc, ◌<◌, List, [], ◌∷◌, ◌+◌, ◌-◌, take, drop, ap, ◌∙◌, arith}
use Rattle.bt_keycode.specs.Keys.{AllFrom, IsSorted}
use Rattle.bt_message.specs.Messages.{Messages}

module _ {M : Type 0} where
  pub from-take : (k : List ℕ) (n : ℕ) (ms : Messages M) → AllFrom k ms → AllFrom k (take n ms)
  from-take k zero ms h = tt
  from-take k (suc n) [] h = tt
  from-take k (suc n) (m ∷ ms) h = (h.0, from-take k n ms h.1)

  pub sorted_take : (n : ℕ) (ms : Messages M) → IsSorted ms → IsSorted (take n ms)
  sorted_take zero ms h = tt
  sorted_take (suc n) [] h = tt
  sorted_take (suc n) (m ∷ ms) h = (from-take m.0 n ms h.0, sorted_take n ms h.1)

  -- the first messages, once the first of them is taken off
  pub one_taken : (ms rest : Messages M) (m : List ℕ × M) (n i : ℕ) → i < n → ms ≡ m ∷ rest → (take (n - i) ms ≡ m ∷ take (n - (i + 1)) rest) × (drop (n - i) ms ≡ drop (n - (i + 1)) rest)
  one_taken ms rest m n i l e =
      let one : n - i ≡ suc (n - (i + 1)) = omega (arith, l) in (
        ap (λ k. take k ms) one ∙ ap (take (suc (n - (i + 1)))) e,
        ap (λ k. drop k ms) one ∙ ap (drop (suc (n - (i + 1)))) e,
      )
