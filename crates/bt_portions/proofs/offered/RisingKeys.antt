-- Parts of rising keys rise.
use Rattle.std.proofs.Common.{ℕ, zero, suc, List, [], ◌∷◌, drop, map, take}
use Rattle.bt_keycode.specs.Keys.{Key}
use Rattle.bt_form.specs.Parts.{AreRising}

pub others_rise : (k : Key) (ks : List Key) → AreRising (k ∷ ks) → AreRising ks
others_rise k [] rising = tt
others_rise k (l ∷ ks) rising = rising.1

module _ {K : Type 0} (key : K → Key) where
  pub first_rise : (n : ℕ) (ks : List K) → AreRising (map key ks) → AreRising (map key (take n ks))
  first_rise zero ks rising = tt
  first_rise (suc n) [] rising = tt
  first_rise (suc zero) (k ∷ ks) rising = tt
  first_rise (suc (suc n)) (k ∷ []) rising = tt
  first_rise (suc (suc n)) (k ∷ l ∷ ks) rising = (rising.0, first_rise (suc n) (l ∷ ks) rising.1)

  pub rest_rise : (n : ℕ) (ks : List K) → AreRising (map key ks) → AreRising (map key (drop n ks))
  rest_rise zero ks rising = rising
  rest_rise (suc n) [] rising = tt
  rest_rise (suc n) (k ∷ ks) rising = rest_rise n ks (others_rise (key k) (map key ks) rising)
