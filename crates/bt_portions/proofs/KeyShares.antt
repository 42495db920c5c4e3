-- Rising keys, and those that portions side by side own.
use Rattle.std.proofs.Common.{◌≡◌, ◌∙◌, true, false, cond, not, ◌&&◌, true≢false, ℕ, zero, suc, List, [], ◌∷◌, ◌++◌, append_assoc, Option, None, Some, drop, map, take, refl, sym, ap}
use Rattle.std.proofs.lemmas.List.{take-append-drop}
use Rattle.bt_keycode.specs.Keys.{Key, is_before, is_before_lower, is_between}
use Rattle.bt_keycode.proofs.offered.Order.{later_chain, not_after}
use Rattle.bt_form.specs.Parts.{AreRising}
use Rattle.bt_form.specs.Portions.{Portion, owns, value_in}
use Rattle.bt_portions.specs.inside.OwnedKeys.{owned_count}
use Rattle.bt_portions.proofs.offered.RisingKeys.{others_rise}

-- none of the keys comes before a bound
abbrev pub NoneBefore : Option Key → List Key → Type 0
NoneBefore low [] = Unit {0}
NoneBefore low (k ∷ ks) = (is_before_lower low k ≡ false) × NoneBefore low ks

pub none_before_none : (ks : List Key) → NoneBefore None ks
none_before_none [] = tt
none_before_none (k ∷ ks) = (refl, none_before_none ks)

-- if the first key is not before a bound, no other is
none_before_bound : (bound : Option Key) (k : Key) (ks : List Key) → is_before_lower bound k ≡ false → AreRising (k ∷ ks) → NoneBefore bound ks
none_before_bound None k ks from rising = none_before_none ks
none_before_bound (Some b) k [] from rising = tt
none_before_bound (Some b) k (l ∷ ks) from rising =
    let next = later_chain b k l from (not_after k l rising.0) in
    (next, none_before_bound (Some b) l ks next rising.1)

-- a key that is not before the lower bound, and not between both, is not before the upper one
after_upper : (low high : Option Key) (k : Key) → is_before_lower low k ≡ false → is_between low high k ≡ false → is_before_lower high k ≡ false
after_upper low None k from out = absurd (true≢false (sym (ap (λ b. not b && true) from) ∙ out))
after_upper low (Some h) k from out = sym (ap (λ b. not b && is_before k h) from) ∙ out

-- the keys of the shares so far, and then those that are left
pub keys_go_on : {K : Type 0} (before own left rest after whole : List K) (n : ℕ) → after ≡ before ++ own → own ≡ take n rest → left ≡ drop n rest → before ++ rest ≡ whole → after ++ left ≡ whole
keys_go_on before own left rest after whole n added own_is left_is so_far =
    ap (λ l. l ++ left) (added ∙ ap (λ o. before ++ o) own_is) ∙ append_assoc before (take n rest) left ∙ ap (λ l. before ++ (take n rest ++ l)) left_is
    ∙ ap (λ l. before ++ l) (take-append-drop n rest) ∙ so_far

module _ {K : Type 0} (key : K → Key) where
  module _ {V M : Type 0} (p : Portion V M) where
    abbrev count : List K → ℕ
    count ks = owned_count p (map key ks)

    -- the keys after those that the portion owns are not before its upper bound
    pub rest_following : (ks : List K) → NoneBefore p.low (map key ks) → AreRising (map key ks) → NoneBefore p.high (map key (drop (count ks) ks))
    rest_following [] from rising = tt
    rest_following (k ∷ ks) from rising =
        elim (owns (key k) p) as (λ b. owns (key k) p ≡ b → NoneBefore p.high (map key (drop (cond b (suc (count ks)) 0) (k ∷ ks)))) [
          | true ↦ λ own. rest_following ks from.1 (others_rise (key k) (map key ks) rising)
          | false ↦ λ other. let following = after_upper p.low p.high (key k) from.0 other in (following, none_before_bound p.high (key k) (map key ks) following rising)
        ] refl

    -- a portion without an upper bound owns all keys that are not before its lower one
    pub none_left : p.high ≡ None → (ks : List K) → NoneBefore p.low (map key ks) → drop (count ks) ks ≡ []
    none_left last [] from = refl
    none_left last (k ∷ ks) from =
        let own : owns (key k) p ≡ true = ap (λ h. is_between p.low h (key k)) last ∙ ap (λ b. not b && true) from.0 in
        ap (λ b. drop (cond b (suc (count ks)) 0) (k ∷ ks)) own ∙ none_left last ks from.1

    module _ (effect : Option V → M → Option V) (value : Key → Option V) (have : (q : Key) → owns q p ≡ true → value_in effect q p ≡ value q) where
      -- the portion has the values at the keys that it owns
      pub own_values : (ks : List K) → map (λ k. value_in effect (key k) p) (take (count ks) ks) ≡ map (λ k. value (key k)) (take (count ks) ks)
      own_values [] = refl
      own_values (k ∷ ks) =
          elim (owns (key k) p) as (λ b. owns (key k) p ≡ b
          → map (λ k. value_in effect (key k) p) (take (cond b (suc (count ks)) 0) (k ∷ ks))
          ≡ map (λ k. value (key k)) (take (cond b (suc (count ks)) 0) (k ∷ ks))) [
            | true ↦ λ own. ap (λ v. v ∷ map (λ k. value_in effect (key k) p) (take (count ks) ks)) (have (key k) own) ∙ ap (λ vs. value (key k) ∷ vs) (own_values ks)
            | false ↦ λ other. refl
          ] refl
