-- Requests that change nothing.
use Rattle.std.proofs.Common.{◌≡◌, ◌∙◌, ℕ, Bool, false, List, [], ◌∷◌, refl}
use Rattle.std.proofs.lemmas.Bool.{or_parts}
use Rattle.bt_frame.specs.Services.{after_arrivals, any_changes}
use Rattle.bt_frame.specs.declared.arrival.Arrival.{Arrival}

module _ {S : Type 0} (after : S → Arrival → List ℕ → S) (reply : S → Arrival → List ℕ → ℕ × List ℕ) (changes : S → Arrival → List ℕ → Bool)
    (same : (service : S) (arrival : Arrival) (payload : List ℕ) → changes service arrival payload ≡ false → after service arrival payload ≡ service) where
  -- if none may change the service, it is the same after all of them
  pub unchanged : (service : S) (arrived : List (Arrival × List ℕ)) → any_changes after reply changes service arrived ≡ false → after_arrivals after reply service arrived ≡ service
  unfolding any_changes after_arrivals
  unchanged service [] none = refl
  unchanged service (first ∷ more) none =
      let next = after service first.0 first.1 in
      let parts = or_parts (changes service first.0 first.1) (any_changes after reply changes next more) none in
      unchanged next more parts.1 ∙ same service first.0 first.1 parts.0
