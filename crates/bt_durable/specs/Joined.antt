-- Payloads that are joined to one.
use Rattle.std.proofs.Common.{◌≡◌, ◌∙◌, ◌++◌, ◌&&◌, ℕ, Bool, true, false, List, [], ◌∷◌, ap, append_assoc, sym}
use Rattle.bt_frame.specs.Services.{after_arrivals}
use Rattle.bt_frame.specs.declared.arrival.Arrival.{Arrival}
use Rattle.bt_frame.specs.declared.arrival.Arrival.TheVariants.{CutOff, Frame, NoFrame, TooLong}
use Rattle.bt_frame.proofs.offered.Arrivals.{nothing_arrives}
use Rattle.bt_frame.proofs.offered.Exchanges.{after-append, after-none}
use Rattle.bt_durable.specs.Payloads.{after_payload, no_limit, requests}

-- bytes are whole frames: what follows them arrives after their requests
abbrev pub AreFrames : List ℕ → Type 0
AreFrames bytes = (rest : List ℕ) → requests (bytes ++ rest) ≡ requests bytes ++ requests rest

-- all that arrives is a request
abbrev pub is_request : Arrival → Bool
is_request (Frame kind) = true
is_request TooLong = false
is_request NoFrame = false
is_request CutOff = false

abbrev pub are_requests : List (Arrival × List ℕ) → Bool
are_requests [] = true
are_requests (arrived ∷ more) = is_request arrived.0 && are_requests more

pub none_are_frames : AreFrames []
none_are_frames rest = ap (λ (l : List (Arrival × List ℕ)). l ++ requests rest) (sym (nothing_arrives no_limit))

pub both_are_frames : (first second : List ℕ) → AreFrames first → AreFrames second → AreFrames (first ++ second)
both_are_frames first second a b rest =
    ap requests (append_assoc first second rest) ∙ a (second ++ rest) ∙ ap (λ (l : List (Arrival × List ℕ)). requests first ++ l) (b rest)
    ∙ sym (append_assoc (requests first) (requests second) (requests rest)) ∙ ap (λ (l : List (Arrival × List ℕ)). l ++ requests rest) (sym (a second))

module _ {S : Type 0} (after : S → Arrival → List ℕ → S) (reply : S → Arrival → List ℕ → ℕ × List ℕ) where
  -- no requests
  pub after_none : (service : S) → after_payload after reply service [] ≡ service
  after_none service = ap (after_arrivals after reply service) (nothing_arrives no_limit) ∙ after-none after reply service

  -- requests after others
  pub after_both : (service : S) (first second : List ℕ) → AreFrames first
      → after_payload after reply service (first ++ second) ≡ after_payload after reply (after_payload after reply service first) second
  after_both service first second are = ap (after_arrivals after reply service) (are second) ∙ after-append after reply service (requests first) (requests second)
