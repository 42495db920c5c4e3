-- Payloads of requests, and what they do to a service.
use Rattle.std.specs.Prelude.{ℕ, ◌-◌, ◌^◌, Bool, List}
use Rattle.bt_frame.specs.Frames.{arrivals}
use Rattle.bt_frame.specs.Services.{after_arrivals, answers, any_changes}
use Rattle.bt_frame.specs.declared.arrival.Arrival.{Arrival}

-- the largest limit of the bytes of a request: none is over it
abbrev pub no_limit : ℕ
no_limit = 2 ^ 64 - 1

-- The requests in a payload, whose frames follow one another. A payload was written with some limit, and is read without one.
abbrev pub requests : List ℕ → List (Arrival × List ℕ)
requests payload = arrivals no_limit payload

module _ {S : Type 0} (after : S → Arrival → List ℕ → S) (reply : S → Arrival → List ℕ → ℕ × List ℕ) where
  -- the service after the requests of a payload
  abbrev pub after_payload : S → List ℕ → S
  after_payload service payload = after_arrivals after reply service (requests payload)

  -- the replies to them
  abbrev pub replies_to : S → List ℕ → List ℕ
  replies_to service payload = answers after reply service (requests payload)

  -- whether one of them may change it
  abbrev pub payload_changes : (S → Arrival → List ℕ → Bool) → S → List ℕ → Bool
  payload_changes changes service payload = any_changes after reply changes service (requests payload)
