-- Worked payloads, run by the definitions themselves. Serves as a test of the definitions.
use Rattle.std.proofs.Common.{◌≡◌, ◌+◌, ◌++◌, ℕ, Bool, true, List, [], ◌∷◌, codes, length, refl}
use Rattle.bt_frame.specs.Frames.{arrivals_in, frame, number_bytes, number_from}
use Rattle.bt_frame.specs.Services.{after_arrivals, answers}
use Rattle.bt_frame.specs.declared.arrival.Arrival.{Arrival}
use Rattle.bt_frame.specs.declared.arrival.Arrival.TheVariants.{Frame}
use Rattle.bt_journal.specs.Frames.{mixed, sum_from}
use Rattle.bt_durable.specs.Once.{OnceState, once_after, once_reply}
use Rattle.bt_durable.specs.Payloads.{after_payload, replies_to}

-- a service that counts the bytes of payloads, and replies with its count
abbrev after : ℕ → Arrival → List ℕ → ℕ
after count arrival payload = count + length payload

abbrev reply : ℕ → Arrival → List ℕ → ℕ × List ℕ
reply count arrival payload = (length payload, count ∷ [])

-- two requests in one payload
counts : after_payload after reply 5 (frame 1 (codes "ab") ++ frame 2 (codes "cde")) ≡ 10
unfolding after_arrivals arrivals_in number_bytes number_from
counts = refl

answered : replies_to after reply 5 (frame 1 (codes "ab") ++ frame 2 (codes "cde")) ≡ frame 2 (5 ∷ []) ++ frame 3 (7 ∷ [])
unfolding answers arrivals_in number_bytes number_from
answered = refl

-- an id of fifteen zeros and this byte, and a request of kind 7
abbrev asked : ℕ → List ℕ → List ℕ
asked last payload = 0 ∷ 0 ∷ 0 ∷ 0 ∷ 0 ∷ 0 ∷ 0 ∷ 0 ∷ 0 ∷ 0 ∷ 0 ∷ 0 ∷ 0 ∷ 0 ∷ 0 ∷ last ∷ 7 ∷ payload

abbrev changes : ℕ → Arrival → List ℕ → Bool
changes count arrival payload = true

-- the count and the reply after a request with an id, and then after another one
abbrev after_two : List ℕ → List ℕ → ℕ × (ℕ × List ℕ)
after_two first second =
    let state : OnceState ℕ = (5, []) in
    let next = once_after after reply changes state (Frame 12) first in
    ((once_after after reply changes next (Frame 12) second).0, once_reply after reply changes next (Frame 12) second)

again : after_two (asked 1 (codes "ab")) (asked 1 (codes "ab")) ≡ (7, (2, 5 ∷ []))
unfolding mixed sum_from
again = refl

another_id : after_two (asked 1 (codes "ab")) (asked 2 (codes "ab")) ≡ (9, (2, 7 ∷ []))
unfolding mixed sum_from
another_id = refl

another_request : after_two (asked 1 (codes "ab")) (asked 1 (codes "ac")) ≡ (7, (2, codes "RequestReused"))
unfolding mixed sum_from
another_request = refl

too_short : after_two (asked 1 (codes "ab")) (codes "an id of letters") ≡ (7, (2, codes "NoRequestId"))
unfolding mixed sum_from
too_short = refl
