-- Requests that run once: each has an id. If a request with the id ran before, its reply is returned, and nothing runs.
use Rattle.std.specs.Prelude.{ℕ, ◌≡◌, ◌<◌, ◌-◌, ◌==◌, ◌++◌, ◌||◌, ◌^◌, Bool, false, true, List, [], ◌∷◌}
use Rattle.std.specs.Prelude.{Option, None, Some, codes, drop, get_or, if◌then◌else◌, is_some, length, map, nat_eq, nat_le, take}
use Rattle.std.specs.Int.{from_le_bytes, to_le_bytes, w64, w128}
use Rattle.std.specs.Map.{lookup}
use Rattle.bt_frame.specs.Frames.{frame}
use Rattle.bt_frame.specs.Services.{after_arrivals}
use Rattle.bt_frame.specs.declared.arrival.Arrival.{Arrival}
use Rattle.bt_frame.specs.declared.arrival.Arrival.TheVariants.{CutOff, Frame, NoFrame, TooLong}
use Rattle.bt_journal.specs.Frames.{sum_from}

-- the kind of a request that runs once
abbrev pub once_kind : ℕ
once_kind = 12

-- the kind of a request that notes what is known of another one
abbrev pub known_kind : ℕ
known_kind = 15

-- the kind of the reply to a request that was carried out
abbrev pub done_kind : ℕ
done_kind = 0

-- the kind of the reply to what is no request
abbrev pub invalid_kind : ℕ
invalid_kind = 2

-- how many requests are known: those that ran last
abbrev pub most_known : ℕ
most_known = 100000

-- the id, the kind and the payload of a request that runs once: sixteen bytes, a byte, and the rest
abbrev pub OnceRequest : Type 0
OnceRequest = ℕ × ℕ × List ℕ

-- the request in a payload, if it is long enough
abbrev pub request_in : List ℕ → Option OnceRequest
request_in payload = if nat_le 17 (length payload) then Some (from_le_bytes w128 payload, get_or payload 16 0, drop 17 payload) else None

-- the sum of what is asked: of the kind and the payload of the request
abbrev pub sum_of : List ℕ → ℕ
sum_of payload = sum_from 0 (drop 16 payload)

-- what is known of a request that ran: the sum of what was asked, and the kind and the payload of its reply
abbrev pub Known : Type 0
Known = ℕ × ℕ × List ℕ

-- what is known of the request with an id, as a payload: the id in sixteen bytes, the sum in eight, the kind of the reply in one, and the payload of the reply
abbrev pub known_payload : ℕ × Known → List ℕ
known_payload entry = to_le_bytes w128 entry.0 ++ (to_le_bytes w64 entry.1.0 ++ (entry.1.1 ∷ entry.1.2))

-- what a payload encodes of it, if it is long enough
abbrev pub known_in : List ℕ → Option (ℕ × Known)
known_in payload =
    if nat_le 25 (length payload) then Some (from_le_bytes w128 payload, (from_le_bytes w64 (drop 16 payload), get_or payload 24 0, drop 25 payload)) else None

-- a service, and what is known of requests by their ids, the last one first
abbrev pub OnceState : Type 0 → Type 0
OnceState S = S × List (ℕ × Known)

-- what an exchange leaves, the reply, and whether it may have changed the state
abbrev pub Exchange : Type 0 → Type 0
Exchange S = OnceState S × (ℕ × List ℕ) × Bool

-- a refusal, which changes nothing
abbrev pub refused : {S : Type 0} → OnceState S → List ℕ → Exchange S
refused state name = (state, (invalid_kind, name), false)

-- the kind and the payload of the reply to a request whose id is known: those of before, if the same was asked
abbrev pub reply_again : ℕ → Known → ℕ × List ℕ
reply_again sum known = if known.0 == sum then (known.1, known.2) else (invalid_kind, codes "RequestReused")

-- an entry is noted as that of the oldest request, unless its id is known, or no more are known
abbrev pub noted_unless : {S : Type 0} → OnceState S → ℕ × Known → Bool → Exchange S
noted_unless state entry true = refused state (codes "RequestReused")
noted_unless state entry false = ((state.0, state.1 ++ entry ∷ []), (done_kind, []), true)

-- what is known of a request is noted
abbrev pub noted : {S : Type 0} → OnceState S → Option (ℕ × Known) → Exchange S
noted state None = refused state (codes "NoRequestId")
noted state (Some entry) = noted_unless state entry (nat_le most_known (length state.1) || is_some (lookup (nat_eq entry.0) state.1))

module _ {S : Type 0} (after : S → Arrival → List ℕ → S) (reply : S → Arrival → List ℕ → ℕ × List ℕ) where
  -- a request whose id is not known: it runs, and its reply is stored
  abbrev pub run_first : OnceState S → ℕ → OnceRequest → Exchange S
  run_first state sum request =
      let made = reply state.0 (Frame request.1) request.2 in
      ((after state.0 (Frame request.1) request.2, (request.0, (sum, made.0, made.1)) ∷ take (most_known - 1) state.1), made, true)

  -- a request, of whose id this is known
  abbrev pub run_known : OnceState S → ℕ → OnceRequest → Option Known → Exchange S
  run_known state sum request None = run_first state sum request
  run_known state sum request (Some known) = (state, reply_again sum known, false)

  -- a request, if there is one
  abbrev pub run_once : OnceState S → ℕ → Option OnceRequest → Exchange S
  run_once state sum None = refused state (codes "NoRequestId")
  run_once state sum (Some request) = run_known state sum request (lookup (nat_eq request.0) state.1)

  module _ (changes : S → Arrival → List ℕ → Bool) where
    -- what is left to the service
    abbrev pub passed : OnceState S → Arrival → List ℕ → Exchange S
    passed state arrival payload = ((after state.0 arrival payload, state.1), reply state.0 arrival payload, changes state.0 arrival payload)

    -- a frame, which notes what is known of a request, or is left to the service
    abbrev pub of_other_frame : OnceState S → ℕ → List ℕ → Bool → Exchange S
    of_other_frame state kind payload true = noted state (known_in payload)
    of_other_frame state kind payload false = passed state (Frame kind) payload

    -- a frame, which is a request that runs once, or is not
    abbrev pub of_frame : OnceState S → ℕ → List ℕ → Bool → Exchange S
    of_frame state kind payload true = run_once state (sum_of payload) (request_in payload)
    of_frame state kind payload false = of_other_frame state kind payload (kind == known_kind)

    -- what arrived with a payload
    abbrev pub exchanged : OnceState S → Arrival → List ℕ → Exchange S
    exchanged state (Frame kind) payload = of_frame state kind payload (kind == once_kind)
    exchanged state TooLong payload = passed state TooLong payload
    exchanged state NoFrame payload = passed state NoFrame payload
    exchanged state CutOff payload = passed state CutOff payload

    -- the state after it
    abbrev pub once_after : OnceState S → Arrival → List ℕ → OnceState S
    once_after state arrival payload = (exchanged state arrival payload).0

    -- the kind and the payload of its reply
    abbrev pub once_reply : OnceState S → Arrival → List ℕ → ℕ × List ℕ
    once_reply state arrival payload = (exchanged state arrival payload).1

    -- whether it may have changed the state
    abbrev pub once_changes : OnceState S → Arrival → List ℕ → Bool
    once_changes state arrival payload = (exchanged state arrival payload).2

    -- If a request has run, and since then fewer things have arrived than requests are known, then the same request changes nothing, and has the reply of the first time.
    abbrev pub RequestsRunOnce : Type 0
    RequestsRunOnce =
        (state : OnceState S) (payload : List ℕ) (request : OnceRequest) (arrived : List (Arrival × List ℕ))
        → request_in payload ≡ Some request → lookup (nat_eq request.0) state.1 ≡ None → length arrived < most_known
        → let first = exchanged state (Frame once_kind) payload in
        let later = after_arrivals once_after once_reply first.0 arrived in
        exchanged later (Frame once_kind) payload ≡ (later, first.1, false)

-- ---- what is known, as requests

-- the requests that note these entries
abbrev pub known_requests : List (ℕ × Known) → List (Arrival × List ℕ)
known_requests entries = map (λ entry. (Frame known_kind, known_payload entry)) entries

-- their frames, one after the other
abbrev pub known_frames : List (ℕ × Known) → List ℕ
known_frames [] = []
known_frames (entry ∷ entries) = frame known_kind (known_payload entry) ++ known_frames entries

-- the payload of each entry has the entry
abbrev pub AreKept : List (ℕ × Known) → Type 0
AreKept [] = Unit {0}
AreKept (entry ∷ entries) = (known_in (known_payload entry) ≡ Some entry) × (length (known_payload entry) < 2 ^ 64) × AreKept entries

-- a service that is compacted, and the same is known of requests
abbrev pub is_compacted_once : {S : Type 0} → (S → S → Type 0) → OnceState S → OnceState S → Type 0
is_compacted_once is_compacted old new = is_compacted old.0 new.0 × (new.1 ≡ old.1)
