-- What may not change a service whose requests run once leaves it as it is.
use Rattle.std.proofs.Common.{ℕ, ◌≡◌, ◌==◌, ◌||◌, Bool, false, true, List, Option, None, Some, ap, length, nat_eq, nat_le, refl}
use Rattle.std.specs.Prelude.{is_some}
use Rattle.std.proofs.lemmas.Bool.{true≢false}
use Rattle.std.specs.Map.{lookup}
use Rattle.bt_frame.specs.Services.{IsNoRequest}
use Rattle.bt_frame.specs.declared.arrival.Arrival.{Arrival}
use Rattle.bt_frame.specs.declared.arrival.Arrival.TheVariants.{CutOff, Frame, NoFrame, TooLong}
use Rattle.bt_durable.specs.Once.{Known, OnceRequest, OnceState, known_in, known_kind, most_known, noted, noted_unless, of_frame, of_other_frame, once_after, once_changes}
use Rattle.bt_durable.specs.Once.{once_kind, passed, request_in, run_known, run_once, sum_of}

noted_unless_leaves : {S : Type 0} (state : OnceState S) (entry : ℕ × Known) (is_refused : Bool) → (noted_unless state entry is_refused).2 ≡ false
    → (noted_unless state entry is_refused).0 ≡ state
noted_unless_leaves state entry true is = refl
noted_unless_leaves state entry false is = absurd (true≢false is)

noted_leaves : {S : Type 0} (state : OnceState S) (entry : Option (ℕ × Known)) → (noted state entry).2 ≡ false → (noted state entry).0 ≡ state
noted_leaves state None is = refl
noted_leaves state (Some entry) is = noted_unless_leaves state entry (nat_le most_known (length state.1) || is_some (lookup (nat_eq entry.0) state.1)) is

module _ {S : Type 0} (after : S → Arrival → List ℕ → S) (reply : S → Arrival → List ℕ → ℕ × List ℕ) (changes : S → Arrival → List ℕ → Bool) where
  known_leaves : (state : OnceState S) (sum : ℕ) (request : OnceRequest) (known : Option Known) → (run_known after reply state sum request known).2 ≡ false
      → (run_known after reply state sum request known).0 ≡ state
  known_leaves state sum request None is = absurd (true≢false is)
  known_leaves state sum request (Some known) is = refl

  run_leaves : (state : OnceState S) (sum : ℕ) (request : Option OnceRequest) → (run_once after reply state sum request).2 ≡ false
      → (run_once after reply state sum request).0 ≡ state
  run_leaves state sum None is = refl
  run_leaves state sum (Some request) is = known_leaves state sum request (lookup (nat_eq request.0) state.1) is

  module _ (same : (service : S) (arrival : Arrival) (payload : List ℕ) → changes service arrival payload ≡ false → after service arrival payload ≡ service) where
    passed_leaves : (state : OnceState S) (arrival : Arrival) (payload : List ℕ) → (passed after reply changes state arrival payload).2 ≡ false
        → (passed after reply changes state arrival payload).0 ≡ state
    passed_leaves state arrival payload is = ap (λ (service : S). (service, state.1)) (same state.0 arrival payload is)

    other_frame_leaves : (state : OnceState S) (kind : ℕ) (payload : List ℕ) (is_known : Bool) → (of_other_frame after reply changes state kind payload is_known).2 ≡ false
        → (of_other_frame after reply changes state kind payload is_known).0 ≡ state
    other_frame_leaves state kind payload true is = noted_leaves state (known_in payload) is
    other_frame_leaves state kind payload false is = passed_leaves state (Frame kind) payload is

    frame_leaves : (state : OnceState S) (kind : ℕ) (payload : List ℕ) (is_once : Bool) → (of_frame after reply changes state kind payload is_once).2 ≡ false
        → (of_frame after reply changes state kind payload is_once).0 ≡ state
    frame_leaves state kind payload true is = run_leaves state (sum_of payload) (request_in payload) is
    frame_leaves state kind payload false is = other_frame_leaves state kind payload (kind == known_kind) is

    pub once_leaves : (state : OnceState S) (arrival : Arrival) (payload : List ℕ) → once_changes after reply changes state arrival payload ≡ false
        → once_after after reply changes state arrival payload ≡ state
    once_leaves state (Frame kind) payload is = frame_leaves state kind payload (kind == once_kind) is
    once_leaves state TooLong payload is = passed_leaves state TooLong payload is
    once_leaves state NoFrame payload is = passed_leaves state NoFrame payload is
    once_leaves state CutOff payload is = passed_leaves state CutOff payload is

  -- what is no request may not change it
  pub others_leave : ((service : S) (arrival : Arrival) (payload : List ℕ) → IsNoRequest arrival → changes service arrival payload ≡ false)
      → (state : OnceState S) (arrival : Arrival) (payload : List ℕ) → IsNoRequest arrival → once_changes after reply changes state arrival payload ≡ false
  others_leave idle state (Frame kind) payload other = absurd other
  others_leave idle state TooLong payload other = idle state.0 TooLong payload other
  others_leave idle state NoFrame payload other = idle state.0 NoFrame payload other
  others_leave idle state CutOff payload other = idle state.0 CutOff payload other
