-- A request that ran is known for as long as fewer requests than can be known have run since.
use Rattle.std.proofs.Common.{◌≡◌, ◌∙◌, ℕ, zero, suc, ◌+◌, ◌-◌, ◌<◌, ◌≤◌, ◌==◌, ◌++◌, ◌||◌, Bool, true, false, codes, List, [], ◌∷◌, Option, None, Some}
use Rattle.std.proofs.Common.{ap, arith, if◌then◌else◌, length, nat_eq, nat_le, refl, subst, sym, take}
use Rattle.std.specs.Prelude.{is_some}
use Rattle.std.proofs.lemmas.Bool.{eq-eqb, eqb-true}
use Rattle.std.specs.Map.{lookup}
use Rattle.bt_frame.specs.Services.{after_arrivals}
use Rattle.bt_frame.specs.declared.arrival.Arrival.{Arrival}
use Rattle.bt_frame.specs.declared.arrival.Arrival.TheVariants.{CutOff, Frame, NoFrame, TooLong}
use Rattle.bt_durable.specs.Once.{Exchange, Known, OnceRequest, OnceState, RequestsRunOnce, exchanged, known_in, known_kind, most_known, noted, noted_unless}
use Rattle.bt_durable.specs.Once.{of_frame, of_other_frame, once_after, once_kind, once_reply, request_in, run_first, run_known, run_once, sum_of}

module _ {V : Type 0} (test : ℕ → Bool) (value : V) where
  -- what is found among the first entries is found
  found : (n : ℕ) (known : List (ℕ × V)) → lookup test (take n known) ≡ Some value → lookup test known ≡ Some value
  found zero known is = cc
  found (suc n) [] is = is
  found (suc n) (first ∷ more) is = (elim (test first.0) as (λ (b : Bool). test first.0 ≡ b → lookup test (first ∷ more) ≡ Some value) [
    | true ↦ λ b. rw b (rw b at is)
    | false ↦ λ b. rw b (found n more (rw b at is))
  ]) refl

  -- also among one more of them
  found_more : (n : ℕ) (known : List (ℕ × V)) → lookup test (take n known) ≡ Some value → lookup test (take (suc n) known) ≡ Some value
  found_more zero known is = cc
  found_more (suc n) [] is = is
  found_more (suc n) (first ∷ more) is = (elim (test first.0) as (λ (b : Bool). test first.0 ≡ b → lookup test (take (suc (suc n)) (first ∷ more)) ≡ Some value) [
    | true ↦ λ b. rw b (rw b at is)
    | false ↦ λ b. rw b (found_more n more (rw b at is))
  ]) refl

  -- also if at least that many are kept
  found_kept : (n most : ℕ) (known : List (ℕ × V)) → n ≤ most → lookup test (take n known) ≡ Some value → lookup test (take n (take most known)) ≡ Some value
  found_kept zero most known fits is = cc
  found_kept (suc n) zero known fits is = let no : ⊥ = omega (arith, fits) in absurd no
  found_kept (suc n) (suc most) [] fits is = is
  found_kept (suc n) (suc most) (first ∷ more) fits is =
      (elim (test first.0) as (λ (b : Bool). test first.0 ≡ b → lookup test (take (suc n) (take (suc most) (first ∷ more))) ≡ Some value) [
        | true ↦ λ b. rw b (rw b at is)
        | false ↦ λ b. rw b (found_kept n most more (omega (arith, fits)) (rw b at is))
      ]) refl

  -- also with more entries after them
  found_before : (n : ℕ) (known more : List (ℕ × V)) → lookup test (take n known) ≡ Some value → lookup test (take n (known ++ more)) ≡ Some value
  found_before zero known more is = cc
  found_before (suc n) [] more is = cc
  found_before (suc n) (first ∷ rest) more is = (elim (test first.0) as (λ (b : Bool). test first.0 ≡ b → lookup test (take (suc n) (first ∷ (rest ++ more))) ≡ Some value) [
    | true ↦ λ b. rw b (rw b at is)
    | false ↦ λ b. rw b (found_before n rest more (rw b at is))
  ]) refl

-- after another request, which was not known
found_after : (id other n most : ℕ) (entry value : Known) (known : List (ℕ × Known)) → n ≤ most → lookup (nat_eq other) known ≡ None → lookup (nat_eq id) (take n known) ≡ Some value
    → lookup (nat_eq id) (take (suc n) ((other, entry) ∷ take most known)) ≡ Some value
found_after id other n most entry value known fits new is =
    (elim (nat_eq id other) as (λ (b : Bool). nat_eq id other ≡ b → lookup (nat_eq id) (take (suc n) ((other, entry) ∷ take most known)) ≡ Some value) [
      | true ↦ λ b. let same = eqb-true id other b in
          let there = found (nat_eq id) value n known is in
          let none = rw (sym same) at new in cc
      | false ↦ λ b. rw b (found_kept (nat_eq id) value n most known fits is)
    ]) refl

module _ {S : Type 0} (after : S → Arrival → List ℕ → S) (reply : S → Arrival → List ℕ → ℕ × List ℕ) (changes : S → Arrival → List ℕ → Bool) (id : ℕ) (value : Known) where
  -- among the last requests that ran, this many, the one with the id is known
  abbrev IsKnown : ℕ → OnceState S → Type 0
  IsKnown n state = lookup (nat_eq id) (take n state.1) ≡ Some value

  after_known : (n : ℕ) (state : OnceState S) (sum : ℕ) (request : OnceRequest) (known : Option Known) → n < most_known → lookup (nat_eq request.0) state.1 ≡ known → IsKnown n state
      → IsKnown (suc n) (run_known after reply state sum request known).0
  after_known n state sum request None fits new is = found_after id request.0 n (most_known - 1) _ value state.1 (omega (arith, fits)) new is
  after_known n state sum request (Some known) fits there is = found_more (nat_eq id) value n state.1 is

  after_once : (n : ℕ) (state : OnceState S) (sum : ℕ) (request : Option OnceRequest) → n < most_known → IsKnown n state → IsKnown (suc n) (run_once after reply state sum request).0
  after_once n state sum None fits is = found_more (nat_eq id) value n state.1 is
  after_once n state sum (Some request) fits is = after_known n state sum request (lookup (nat_eq request.0) state.1) fits refl is

  after_noted_unless : (n : ℕ) (state : OnceState S) (entry : ℕ × Known) (is_refused : Bool) → IsKnown n state → IsKnown (suc n) (noted_unless state entry is_refused).0
  after_noted_unless n state entry true is = found_more (nat_eq id) value n state.1 is
  after_noted_unless n state entry false is =
      found_more (nat_eq id) value n (state.1 ++ entry ∷ []) (found_before (nat_eq id) value n state.1 (entry ∷ []) is)

  after_noted : (n : ℕ) (state : OnceState S) (entry : Option (ℕ × Known)) → IsKnown n state → IsKnown (suc n) (noted state entry).0
  after_noted n state None is = found_more (nat_eq id) value n state.1 is
  after_noted n state (Some entry) is = after_noted_unless n state entry (nat_le most_known (length state.1) || is_some (lookup (nat_eq entry.0) state.1)) is

  after_other_frame : (n : ℕ) (state : OnceState S) (kind : ℕ) (payload : List ℕ) (is_known : Bool) → IsKnown n state
      → IsKnown (suc n) (of_other_frame after reply changes state kind payload is_known).0
  after_other_frame n state kind payload true is = after_noted n state (known_in payload) is
  after_other_frame n state kind payload false is = found_more (nat_eq id) value n state.1 is

  after_frame : (n : ℕ) (state : OnceState S) (kind : ℕ) (payload : List ℕ) (is_once : Bool) → n < most_known → IsKnown n state
      → IsKnown (suc n) (of_frame after reply changes state kind payload is_once).0
  after_frame n state kind payload true fits is = after_once n state (sum_of payload) (request_in payload) fits is
  after_frame n state kind payload false fits is = after_other_frame n state kind payload (kind == known_kind) is

  after_one : (n : ℕ) (state : OnceState S) (arrival : Arrival) (payload : List ℕ) → n < most_known → IsKnown n state → IsKnown (suc n) (once_after after reply changes state arrival payload)
  after_one n state (Frame kind) payload fits is = after_frame n state kind payload (kind == once_kind) fits is
  after_one n state TooLong payload fits is = found_more (nat_eq id) value n state.1 is
  after_one n state NoFrame payload fits is = found_more (nat_eq id) value n state.1 is
  after_one n state CutOff payload fits is = found_more (nat_eq id) value n state.1 is

  -- after all that arrived
  after_all : (n : ℕ) (state : OnceState S) (arrived : List (Arrival × List ℕ)) → n + length arrived ≤ most_known → IsKnown n state
      → lookup (nat_eq id) (after_arrivals (once_after after reply changes) (once_reply after reply changes) state arrived).1 ≡ Some value
  unfolding after_arrivals
  after_all n state [] fits is = found (nat_eq id) value n state.1 is
  after_all n state (first ∷ more) fits is =
      after_all (suc n) (once_after after reply changes state first.0 first.1) more (omega (arith, fits)) (after_one n state first.0 first.1 (omega (arith, fits)) is)

module _ {S : Type 0} (after : S → Arrival → List ℕ → S) (reply : S → Arrival → List ℕ → ℕ × List ℕ) (changes : S → Arrival → List ℕ → Bool) where
  abbrev later : OnceState S → List (Arrival × List ℕ) → OnceState S
  later state arrived = after_arrivals (once_after after reply changes) (once_reply after reply changes) state arrived

  -- what was asked is known, with this sum and this reply
  again : (state : OnceState S) (payload : List ℕ) (request : OnceRequest) (answer : ℕ × List ℕ) → request_in payload ≡ Some request
      → lookup (nat_eq request.0) state.1 ≡ Some (sum_of payload, answer.0, answer.1) → exchanged after reply changes state (Frame once_kind) payload ≡ (state, answer, false)
  again state payload request answer asked known =
      ap (run_once after reply state (sum_of payload)) asked ∙ ap (run_known after reply state (sum_of payload) request) known
      ∙ ap (λ (b : Bool). (state, if b then answer else (2, codes "RequestReused"), false)) (eq-eqb (sum_of payload) (sum_of payload) refl)

  -- a request that is not known runs
  runs : (state : OnceState S) (payload : List ℕ) (request : OnceRequest) → request_in payload ≡ Some request → lookup (nat_eq request.0) state.1 ≡ None
      → exchanged after reply changes state (Frame once_kind) payload ≡ run_first after reply state (sum_of payload) request
  runs state payload request asked new = ap (run_once after reply state (sum_of payload)) asked ∙ ap (run_known after reply state (sum_of payload) request) new

  -- it is the first that is known
  first_known : (id : ℕ) (value : Known) (known : List (ℕ × Known)) → lookup (nat_eq id) (take 1 ((id, value) ∷ known)) ≡ Some value
  first_known id value known = rw (eq-eqb id id refl) refl

  pub run_once_each : RequestsRunOnce after reply changes
  run_once_each state payload request arrived asked new few =
      let made = run_first after reply state (sum_of payload) request in
      let answer : Known = (sum_of payload, made.1.0, made.1.1) in
      let begin = first_known request.0 answer (take (most_known - 1) state.1) in
      let known = after_all after reply changes request.0 answer 1 made.0 arrived (omega (arith, few)) begin in
      subst (λ (e : Exchange S). exchanged after reply changes (later e.0 arrived) (Frame once_kind) payload ≡ (later e.0 arrived, e.1, false))
      (sym (runs state payload request asked new))
      (again (later made.0 arrived) payload request made.1 asked known)
