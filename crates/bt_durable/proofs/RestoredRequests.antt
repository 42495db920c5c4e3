-- What is known of requests is noted again by the requests of its entries.
use Rattle.std.proofs.Common.{◌≡◌, ◌∙◌, ℕ, ◌+◌, ◌<◌, ◌≤◌, ◌||◌, Bool, true, false, List, [], ◌∷◌, ◌++◌, None, Some}
use Rattle.std.proofs.Common.{ap, append-nil, append_assoc, arith, length, length-append, nat_eq, nat_le, refl, sym}
use Rattle.std.proofs.lemmas.Bool.{eq-eqb, eqb-true, lt-leb, true≢false}
use Rattle.std.specs.List.{AllByRecursion, IsDistinct}
use Rattle.std.specs.Map.{keys_of, lookup}
use Rattle.std.specs.Prelude.{is_some}
use Rattle.bt_frame.specs.Frames.{arrivals, frame}
use Rattle.bt_frame.specs.Services.{AddsRestore, after_arrivals, restore_kind}
use Rattle.bt_frame.specs.declared.arrival.Arrival.{Arrival}
use Rattle.bt_frame.specs.declared.arrival.Arrival.TheVariants.{Frame}
use Rattle.bt_frame.proofs.offered.Arrivals.{nothing_arrives, sent_arrives}
use Rattle.bt_durable.specs.Once.{AreKept, Known, OnceState, known_frames, known_in, known_kind, known_payload, known_requests, most_known, noted, noted_unless, once_after, once_reply}
use Rattle.bt_durable.specs.Payloads.{after_payload, no_limit}

-- the frames of entries arrive, and then what follows them
frames_arrive : (entries : List (ℕ × Known)) (rest : List ℕ) → AreKept entries → arrivals no_limit (known_frames entries ++ rest) ≡ known_requests entries ++ arrivals no_limit rest
frames_arrive [] rest kept = refl
frames_arrive (entry ∷ entries) rest kept =
    ap (arrivals no_limit) (append_assoc (frame known_kind (known_payload entry)) (known_frames entries) rest)
    ∙ sent_arrives no_limit known_kind (known_payload entry) (omega (arith, kept.1)) (omega arith) (known_frames entries ++ rest) (λ e. absurd (cc))
    ∙ ap (λ (l : List (Arrival × List ℕ)). (Frame known_kind, known_payload entry) ∷ l) (frames_arrive entries rest kept.2)

-- none of the entries has an id that is known
abbrev AreFree : List (ℕ × Known) → List (ℕ × Known) → Type 0
AreFree known entries = AllByRecursion (λ entry. lookup (nat_eq entry.0) known ≡ None) entries

nothing_known : (entries : List (ℕ × Known)) → AreFree [] entries
nothing_known [] = tt
nothing_known (entry ∷ entries) = (refl, nothing_known entries)

one_more : (test : ℕ → Bool) (known : List (ℕ × Known)) (entry : ℕ × Known) → lookup test known ≡ None → test entry.0 ≡ false → lookup test (known ++ entry ∷ []) ≡ None
one_more test [] entry none other = rw other refl
one_more test (first ∷ more) entry none other = (elim (test first.0) as (λ (b : Bool). test first.0 ≡ b → lookup test ((first ∷ more) ++ entry ∷ []) ≡ None) [
  | true ↦ λ b. let none' = rw b at none in cc
  | false ↦ λ b. rw b (one_more test more entry (rw b at none) other)
]) refl

other_id : (a b : ℕ) → nat_eq a b ≡ false → nat_eq b a ≡ false
other_id a b is = (elim (nat_eq b a) as (λ (t : Bool). nat_eq b a ≡ t → nat_eq b a ≡ false) [
  | true ↦ λ t. absurd (true≢false (sym (eq-eqb a b (sym (eqb-true b a t))) ∙ is))
  | false ↦ λ t. t
]) refl

still_free : (known : List (ℕ × Known)) (entry : ℕ × Known) (entries : List (ℕ × Known)) → AreFree known entries → AllByRecursion (λ id. nat_eq entry.0 id ≡ false) (keys_of entries)
    → AreFree (known ++ entry ∷ []) entries
still_free known entry [] free apart = tt
still_free known entry (first ∷ more) free apart =
    (one_more (nat_eq first.0) known entry free.0 (other_id entry.0 first.0 apart.0), still_free known entry more free.1 apart.1)

module _ {S : Type 0} (after : S → Arrival → List ℕ → S) (reply : S → Arrival → List ℕ → ℕ × List ℕ) (changes : S → Arrival → List ℕ → Bool) where
  abbrev run : OnceState S → List (Arrival × List ℕ) → OnceState S
  run = after_arrivals (once_after after reply changes) (once_reply after reply changes)

  -- an entry is noted
  notes : (service : S) (known : List (ℕ × Known)) (entry : ℕ × Known) → known_in (known_payload entry) ≡ Some entry → lookup (nat_eq entry.0) known ≡ None → length known < most_known
      → once_after after reply changes (service, known) (Frame known_kind) (known_payload entry) ≡ (service, known ++ entry ∷ [])
  notes service known entry kept free room =
      let state : OnceState S = (service, known) in
      let few : nat_le most_known (length known) ≡ false = lt-leb most_known (length known) room in
      ap (λ found. (noted state found).0) kept
      ∙ ap (λ (b : Bool). (noted_unless state entry (b || is_some (lookup (nat_eq entry.0) known))).0) few
      ∙ ap (λ found. (noted_unless state entry (is_some found)).0) free

  notes_all : (service : S) (known entries : List (ℕ × Known)) (rest : List (Arrival × List ℕ)) → AreKept entries → AreFree known entries → IsDistinct nat_eq (keys_of entries)
      → length known + length entries ≤ most_known → run (service, known) (known_requests entries ++ rest) ≡ run (service, known ++ entries) rest
  unfolding after_arrivals IsDistinct
  notes_all service known [] rest kept free apart room = ap (λ (l : List (ℕ × Known)). run (service, l) rest) (sym (append-nil known))
  notes_all service known (entry ∷ entries) rest kept free apart room =
      ap (λ (state : OnceState S). run state (known_requests entries ++ rest)) (notes service known entry kept.0 free.0 (omega (arith, room)))
      ∙ notes_all service (known ++ entry ∷ []) entries rest kept.2 (still_free known entry entries free.1 apart.0) apart.1 (omega (arith, room, length-append known (entry ∷ [])))
      ∙ ap (λ (l : List (ℕ × Known)). run (service, l) rest) (append_assoc known (entry ∷ []) entries)

  -- the frames of what is known, and of a request that restores the service, lead to both
  pub all_restored : (blank restored : S) (entries : List (ℕ × Known)) (frames all : List ℕ) → frames ≡ known_frames entries → AreKept entries → IsDistinct nat_eq (keys_of entries)
      → length entries ≤ most_known → AddsRestore after blank frames all restored
      → after_payload (once_after after reply changes) (once_reply after reply changes) (blank, []) all ≡ (restored, entries)
  unfolding after_arrivals
  all_restored blank restored entries frames all is kept apart room adds =
      let payload = adds.0 in
      let last = frame restore_kind payload in
      let one : arrivals no_limit last ≡ (Frame restore_kind, payload) ∷ [] =
      ap (arrivals no_limit) (sym (append-nil last))
      ∙ sent_arrives no_limit restore_kind payload (omega (arith, adds.2)) (omega arith) [] (λ e. refl)
      ∙ ap (λ (l : List (Arrival × List ℕ)). (Frame restore_kind, payload) ∷ l) (nothing_arrives no_limit) in
      let arrived : arrivals no_limit all ≡ known_requests entries ++ (Frame restore_kind, payload) ∷ [] =
      ap (arrivals no_limit) (adds.1 ∙ ap (λ (l : List ℕ). l ++ last) is) ∙ frames_arrive entries last kept
      ∙ ap (λ (l : List (Arrival × List ℕ)). known_requests entries ++ l) one in
      ap (run (blank, [])) arrived
      ∙ notes_all blank [] entries ((Frame restore_kind, payload) ∷ []) kept (nothing_known entries) apart (omega (arith, room))
      ∙ ap (λ (service : S). (service, entries)) adds.3
