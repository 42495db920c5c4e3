-- Messages placed among sorted ones: they stay sorted, and the first one stays first. Proofs on lists of pending messages use these.
use Rattle.std.proofs.Common.{◌≡◌, ℕ, true, false, List, [], ◌∷◌, refl, ap, ◌∙◌, if◌then◌else◌}
use Rattle.bt_keycode.specs.Keys.{AllFrom, IsSorted, is_before}
use Rattle.bt_message.specs.Messages.{Messages, with_message, with_messages}
use Rattle.bt_keycode.proofs.offered.Order.{from_earlier, not_after}

module _ {M : Type 0} where
  all_from-with_message : (k : List ℕ) (m : List ℕ × M) (es : Messages M) → is_before m.0 k ≡ false → AllFrom k es → AllFrom k (with_message m es)
  all_from-with_message k m [] p h = (p, tt)
  all_from-with_message k m (e ∷ es) p h = elim (is_before m.0 e.0) as (λ t. AllFrom k (if t then m ∷ e ∷ es else e ∷ with_message m es)) [
    | true ↦ (p, h)
    | false ↦ (h.0, all_from-with_message k m es p h.1)
  ]

  sorted-with_message : (m : List ℕ × M) (es : Messages M) → IsSorted es → IsSorted (with_message m es)
  sorted-with_message m [] h = (tt, tt)
  sorted-with_message m (e ∷ es) h = elim (is_before m.0 e.0) as (λ t. is_before m.0 e.0 ≡ t → IsSorted (if t then m ∷ e ∷ es else e ∷ with_message m es)) [
    | true ↦ λ t. let later = not_after m.0 e.0 t in ((later, from_earlier m.0 e.0 es later h.0), h)
    | false ↦ λ t. (all_from-with_message e.0 m es t h.0, sorted-with_message m es h.1)
  ] refl

  -- placed messages stay sorted
  pub sorted-with_messages : (ms older : Messages M) → IsSorted older → IsSorted (with_messages ms older)
  sorted-with_messages [] older h = h
  sorted-with_messages (m ∷ ms) older h = sorted-with_messages ms (with_message m older) (sorted-with_message m older h)

  passes : (m e : List ℕ × M) (es : Messages M) → is_before m.0 e.0 ≡ false → with_message m (e ∷ es) ≡ e ∷ with_message m es
  passes m e es p = ap (λ t. if t then m ∷ e ∷ es else e ∷ with_message m es) p

  goes_first : (m e : List ℕ × M) (es : Messages M) → is_before m.0 e.0 ≡ true → with_message m (e ∷ es) ≡ m ∷ e ∷ es
  goes_first m e es p = ap (λ t. if t then m ∷ e ∷ es else e ∷ with_message m es) p

  -- a first message stays first if no new one goes before it
  pub first_stays : (e : List ℕ × M) (ms es : Messages M) → AllFrom e.0 ms → with_messages ms (e ∷ es) ≡ e ∷ with_messages ms es
  first_stays e [] es h = refl
  first_stays e (m ∷ ms) es h = ap (with_messages ms) (passes m e es h.0) ∙ first_stays e ms (with_message m es) h.1

  -- a new message before the first old one comes first, and the newer ones are placed among the others
  pub newer_first : (m e : List ℕ × M) (ms es : Messages M) → AllFrom m.0 ms → is_before m.0 e.0 ≡ true → with_messages (m ∷ ms) (e ∷ es) ≡ m ∷ with_messages ms (e ∷ es)
  newer_first m e ms es h p = ap (with_messages ms) (goes_first m e es p) ∙ first_stays m ms (e ∷ es) h

  pub newer_last : (m : List ℕ × M) (ms : Messages M) → AllFrom m.0 ms → with_messages (m ∷ ms) [] ≡ m ∷ with_messages ms []
  newer_last m ms h = first_stays m ms [] h

  -- sorted messages placed among none are themselves
  pub alone : (ms : Messages M) → IsSorted ms → with_messages ms [] ≡ ms
  alone [] h = refl
  alone (m ∷ ms) h = newer_last m ms h.0 ∙ ap (λ zs. m ∷ zs) (alone ms h.1)
