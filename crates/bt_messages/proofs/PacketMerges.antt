-- Older and newer messages merged one by one, and packets appended to each other.
use Rattle.std.proofs.Common.{◌≡◌, ◌==◌, ℕ, ◌+◌, ◌<◌, ◌^◌, Bool, true, false, List, [], ◌∷◌, ◌++◌, append_assoc, length, refl, sym, ap, subst, ◌∙◌, Option, None, Some, true≢false, arith}
use Rattle.std.proofs.lemmas.List.{length-append}
use Rattle.std.specs.Option.{MatchOption}
use Rattle.bt_keycode.specs.Keys.{IsSorted, is_before}
use Rattle.bt_value.specs.Lists.{concatenation}
use Rattle.bt_message.specs.Messages.{Messages, with_messages}
use Rattle.bt_messages.specs.inside.Merges.{goes_before}
use Rattle.bt_messages.specs.inside.Runs.{AreRuns, AreSome, begins_before}
use Rattle.bt_messages.proofs.RunLists.{begun, concatenation-append, sorted_left}
use Rattle.bt_messages.proofs.offered.Placed.{first_stays, newer_first, newer_last, sorted-with_messages}
use Rattle.bt_messages.proofs.offered.Parts.{length-with_messages}

module _ {M : Type 0} where
  -- ---- the first of older and newer messages

  newer_popped : (o n left : Messages M) (m : List ℕ × M) → IsSorted n → goes_before n o ≡ true → n ≡ m ∷ left → with_messages n o ≡ m ∷ with_messages left o
  newer_popped [] n left m h b e = ap (λ z. with_messages z []) e ∙ newer_last m left (subst (IsSorted {X = M}) e h).0
  newer_popped (x ∷ o) n left m h b e =
      let first : is_before m.0 x.0 ≡ true = sym (ap (begins_before x.0) e) ∙ b in
      ap (λ z. with_messages z (x ∷ o)) e ∙ newer_first m x left o (subst (IsSorted {X = M}) e h).0 first

  none_newer : (o n : Messages M) → goes_before n o ≡ true → n ≡ [] → with_messages n o ≡ []
  none_newer [] n b e = ap (λ z. with_messages z []) e
  none_newer (x ∷ o) n b e = absurd (true≢false (sym b ∙ ap (begins_before x.0) e))

  -- the newer one is the first
  pub popped_newer : (r : Option (List ℕ × M)) (o n left : Messages M) → IsSorted n → goes_before n o ≡ true → MatchOption r ((n ≡ []) × (left ≡ [])) (λ m. n ≡ m ∷ left) →
      MatchOption r (with_messages n o ≡ []) (λ m. with_messages n o ≡ m ∷ with_messages left o)
  popped_newer None o n left h b e = none_newer o n b e.0
  popped_newer (Some m) o n left h b e = newer_popped o n left m h b e

  -- the older one is the first
  pub popped_older : (r : Option (List ℕ × M)) (o n left : Messages M) → IsSorted n → goes_before n o ≡ false → MatchOption r ((o ≡ []) × (left ≡ [])) (λ m. o ≡ m ∷ left) →
      MatchOption r (with_messages n o ≡ []) (λ m. with_messages n o ≡ m ∷ with_messages n left)
  popped_older None o n left h b e = absurd (true≢false (sym (ap (goes_before n) e.0) ∙ b))
  popped_older (Some m) o n left h b e = ap (with_messages n) e ∙ first_stays m n left (begun m.0 n h (sym (ap (goes_before n) e) ∙ b))

  -- ---- the pass over both

  -- that many messages are moved, and that many are left
  pub moved_count : (moved o n older newer : Messages M) → moved ++ with_messages n o ≡ with_messages newer older → length moved + (length o + length n) ≡ length older + length newer
  moved_count moved o n older newer e =
      omega (arith, ap length e, length-append moved (with_messages n o), length-with_messages n o, length-with_messages newer older)

  -- one message fewer is left
  pub fewer_left : (o n p q : Messages M) (m : List ℕ × M) → with_messages n o ≡ m ∷ with_messages q p → length p + length q < length o + length n
  fewer_left o n p q m e = omega (arith, ap length e, length-with_messages n o, length-with_messages q p)

  -- if there is an older message, one is left
  pub some_left : (o n : Messages M) → 0 < length o → with_messages n o ≡ [] → ⊥
  some_left o n l e = omega (arith, l, ap length e, length-with_messages n o)

  -- what is moved is sorted
  pub moved_sorted : (moved o n older newer : Messages M) → moved ++ with_messages n o ≡ with_messages newer older → IsSorted older → IsSorted moved
  moved_sorted moved o n older newer e h = sorted_left moved (with_messages n o) (subst (IsSorted {X = M}) (sym e) (sorted-with_messages newer older h))

  -- ---- packets appended to each other

  pub some-append : (rs qs : List (Messages M)) → AreSome rs → AreSome qs → AreSome (rs ++ qs)
  some-append [] qs h k = k
  some-append (r ∷ rs) qs h k = (h.0, some-append rs qs h.1 k)

  -- the messages of a packet with the lists of another one after its own
  pub whole-append : (a : Messages M) {b whole : Messages M} (rs qs : List (Messages M)) {new : List (Messages M)} → a ++ concatenation rs ≡ whole → concatenation qs ≡ b → new ≡ rs ++ qs →
      a ++ concatenation new ≡ whole ++ b
  whole-append a {b} rs qs w e is =
      ap (λ z. a ++ concatenation z) is ∙ ap (λ z. a ++ z) (concatenation-append rs qs) ∙ sym (append_assoc a (concatenation rs) (concatenation qs))
      ∙ ap (λ z. (a ++ concatenation rs) ++ z) e ∙ ap (λ z. z ++ b) w

  -- its runs
  pub runs-append : {a : Messages M} {rs : List (Messages M)} (qs : List (Messages M)) {new : List (Messages M)} {n k : ℕ} → AreRuns a rs n → AreSome qs → new ≡ rs ++ qs →
      IsSorted (a ++ concatenation new) → k ≡ n + length (concatenation qs) → k < 2 ^ 63 → AreRuns a new k
  runs-append {a} {rs} qs {new} h s is sorted count bound =
      let all = whole-append a rs qs {new = new} refl refl is in
      record {
        some = subst (AreSome {X = List ℕ × M}) (sym is) (some-append rs qs h.some s);
        sorted = sorted;
        count = omega (arith, count, h.count, ap length all, length-append (a ++ concatenation rs) (concatenation qs));
        bound = bound;
      }

  pub some_first : (r : Messages M) (empty : Bool) (rs new : List (Messages M)) → empty ≡ (length r == 0) → empty ≡ false → AreSome rs → new ≡ r ∷ rs → AreSome new
  some_first [] empty rs new e f h l = absurd (true≢false (sym e ∙ f))
  some_first (m ∷ r) empty rs new e f h l = subst (AreSome {X = List ℕ × M}) (sym l) (omega arith, h)

  -- what is left of older and newer messages may follow what is merged
  pub older_after : (p o n q older newer : Messages M) → p ++ (o ++ n) ≡ with_messages newer older → IsSorted older → q ≡ o → IsSorted (p ++ q)
  older_after p o n q older newer e h f =
      let whole : (p ++ q) ++ n ≡ with_messages newer older = ap (λ z. (p ++ z) ++ n) f ∙ append_assoc p o n ∙ e in
      sorted_left (p ++ q) n (subst (IsSorted {X = M}) (sym whole) (sorted-with_messages newer older h))

  pub newer_after : (p o n q t whole older newer : Messages M) → p ++ (o ++ n) ≡ with_messages newer older → IsSorted older → q ≡ o → whole ≡ p ++ q → t ≡ n → IsSorted (whole ++ t)
  newer_after p o n q t whole older newer e h f l k =
      let is : whole ++ t ≡ with_messages newer older = ap (λ z. whole ++ z) k ∙ ap (λ z. z ++ n) (l ∙ ap (λ z. p ++ z) f) ∙ append_assoc p o n ∙ e in
      subst (IsSorted {X = M}) (sym is) (sorted-with_messages newer older h)
