-- A pass over children takes their shares from one stream.
use Rattle.std.proofs.Common.{◌≡◌, ◌≤◌, ℕ, Bool, true, false, List, [], ◌∷◌, ◌++◌, append_assoc, arith, drop, length, take, refl, subst, sym, ap, ◌∙◌}
use Rattle.std.proofs.lemmas.List.{drop-drop}
use Rattle.std.specs.List.{zip}
use Rattle.bt_message.specs.Meanings.{Meaning}
use Rattle.bt_messages.specs.Parts.{total}
use Rattle.bt_messages.specs.Shares.{AreShares, counts}
use Rattle.bt_message.specs.declared.message.Message.{Message}
use Rattle.bt_messages.specs.declared.share.Share.{Share}
use Rattle.bt_form.specs.declared.mode.Mode.{Mode}
use Rattle.bt_keycode.specs.Keys.{Key}
use Rattle.bt_form.specs.Children.{after_pivot}
use Rattle.bt_form.specs.Flushes.{Child, flush_in, flushed, none_pending, pivot_first}
use Rattle.bt_form.specs.Messages.{Messages, with_messages}
use Rattle.bt_form.specs.inside.Flushing.{AreReady, with_shares}
use Rattle.bt_form.specs.Trees.{Shape, Siblings}
use Rattle.bt_flush.proofs.lemmas.code.OpeningStep.{among, highest, pass}

module _ {X : Type 0} (n : ℕ) (ns shares : List ℕ) (ms stream : List X) (first : shares ≡ n ∷ ns) (left : ms ≡ drop n stream) where
  -- what the pass leaves of the stream
  same_left : (whole : List X) → drop (total shares) stream ≡ whole → drop (total ns) ms ≡ whole
  same_left whole kept = ap (drop (total ns)) left ∙ drop-drop (total ns) n stream ∙ sym (ap (λ ks. drop (total ks) stream) first) ∙ kept

-- the siblings of a flushed child, without pending messages
pub after_pivot-flushed : {V M : Type 0} (k : Key) (xs : Siblings V M) → after_pivot k [] xs ≡ none_pending (pivot_first k xs)
after_pivot-flushed k [] = refl
after_pivot-flushed k (x ∷ xs) = refl

module _ {V D : Type 0} (meaning : Meaning V (Message V D)) (mode : Mode) (s : Shape) (c : Child V (Message V D)) (cs all : List (Child V (Message V D))) (n : ℕ) (ns shares : List ℕ)
    (ms stream : Messages (Message V D)) (marks_left : List Bool) (child : all ≡ c ∷ cs) (share : shares ≡ n ∷ ns) (left : ms ≡ drop n stream) (done now : List (Child V (Message V D))) where
  -- the child with its share
  abbrev with_share : Child V (Message V D)
  with_share = record { pivot = c.pivot; tree = c.tree; pending = with_messages (take n stream) c.pending }

  abbrev rest : Messages (Message V D) → List (Child V (Message V D))
  rest zs = pass meaning mode s (zip (with_shares cs ns zs) marks_left)

  -- what replaces it, followed by the result for the others
  next : (part : List (Child V (Message V D))) (marks : List Bool) (m : Bool) → marks ≡ m ∷ marks_left → now ≡ done ++ part →
      done ++ (part ++ rest (drop n stream)) ≡ done ++ pass meaning mode s (zip (with_shares (c ∷ cs) (n ∷ ns) stream) (m ∷ marks_left)) →
      now ++ rest ms ≡ done ++ pass meaning mode s (zip (with_shares all shares stream) marks)
  next part marks m mark pushed same =
      ap (λ zs. zs ++ rest ms) pushed ∙ append_assoc done part (rest ms) ∙ ap (λ zs. done ++ (part ++ rest zs)) left ∙ same
      ∙ sym (ap (λ bs. done ++ pass meaning mode s (zip (with_shares all shares stream) bs)) mark
      ∙ ap (λ ks. done ++ pass meaning mode s (zip (with_shares all ks stream) (m ∷ marks_left))) share
      ∙ ap (λ ds. done ++ pass meaning mode s (zip (with_shares ds (n ∷ ns) stream) (m ∷ marks_left))) child)

  -- a child that is flushed
  one_flushed : (marks : List Bool) → marks ≡ true ∷ marks_left → now ≡ done ++ flushed (flush_in meaning mode s) with_share →
      now ++ rest ms ≡ done ++ pass meaning mode s (zip (with_shares all shares stream) marks)
  one_flushed marks mark pushed = next (flushed (flush_in meaning mode s) with_share) marks true mark pushed refl

  -- a child that takes its share
  one_kept : (marks : List Bool) → marks ≡ false ∷ marks_left → now ≡ done ++ with_share ∷ [] → now ++ rest ms ≡ done ++ pass meaning mode s (zip (with_shares all shares stream) marks)
  one_kept marks mark pushed = next (with_share ∷ []) marks false mark pushed refl

-- A pass over children with their shares and marks: what it has made so far, followed by what it makes of the others, is what is wanted, and what they leave
-- of the stream is what is left over.
pub record UnderWay {V D : Type 0} (meaning : Meaning V (Message V D)) (mode : Mode) (s : Shape) (wanted : List (Child V (Message V D))) (over : Messages (Message V D)) (bound : ℕ)
    (done cs : List (Child V (Message V D))) (those : List Share) (stream : Messages (Message V D)) (bs : List Bool) : Type 0 where
  pub parts : done ++ pass meaning mode s (zip (with_shares cs (counts those) stream) bs) ≡ wanted
  pub left : drop (total (counts those)) stream ≡ over
  pub weighed : AreShares meaning.weigh stream those
  pub ready : AreReady mode cs
  pub shares : length those ≡ length cs
  pub marks : length bs ≡ length cs
  pub no_higher : highest cs ≤ bound

module _ {V D : Type 0} {meaning : Meaning V (Message V D)} {mode : Mode} {s : Shape} {wanted done all cs : List (Child V (Message V D))} {over stream ms : Messages (Message V D)} {bound : ℕ}
    {those others : List Share} {bs marks_left : List Bool} {c : Child V (Message V D)} {share : Share} {m : Bool} (before : UnderWay meaning mode s wanted over bound done all those stream bs)
    (child : all ≡ c ∷ cs) (first : those ≡ share ∷ others) (mark : bs ≡ m ∷ marks_left) (rest_is : ms ≡ drop share.count stream) where
  stepped : (now : List (Child V (Message V D)))
      → now ++ pass meaning mode s (zip (with_shares cs (counts others) ms) marks_left)
      ≡ done ++ pass meaning mode s (zip (with_shares all (counts those) stream) bs) →
      UnderWay meaning mode s wanted over bound now cs others ms marks_left
  stepped now same = record {
    parts = same ∙ before.parts;
    left = same_left share.count (counts others) (counts those) ms stream (ap counts first) rest_is _ before.left;
    weighed = subst (λ zs. AreShares meaning.weigh zs others) (sym rest_is) (subst (AreShares meaning.weigh stream) first before.weighed).1;
    ready = (subst (AreReady mode) child before.ready).1;
    shares = omega (arith, ap length first, ap length child, before.shares);
    marks = omega (arith, ap length mark, ap length child, before.marks);
    no_higher = (among c cs all _ child before.no_higher).1;
  }

  abbrev given : Child V (Message V D)
  given = record { pivot = c.pivot; tree = c.tree; pending = with_messages (take share.count stream) c.pending }

  -- after one that was flushed
  pub after_flushed : m ≡ true → (now : List (Child V (Message V D))) → now ≡ done ++ flushed (flush_in meaning mode s) given → UnderWay meaning mode s wanted over bound now cs others ms marks_left
  after_flushed on now pushed =
      stepped now (one_flushed meaning mode s c cs all share.count (counts others) (counts those) ms stream marks_left child (ap counts first) rest_is done now
      bs (mark ∙ ap (λ b. b ∷ marks_left) on) pushed)

  -- after one that took its share
  pub after_kept : m ≡ false → (now : List (Child V (Message V D))) → now ≡ done ++ given ∷ [] → UnderWay meaning mode s wanted over bound now cs others ms marks_left
  after_kept off now pushed =
      stepped now (one_kept meaning mode s c cs all share.count (counts others) (counts those) ms stream marks_left child (ap counts first) rest_is done now bs
      (mark ∙ ap (λ b. b ∷ marks_left) off) pushed)
