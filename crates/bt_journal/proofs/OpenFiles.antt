-- Files that can be opened.
use Rattle.std.proofs.Common.{◌≡◌, inl, inr, ℕ, Bool, false, List, [], drop, Option, Some, None, refl, ◌∙◌, ap}
use Rattle.bt_journal.specs.Frames.{payload_at, all_at, seed_after, extent, Begins}
use Rattle.bt_journal.specs.Heads.{head_at, body_of}
use Rattle.bt_journal.specs.Files.{recovered, has_frame_after, is_damaged, Opens}
use Rattle.bt_journal.specs.declared.head.Head.{Head}
use Rattle.bt_journal.proofs.FrameLists.{all_at-end, begins-drop}

pub recovered-head : (head : Head) (file : List ℕ) → head_at file ≡ Some head → recovered file ≡ all_at head.salt (body_of file)
unfolding recovered
recovered-head head file e = ap (λ (o : Option Head). elim o as (λ _. List (List ℕ)) [ None ↦ [] | Some h ↦ all_at h.salt (body_of file) ]) e

pub recovered-none : (file : List ℕ) → head_at file ≡ None → recovered file ≡ []
unfolding recovered
recovered-none file e = ap (λ (o : Option Head). elim o as (λ _. List (List ℕ)) [ None ↦ [] | Some h ↦ all_at h.salt (body_of file) ]) e

pub damaged-head : (head : Head) (file : List ℕ) → head_at file ≡ Some head
    → is_damaged file ≡ has_frame_after (seed_after head.salt (recovered file)) (drop (extent (recovered file)) (body_of file))
unfolding is_damaged
damaged-head head file e =
    ap (λ (o : Option Head). elim o as (λ _. Bool) [
      | None ↦ false
      | Some h ↦ has_frame_after (seed_after h.salt (recovered file)) (drop (extent (recovered file)) (body_of file))
    ]) e

pub opens_empty : (head : Head) → Opens head [] []
unfolding recovered is_damaged head_at payload_at
opens_empty head = record { accepted = inl refl; frames = refl; sound = refl }

-- a file of a head, frames, and a rest in which there is none
module _ (head : Head) (salt : ℕ) (file : List ℕ) (is : head_at file ≡ Some (record { format = head.format; engine = head.engine; salt = salt })) (payloads : List (List ℕ)) (rest : List ℕ)
    (begins : Begins salt payloads (body_of file) rest) (none : payload_at (seed_after salt payloads) rest ≡ None) where
  pub frames : recovered file ≡ payloads
  frames = recovered-head (record { format = head.format; engine = head.engine; salt = salt }) file is ∙ all_at-end salt payloads (body_of file) rest begins none

  pub opens : has_frame_after (seed_after salt payloads) rest ≡ false → Opens head payloads file
  opens none_after = record {
    accepted = inr (salt, is);
    frames = frames;
    sound =
        damaged-head (record { format = head.format; engine = head.engine; salt = salt }) file is
        ∙ ap (λ (ps : List (List ℕ)). has_frame_after (seed_after salt ps) (drop (extent ps) (body_of file))) frames
        ∙ ap (has_frame_after (seed_after salt payloads)) (begins-drop salt payloads (body_of file) rest begins)
        ∙ none_after;
  }
