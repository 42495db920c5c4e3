-- What a crash leaves of a file whose end is cut off.
use Rattle.std.proofs.Common.{◌≡◌, inr, ℕ, ◌+◌, ◌-◌, ◌≤◌, false, List, length, take, drop, Some, refl, sym, ◌∙◌, ap, subst, arith}
use Rattle.std.specs.Prelude.{replicate}
use Rattle.std.proofs.lemmas.List.{take-take, drop-take, drop-drop}
use Rattle.bt_journal.specs.Disks.{Cut}
use Rattle.bt_journal.specs.Frames.{seed_after, extent, Begins, IsFramed}
use Rattle.bt_journal.specs.Heads.{head_at, head_size, body_of}
use Rattle.bt_journal.specs.Files.{recovered, has_frame_after, is_damaged, Opens}
use Rattle.bt_journal.specs.declared.head.Head.{Head}
use Rattle.bt_journal.proofs.FrameLists.{FramesAndRest, divided, none_of_front, begins-take, begins-drop}
use Rattle.bt_journal.proofs.FrameSearch.{none_in_front}
use Rattle.bt_journal.proofs.HeadFrames.{head_in}
use Rattle.bt_journal.proofs.OpenFiles.{recovered-head, damaged-head, opens}

module _ (head : Head) (file : List ℕ) (is : head_at file ≡ Some head) (sound : is_damaged file ≡ false) where
  abbrev payloads : List (List ℕ)
  payloads = recovered file

  abbrev end : ℕ
  end = head_size + extent payloads

  parts : FramesAndRest head.salt payloads (body_of file)
  parts = subst (λ (ps : List (List ℕ)). FramesAndRest head.salt ps (body_of file)) (sym (recovered-head head file is)) (divided head.salt (body_of file))

  none_after : has_frame_after (seed_after head.salt payloads) parts.rest ≡ false
  none_after =
      sym (ap (has_frame_after (seed_after head.salt payloads)) (begins-drop head.salt payloads (body_of file) parts.rest parts.begins))
      ∙ sym (damaged-head head file is) ∙ sound

  -- the file cut after its frames, or further on
  module _ (n : ℕ) (le : end ≤ n) where
    abbrev more : ℕ
    more = n - end

    body_is : body_of (take n file) ≡ take (extent payloads + more) (body_of file)
    body_is =
        let sum : n ≡ head_size + (extent payloads + more) = omega (arith, le) in
        ap (λ (k : ℕ). drop head_size (take k file)) sum ∙ drop-take head_size (extent payloads + more) file

    pub cut_head : head_at (take n file) ≡ Some head
    cut_head = head_in head file (take n file) is (take-take head_size n file (omega (arith, le)))

    begins_cut : Begins head.salt payloads (body_of (take n file)) (take more parts.rest)
    begins_cut =
        subst (λ (l : List ℕ). Begins head.salt payloads l (take more parts.rest)) (sym body_is) (begins-take head.salt payloads (body_of file) parts.rest more parts.begins)

    opens_cut : Opens head payloads (take n file)
    opens_cut =
        let seed = seed_after head.salt payloads in
        opens head head.salt (take n file) cut_head payloads (take more parts.rest) begins_cut
        (none_of_front seed more parts.rest parts.nothing) (none_in_front seed more parts.rest none_after)

  -- a crash in the cut leaves the same payloads
  pub cut_opens : (c : List ℕ) → Cut end file c → Opens head payloads c
  cut_opens c cut = subst (Opens head payloads) cut.front (opens_cut (length c) cut.no_shorter)

  -- after the cut there are frames and no zeros
  pub cut_framed : IsFramed head.salt payloads (body_of (take end file))
  cut_framed =
      let none : end - end ≡ 0 = omega arith in
      (0, subst (λ (k : ℕ). Begins head.salt payloads (body_of (take end file)) (take k parts.rest)) none (begins_cut end (omega arith)))

  -- the file is opened as it is
  pub whole_opens : Opens head payloads file
  whole_opens = record { accepted = inr (head.salt, is); frames = refl; sound = sound }

  -- zeros that follow the frames remain
  pub clean_framed : (n zeros : ℕ) → n ≡ end → drop n file ≡ replicate zeros 0 → IsFramed head.salt payloads (body_of file)
  clean_framed n zeros is_end clean = (
    zeros,
    subst (λ (l : List ℕ). Begins head.salt payloads (body_of file) l)
        (sym (begins-drop head.salt payloads (body_of file) parts.rest parts.begins) ∙ drop-drop (extent payloads) head_size file ∙ ap (λ (k : ℕ). drop k file) (sym is_end) ∙ clean)
        parts.begins,
  )
