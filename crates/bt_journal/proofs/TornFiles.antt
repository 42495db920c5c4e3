-- What a crash leaves of a file to which a frame is written.
use Rattle.std.proofs.Common.{◌≡◌, ◌≢◌, ◌⊎◌, inl, inr, ℕ, ◌+◌, ◌-◌, ◌%◌, ◌^◌, ◌<◌, ◌≤◌, false, List, []}
use Rattle.std.proofs.Common.{◌∷◌, ◌++◌, length, take, drop, Some, None, sym, ◌∙◌, ap, subst, arith, append_assoc, length-drop, take-append-drop}
use Rattle.std.specs.Prelude.{replicate}
use Rattle.std.specs.Str.{bytes_eq}
use Rattle.std.proofs.lemmas.Bool.{cases_Bool, true≢false}
use Rattle.std.proofs.lemmas.List.{take_at, drop_at, take-take, drop-take, drop-drop, drop-replicate, replicate-append-replicate, length-take-le}
use Rattle.std.proofs.lemmas.Slice.Eq.{bytes_eq-Decides}
use Rattle.bt_journal.specs.Disks.{Torn, Holds}
use Rattle.bt_journal.specs.Frames.{frame_size, frame_of, next_seed, payload_at, seed_after, extent, Begins, IsFramed}
use Rattle.bt_journal.specs.Heads.{head_at, head_size, body_of}
use Rattle.bt_journal.specs.Files.{has_frame_after, IsBeforeOrAfter}
use Rattle.bt_journal.specs.declared.head.Head.{Head}
use Rattle.bt_journal.proofs.FrontFrames.{payload_at-front, front-frame_of, length-frame_of}
use Rattle.bt_journal.proofs.FrameLists.{payload_at-append, payload_at-long, payload_at_cases, begins-push, begins-length, begins-drop, begins_in, seed_after-append}
use Rattle.bt_journal.proofs.FrameSearch.{found_there, found_later}
use Rattle.bt_journal.proofs.HeadFrames.{head_long, head_in}
use Rattle.bt_journal.proofs.OpenFiles.{opens}

cases_bytes : (xs ys : List ℕ) → (xs ≡ ys) ⊎ (xs ≢ ys)
cases_bytes xs ys =
    let decides = bytes_eq-Decides xs ys in
    elim (cases_Bool (bytes_eq xs ys)) [ inl agree ↦ inl (decides.0 agree) | inr differ ↦ inr (λ same. let agree = decides.1 same in absurd (cc (agree, differ))) ]

pub seed_after-push : (seed : ℕ) (payloads : List (List ℕ)) (payload : List ℕ) → seed_after seed (payloads ++ payload ∷ []) ≡ next_seed (seed_after seed payloads) payload
unfolding seed_after
seed_after-push seed payloads payload = seed_after-append seed payloads (payload ∷ [])

-- bytes that begin with a frame, and in which no later frame is found
module _ (seed : ℕ) (payload tail : List ℕ) (passes : payload_at seed tail ≡ Some payload) (none_after : has_frame_after seed tail ≡ false) where
  abbrev front : List ℕ
  front = take (frame_size payload) tail

  abbrev rest : List ℕ
  rest = drop (frame_size payload) tail

  place : (seed + length front) % 2 ^ 64 ≡ next_seed seed payload
  unfolding next_seed
  place = ap (λ (n : ℕ). (seed + n) % 2 ^ 64) (length-take-le (frame_size payload) tail (payload_at-long seed payload tail passes))

  parts : front ++ rest ≡ tail
  parts = take-append-drop (frame_size payload) tail

  pub none_next : payload_at (next_seed seed payload) rest ≡ None
  none_next = elim (payload_at_cases (next_seed seed payload) rest) [
    | inl none ↦ none
    | inr found ↦
        let long = length-take-le (frame_size payload) tail (payload_at-long seed payload tail passes) in
        let there = found_there seed front rest found.0 (omega (arith, long)) (ap (λ (n : ℕ). payload_at n rest) place ∙ found.1) in
        absurd (true≢false (sym there ∙ ap (has_frame_after seed) parts ∙ none_after))
  ]

  pub none_later : has_frame_after (next_seed seed payload) rest ≡ false
  none_later = elim (cases_Bool (has_frame_after (next_seed seed payload) rest)) [
    | inl found ↦
        let long = length-take-le (frame_size payload) tail (payload_at-long seed payload tail passes) in
        let there = found_later seed front rest (omega (arith, long)) (ap (λ (n : ℕ). has_frame_after n rest) place ∙ found) in
        absurd (true≢false (sym there ∙ ap (has_frame_after seed) parts ∙ none_after))
    | inr none ↦ none
  ]

-- a file with a head and frames, whatever follows these
torn_tail : (head : Head) (payloads : List (List ℕ)) (payload c : List ℕ) → head_at c ≡ Some head → Begins head.salt payloads (body_of c) (drop (extent payloads) (body_of c))
    → IsBeforeOrAfter head payloads payload c
torn_tail head payloads payload c is begins =
    let salt = head.salt in
    let seed = seed_after salt payloads in
    let tail = drop (extent payloads) (body_of c) in
    elim (cases_Bool (has_frame_after seed tail)) [
      | inl found ↦ inr (inr (inr found))
      | inr none_after ↦ elim (payload_at_cases seed tail) [
        | inl none ↦ inl (opens head salt c is payloads tail begins none none_after)
        | inr found ↦ elim (cases_bytes found.0 payload) [
          | inr other ↦ inr (inr (inl (found.0, other, found.1)))
          | inl same ↦
              let passes = found.1 ∙ ap (λ (p : List ℕ). Some p) same in
              let next = sym (seed_after-push salt payloads payload) in
              let rest = drop (frame_size payload) tail in
              let none = subst (λ (n : ℕ). payload_at n rest ≡ None) next (none_next seed payload tail passes none_after) in
              let none_later' = subst (λ (n : ℕ). has_frame_after n rest ≡ false) next (none_later seed payload tail passes none_after) in
              inr (inl (opens head salt c is (payloads ++ payload ∷ []) rest (begins-push salt payloads payload (body_of c) tail begins passes) none none_later'))
        ]
      ]
    ]

-- a file of a head, frames and zeros
module _ (head : Head) (payloads : List (List ℕ)) (file : List ℕ) (is : head_at file ≡ Some head) (framed : IsFramed head.salt payloads (body_of file)) where
  abbrev end : ℕ
  end = head_size + extent payloads

  pub end_within : end ≤ length file
  end_within = omega (arith, head_long head file is, length-drop head_size file, begins-length head.salt payloads (body_of file) (replicate framed.0 0) framed.1)

  -- another file with the same bytes before the end has the same head and frames
  module _ (c : List ℕ) (before : take end c ≡ take end file) where
    head_is : head_at c ≡ Some head
    head_is = head_in head file c is (sym (take-take head_size end c (omega arith)) ∙ ap (take head_size) before ∙ take-take head_size end file (omega arith))

    begins : Begins head.salt payloads (body_of c) (drop (extent payloads) (body_of c))
    begins =
        begins_in head.salt payloads (body_of file) (replicate framed.0 0) (body_of c) framed.1
        (sym (drop-take head_size (extent payloads) c) ∙ ap (drop head_size) before ∙ drop-take head_size (extent payloads) file)

  pub torn_frame : (payload c : List ℕ) (n : ℕ) → Torn end n file c → IsBeforeOrAfter head payloads payload c
  torn_frame payload c n torn = torn_tail head payloads payload c (head_is c torn.before) (begins c torn.before)

  module _ (payload c : List ℕ) (more : ℕ) (seed_lt : seed_after head.salt payloads < 2 ^ 64) (size_lt : frame_size payload < 2 ^ 64) where
    abbrev frame : List ℕ
    frame = frame_of (seed_after head.salt payloads) payload

    abbrev bytes : List ℕ
    bytes = frame ++ replicate more 0

    module _ (holds : Holds file end bytes c) where
      abbrev after_write : List ℕ
      after_write = drop (end + length bytes) file

      joined : c ≡ take end file ++ (bytes ++ after_write)
      joined = holds ∙ append_assoc (take end file) bytes after_write

      before : take end c ≡ take end file
      before = ap (take end) joined ∙ take_at (take end file) (bytes ++ after_write) end (length-take-le end file end_within)

      zeros_after : after_write ≡ replicate (framed.0 - length bytes) 0
      zeros_after =
          sym (drop-drop (length bytes) end file) ∙ ap (drop (length bytes)) (sym (drop-drop (extent payloads) head_size file))
          ∙ ap (drop (length bytes)) (begins-drop head.salt payloads (body_of file) (replicate framed.0 0) framed.1)
          ∙ drop-replicate (length bytes) framed.0 0

      abbrev zeros : ℕ
      zeros = more + (framed.0 - length bytes)

      tail_is : drop (extent payloads) (body_of c) ≡ frame ++ replicate zeros 0
      tail_is =
          drop-drop (extent payloads) head_size c ∙ ap (drop end) joined ∙ drop_at (take end file) (bytes ++ after_write) end (length-take-le end file end_within)
          ∙ append_assoc frame (replicate more 0) after_write
          ∙ ap (λ (l : List ℕ). frame ++ (replicate more 0 ++ l)) zeros_after
          ∙ ap (λ (l : List ℕ). frame ++ l) (replicate-append-replicate more (framed.0 - length bytes) 0)

      found : payload_at (seed_after head.salt payloads) (frame ++ replicate zeros 0) ≡ Some payload
      found =
          let seed = seed_after head.salt payloads in
          payload_at-append seed payload frame (replicate zeros 0) (payload_at-front seed payload frame (front-frame_of seed payload seed_lt size_lt))

      rest_is : drop (frame_size payload) (drop (extent payloads) (body_of c)) ≡ replicate zeros 0
      rest_is = ap (drop (frame_size payload)) tail_is ∙ drop_at frame (replicate zeros 0) (frame_size payload) (length-frame_of (seed_after head.salt payloads) payload)

      pub written_head : head_at c ≡ Some head
      written_head = head_is c before

      pub written_frame : IsFramed head.salt (payloads ++ payload ∷ []) (body_of c)
      written_frame = (
        zeros,
        subst (λ (l : List ℕ). Begins head.salt (payloads ++ payload ∷ []) (body_of c) l) rest_is
            (begins-push head.salt payloads payload (body_of c) (drop (extent payloads) (body_of c)) (begins c before)
            (ap (payload_at (seed_after head.salt payloads)) tail_is ∙ found)),
      )
