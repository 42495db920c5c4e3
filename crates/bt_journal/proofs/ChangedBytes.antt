-- Frames that are not what was written at their place.
use Rattle.std.proofs.Common.{◌≡◌, inl, inr, ℕ, ◌+◌, ◌%◌, ◌^◌, ◌<◌, List, [], ◌∷◌, ◌++◌, length, take, drop, Some, None, refl, sym, ◌∙◌, ap, subst, arith, append_assoc, length-append}
use Rattle.std.proofs.lemmas.List.{take_at, drop_at, take-append-le, drop-append-le}
use Rattle.std.specs.Int.{w64, to_le_bytes}
use Rattle.bt_journal.specs.Frames.{Begins, check_of, frame_of, frame_size, next_seed, number_at, payload_at, seed_after, extent}
use Rattle.bt_journal.specs.Heads.{body_of, head_at, head_size, next_salt}
use Rattle.bt_journal.specs.Files.{has_frame_after, is_damaged, recovered}
use Rattle.bt_journal.specs.Damage.{frame_with, IsWhole, IsChanged, DamageIsNoticed, DamageIsTold, SeedsTellFramesApart, SaltsAreNew}
use Rattle.bt_journal.specs.declared.head.Head.{Head}
use Rattle.bt_journal.proofs.FrontFrames.{IsFront, payload_at-front, front-append, front-frame_of, front-payload_at, number_at-to_le, check_lt}
use Rattle.bt_journal.proofs.FrameLists.{payload_at_cases, begins-append, begins-drop}
use Rattle.bt_journal.proofs.FrameSearch.{found_there}
use Rattle.bt_journal.proofs.HeadFrames.{head_long, head_in}
use Rattle.bt_journal.proofs.OpenFiles.{damaged-head, frames}
use Rattle.bt_journal.proofs.Sums.{same_length, one_check, one_seed}

-- bytes that begin with the size and the sum of a payload, and then have others of the same length
module _ (seed : ℕ) (payload other after : List ℕ) (seed_lt : seed < 2 ^ 64) (lt : frame_size payload < 2 ^ 64) (size : length other ≡ length payload) where
  abbrev size_bytes : List ℕ
  size_bytes = to_le_bytes w64 (frame_size payload)

  abbrev sum_bytes : List ℕ
  sum_bytes = to_le_bytes w64 (check_of seed payload)

  abbrev whole : List ℕ
  whole = frame_with seed payload other ++ after

  split : whole ≡ size_bytes ++ (sum_bytes ++ (other ++ after))
  split = append_assoc (size_bytes ++ sum_bytes) other after ∙ append_assoc size_bytes sum_bytes (other ++ after)

  -- what is found there, with any seed, is the other bytes, and its sum is that of the payload
  found_is : (test : ℕ) (found : List ℕ) → IsFront test found whole → (found ≡ other) × (check_of test other ≡ check_of seed payload)
  found_is test found f =
      let number = ap number_at split ∙ number_at-to_le (frame_size payload) (sum_bytes ++ (other ++ after)) lt in
      let long : length found ≡ length other = omega (arith, f.size, number, size) in
      let rest : drop 16 whole ≡ other ++ after = ap (λ (l : List ℕ). drop 16 l) (append_assoc (size_bytes ++ sum_bytes) other after) ∙ drop_at (size_bytes ++ sum_bytes) (other ++ after) 16 refl in
      let is : found ≡ other = sym f.body ∙ ap (λ (n : ℕ). take n (drop 16 whole)) long ∙ ap (λ (l : List ℕ). take (length other) l) rest ∙ take_at other after (length other) refl in
      let sum : number_at (drop 8 whole) ≡ check_of seed payload =
      ap (λ (l : List ℕ). number_at (drop 8 l)) split ∙ ap number_at (drop_at size_bytes (sum_bytes ++ (other ++ after)) 8 refl)
      ∙ number_at-to_le (check_of seed payload) (other ++ after) (check_lt seed payload seed_lt) in
      (is, sym (ap (check_of test) is) ∙ f.check ∙ sum)

pub seeds_tell_frames_apart : SeedsTellFramesApart
unfolding frame_of
seeds_tell_frames_apart seed other payload after ls lo differ lt = elim (payload_at_cases other (frame_of seed payload ++ after)) [
  | inl none ↦ none
  | inr found ↦
      let is = found_is seed payload payload after ls lt refl other found.0 (front-payload_at other found.0 _ found.1) in
      absurd (differ (sym (one_seed other seed payload lo ls is.1)))
]

pub salts_are_new : SaltsAreNew
unfolding next_salt
salts_are_new salt lt same = omega (arith, lt, same)

nothing_found : (seed : ℕ) (front back after : List ℕ) (was is : ℕ) → seed < 2 ^ 64 → IsChanged front back was is
    → payload_at seed (frame_with seed (front ++ was ∷ back) (front ++ is ∷ back) ++ after) ≡ None
nothing_found seed front back after was is seed_lt changed = elim (payload_at_cases seed (frame_with seed (front ++ was ∷ back) (front ++ is ∷ back) ++ after)) [
  | inl none ↦ none
  | inr found ↦
      let test = found_is seed (front ++ was ∷ back) (front ++ is ∷ back) after seed_lt changed.size (same_length front back is was) seed found.0 (front-payload_at seed found.0 _ found.1) in
      absurd (changed.other (sym (one_check seed front back is was changed.read changed.written test.1)))
]

next_seed_lt : (seed : ℕ) (payload : List ℕ) → next_seed seed payload < 2 ^ 64
unfolding next_seed
next_seed_lt seed payload = omega arith

seed_after_lt : (seed : ℕ) (payloads : List (List ℕ)) → seed < 2 ^ 64 → seed_after seed payloads < 2 ^ 64
unfolding seed_after
seed_after_lt seed [] lt = lt
seed_after_lt seed (p ∷ ps) lt = seed_after_lt (next_seed seed p) ps (next_seed_lt seed p)

-- a whole file, and bytes after it that begin with no frame
module _ (head : Head) (payloads : List (List ℕ)) (file rest : List ℕ) (w : IsWhole head payloads file) (none : payload_at (seed_after head.salt payloads) rest ≡ None) where
  head_is : head_at (file ++ rest) ≡ Some head
  head_is = head_in head file (file ++ rest) w.begin (take-append-le head_size file rest (head_long head file w.begin))

  begins : Begins head.salt payloads (body_of (file ++ rest)) rest
  begins =
      subst (λ (l : List ℕ). Begins head.salt payloads l rest) (sym (drop-append-le head_size file rest (head_long head file w.begin)))
      (begins-append head.salt payloads (body_of file) [] rest w.follow)

  frames_are : recovered (file ++ rest) ≡ payloads
  frames_are = frames head head.salt (file ++ rest) head_is payloads rest begins none

  damage_is : is_damaged (file ++ rest) ≡ has_frame_after (seed_after head.salt payloads) rest
  damage_is =
      damaged-head head (file ++ rest) head_is
      ∙ ap (λ (ps : List (List ℕ)). has_frame_after (seed_after head.salt ps) (drop (extent ps) (body_of (file ++ rest)))) frames_are
      ∙ ap (has_frame_after (seed_after head.salt payloads)) (begins-drop head.salt payloads (body_of (file ++ rest)) rest begins)

pub damage_is_noticed : DamageIsNoticed
damage_is_noticed head payloads file front back after was is w changed =
    let seed = seed_after head.salt payloads in
    let none = nothing_found seed front back after was is (seed_after_lt head.salt payloads w.fits) changed in
    frames_are head payloads file (frame_with seed (front ++ was ∷ back) (front ++ is ∷ back) ++ after) w none

-- the seed after a frame is that of its place
seed_there : (seed : ℕ) (payload : List ℕ) → next_seed seed payload ≡ (seed + frame_size payload) % 2 ^ 64
unfolding next_seed
seed_there seed payload = refl

pub damage_is_told : DamageIsTold
damage_is_told head payloads file front back next after was is w changed next_lt =
    let seed = seed_after head.salt payloads in
    let payload = front ++ was ∷ back in
    let broken = frame_with seed payload (front ++ is ∷ back) in
    let later = next_seed seed payload in
    let rest = frame_of later next ++ after in
    let none = nothing_found seed front back rest was is (seed_after_lt head.salt payloads w.fits) changed in
    let long : length broken ≡ frame_size payload =
    omega (arith, length-append (to_le_bytes w64 (frame_size payload) ++ to_le_bytes w64 (check_of seed payload)) (front ++ is ∷ back), same_length front back is was) in
    let place : (seed + length broken) % 2 ^ 64 ≡ later = ap (λ (n : ℕ). (seed + n) % 2 ^ 64) long ∙ sym (seed_there seed payload) in
    let found : payload_at ((seed + length broken) % 2 ^ 64) rest ≡ Some next =
    ap (λ (n : ℕ). payload_at n rest) place
    ∙ payload_at-front later next rest (front-append later next (frame_of later next) after (front-frame_of later next (next_seed_lt seed payload) next_lt)) in
    damage_is head payloads file (broken ++ rest) w none ∙ found_there seed broken rest next (omega (arith, long)) found
