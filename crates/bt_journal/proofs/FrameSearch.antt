-- The search for a frame after the end of others.
use Rattle.std.proofs.Common.{◌≡◌, ℕ, zero, suc, ◌+◌, ◌%◌, ◌^◌, ◌<◌, true, false, List, [], ◌∷◌, ◌++◌, length, take, Option, Some, None, refl, ◌∙◌, ap, arith}
use Rattle.std.specs.Prelude.{◌||◌, is_some}
use Rattle.std.proofs.lemmas.Bool.{or_left, or_right, or_parts, true≢false}
use Rattle.bt_journal.specs.Frames.{payload_at}
use Rattle.bt_journal.specs.Files.{has_frame_after}
use Rattle.bt_journal.proofs.FrameLists.{none_of_front}

-- a frame that begins after the first byte, with the seed of its place
pub found_there : (seed : ℕ) (xs ys payload : List ℕ) → 0 < length xs → payload_at ((seed + length xs) % 2 ^ 64) ys ≡ Some payload → has_frame_after seed (xs ++ ys) ≡ true
unfolding has_frame_after
found_there seed [] ys payload some e = absurd (omega arith)
found_there seed (x ∷ []) ys payload some e =
    or_left (is_some (payload_at ((seed + 1) % 2 ^ 64) ys)) (has_frame_after ((seed + 1) % 2 ^ 64) ys) (ap (λ (o : Option (List ℕ)). is_some o) e)
found_there seed (x ∷ y ∷ zs) ys payload some e =
    let next = (seed + 1) % 2 ^ 64 in
    let at : (next + length (y ∷ zs)) % 2 ^ 64 ≡ (seed + length (x ∷ y ∷ zs)) % 2 ^ 64 = omega arith in
    or_right (is_some (payload_at next (y ∷ zs ++ ys))) (has_frame_after next (y ∷ zs ++ ys))
    (found_there next (y ∷ zs) ys payload (omega arith) (ap (λ (n : ℕ). payload_at n ys) at ∙ e))

-- a frame that is found in later bytes is found in all
pub found_later : (seed : ℕ) (xs ys : List ℕ) → 0 < length xs → has_frame_after ((seed + length xs) % 2 ^ 64) ys ≡ true → has_frame_after seed (xs ++ ys) ≡ true
unfolding has_frame_after
found_later seed [] ys some e = absurd (omega arith)
found_later seed (x ∷ []) ys some e = or_right (is_some (payload_at ((seed + 1) % 2 ^ 64) ys)) (has_frame_after ((seed + 1) % 2 ^ 64) ys) e
found_later seed (x ∷ y ∷ zs) ys some e =
    let next = (seed + 1) % 2 ^ 64 in
    let at : (next + length (y ∷ zs)) % 2 ^ 64 ≡ (seed + length (x ∷ y ∷ zs)) % 2 ^ 64 = omega arith in
    or_right (is_some (payload_at next (y ∷ zs ++ ys))) (has_frame_after next (y ∷ zs ++ ys))
    (found_later next (y ∷ zs) ys (omega arith) (ap (λ (n : ℕ). has_frame_after n ys) at ∙ e))

none_of_false : (o : Option (List ℕ)) → is_some o ≡ false → o ≡ None
none_of_false None e = refl
none_of_false (Some p) e = absurd (true≢false e)

-- no frame is found in a part of bytes in which none is found
pub none_in_front : (seed n : ℕ) (bytes : List ℕ) → has_frame_after seed bytes ≡ false → has_frame_after seed (take n bytes) ≡ false
unfolding has_frame_after
none_in_front seed zero bytes e = refl
none_in_front seed (suc n) [] e = refl
none_in_front seed (suc n) (b ∷ bytes) e =
    let next = (seed + 1) % 2 ^ 64 in
    let parts = or_parts (is_some (payload_at next bytes)) (has_frame_after next bytes) e in
    ap (λ (o : Option (List ℕ)). is_some o || has_frame_after next (take n bytes)) (none_of_front next n bytes (none_of_false (payload_at next bytes) parts.0))
    ∙ none_in_front next n bytes parts.1
