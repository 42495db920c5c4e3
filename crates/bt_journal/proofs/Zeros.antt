-- Zeros are no frame.
use Rattle.std.proofs.Common.{◌≡◌, inl, inr, ℕ, zero, suc, ◌+◌, ◌%◌, ◌^◌, ◌≤◌, false, List, Option, None, refl, ◌∙◌, ap, arith}
use Rattle.std.specs.Prelude.{◌||◌, is_some, replicate}
use Rattle.std.specs.Int.{w64, from_le_bytes}
use Rattle.std.proofs.lemmas.List.{take-replicate, length-replicate}
use Rattle.bt_journal.specs.Frames.{number_at, payload_at}
use Rattle.bt_journal.specs.Files.{has_frame_after}
use Rattle.bt_journal.proofs.FrontFrames.{front-payload_at}
use Rattle.bt_journal.proofs.FrameLists.{payload_at_cases}

number_at-zeros : (n : ℕ) → 16 ≤ n → number_at (replicate n 0) ≡ 0
unfolding number_at
number_at-zeros n le = ap (λ (l : List ℕ). from_le_bytes w64 l) (take-replicate 8 n 0 (omega (arith, le)))

pub none_of_zeros : (seed n : ℕ) → payload_at seed (replicate n 0) ≡ None
none_of_zeros seed n = elim (payload_at_cases seed (replicate n 0)) [
  | inl none ↦ none
  | inr found ↦
      let f = front-payload_at seed found.0 (replicate n 0) found.1 in
      let long : 16 ≤ n = omega (arith, f.long, length-replicate {A = ℕ} n 0) in
      absurd (omega (arith, f.size, number_at-zeros n long))
]

pub none_after_zeros : (seed n : ℕ) → has_frame_after seed (replicate n 0) ≡ false
unfolding has_frame_after
none_after_zeros seed zero = refl
none_after_zeros seed (suc n) =
    let next = (seed + 1) % 2 ^ 64 in
    ap (λ (o : Option (List ℕ)). is_some o || has_frame_after next (replicate n 0)) (none_of_zeros next n) ∙ none_after_zeros next n
