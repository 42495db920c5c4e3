use Rattle.std.proofs.Common.{◌≡◌, ◌++◌, ◌≤◌, ℕ, List, length, take, ◌∙◌, ap, arith}
use Rattle.std.specs.Prelude.{replicate}
use Rattle.std.proofs.lemmas.List.{take_all}
use Rattle.bt_journal.specs.Frames.{frame_size, frame_of}
use Rattle.bt_journal.proofs.FrontFrames.{length-frame_of}
use Rattle.bt_journal.proofs.journal.bytes_of_frame.Goals as goal

padded : (seed : ℕ) (payload frame bytes : List ℕ) (n m : ℕ) → frame ≡ frame_of seed payload → bytes ≡ take n frame ++ replicate m 0 → frame_size payload ≤ n
    → (more : ℕ) × (bytes ≡ frame_of seed payload ++ replicate more 0)
padded seed payload frame bytes n m is padded_is le =
    let size = ap (λ (l : List ℕ). length l) is ∙ length-frame_of seed payload in
    (m, padded_is ∙ ap (λ (l : List ℕ). l ++ replicate m 0) (take_all n frame (omega (arith, size, le)) ∙ is))

pub returns : goal.returns
returns c = padded c.args.seed c.args.payload.now c.in_ok-bytes.bytes.items _ _ _ c.in_ok-bytes.ensures c.in_ok-resize.ensures.items (omega arith)
