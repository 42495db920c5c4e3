-- A text in an array. Serves writing fields into it.
use Rattle.std.proofs.Common.{ℕ, List, ◌++◌, ◌+◌, ◌≤◌, ◌≡◌, ◌∙◌, sym, ap, arith, length, length-append, length-take, take, drop, append_assoc}
use Rattle.std.proofs.Math.Seq.{take-append_seam}
use Rattle.std.proofs.lemmas.List.{take-append-drop}

-- a text that was put at a place, with anything after it
pub put_at : (old new text rest : List ℕ) (at : ℕ) → take at new ≡ take at old → drop at new ≡ text ++ rest → at ≤ length new → take (at + length text) new ≡ take at old ++ text
put_at old new text rest at before written within =
    let split : take at new ++ (text ++ rest) ≡ new = ap (λ (t : List ℕ). take at new ++ t) (sym written) ∙ take-append-drop at new in
    let joined : (take at new ++ text) ++ rest ≡ new = append_assoc (take at new) text rest ∙ split in
    let long : length (take at new ++ text) ≡ at + length text = omega (arith, length-append (take at new) text, length-take at new) in
    ap (λ (n : ℕ). take n new) (sym long) ∙ ap (λ (t : List ℕ). take (length (take at new ++ text)) t) (sym joined) ∙ take-append_seam (take at new ++ text) rest
    ∙ ap (λ (t : List ℕ). t ++ text) before
