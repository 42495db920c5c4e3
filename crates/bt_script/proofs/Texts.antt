-- The bytes of some lines, one by one. Serves the reading of a load's block.
use Rattle.std.proofs.Common.{ℕ, List, [], ◌∷◌, ◌++◌, ◌-◌, ◌≤◌, ◌≡◌, ◌∙◌, sym, ap, take, drop, length, arith, length-append, length-drop}
use Rattle.std.proofs.Math.Seq.{take-append_seam}
use Rattle.std.proofs.lemmas.List.{append_assoc}
use Rattle.bt_script.specs.Lines.{text_of_lines}

-- one more line, and what follows it
pub text-more : (block : List (List ℕ)) (line rest : List ℕ) → text_of_lines (block ++ line ∷ []) ++ rest ≡ text_of_lines block ++ (line ++ 10 ∷ rest)
unfolding text_of_lines
text-more [] line rest = append_assoc line (10 ∷ []) rest
text-more (first ∷ block) line rest =
    append_assoc first (10 ∷ text_of_lines (block ++ line ∷ [])) rest ∙ ap (λ (l : List ℕ). first ++ 10 ∷ l) (text-more block line rest)
    ∙ sym (append_assoc first (10 ∷ text_of_lines block) (line ++ 10 ∷ rest))

-- the text between two places
pub text-between : (script text : List ℕ) (start at : ℕ) → start ≤ at → at ≤ length script → drop start script ≡ text ++ drop at script → take (at - start) (drop start script) ≡ text
text-between script text start at order within is =
    let long : at - start ≡ length text = omega (arith, ap (length {A = ℕ}) is, length-append text (drop at script), length-drop start script, length-drop at script) in
    rw (is, long) (take-append_seam text (drop at script))
