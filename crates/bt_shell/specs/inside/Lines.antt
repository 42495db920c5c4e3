-- Lines that are written one by one, or in parts.
use Rattle.std.proofs.Common.{◌≡◌, ◌∙◌, ℕ, ◌+◌, List, [], ◌++◌, append_assoc, append-nil, ap, arith, fold}
use Rattle.bt_read.specs.Folds.{joined_as_one}

-- lines and their number, with one more
abbrev pub with_line : {T : Type 0} → (T → List ℕ) → List ℕ × ℕ → T → List ℕ × ℕ
with_line line lines item = (lines.0 ++ line item, lines.1 + 1)

-- lines and their number, followed by others
abbrev pub with_lines : List ℕ × ℕ → List ℕ × ℕ → List ℕ × ℕ
with_lines lines following = (lines.0 ++ following.0, lines.1 + following.1)

lines_assoc : (a b c : List ℕ × ℕ) → with_lines (with_lines a b) c ≡ with_lines a (with_lines b c)
lines_assoc a b c =
    let count : a.1 + b.1 + c.1 ≡ a.1 + (b.1 + c.1) = omega arith in
    ap (λ text. (text, a.1 + b.1 + c.1)) (append_assoc a.0 b.0 c.0) ∙ ap (λ n. (a.0 ++ (b.0 ++ c.0), n)) count

lines_unit : (a : List ℕ × ℕ) → with_lines a ([], 0) ≡ a
lines_unit a =
    let count : a.1 + 0 ≡ a.1 = omega arith in
    ap (λ text. (text, a.1 + 0)) (append-nil a.0) ∙ ap (λ n. (a.0, n)) count

-- lines in two parts are lines in one
pub lines_as_one : {T : Type 0} (line : T → List ℕ) (lines : List ℕ × ℕ) (items following : List T) →
    with_lines (fold (with_line line) lines items) (fold (with_line line) ([], 0) following) ≡ fold (with_line line) lines (items ++ following)
lines_as_one line lines items following = joined_as_one with_lines (λ item. (line item, 1)) ([], 0) lines_assoc lines_unit lines items following
