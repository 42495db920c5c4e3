-- Lines, written one after the other.
use Rattle.std.proofs.Common.{◌≡◌, ◌+◌, ℕ, List, [], ◌∷◌, ◌++◌, Result, Ok, Err, append_assoc, append-nil, fold, length, sym, ap, ◌∙◌, arith}
use Rattle.std.specs.Prelude.{flat_map}
use Rattle.bt_value.specs.declared.refusal.Refusal.{Refusal}
use Rattle.bt_value.specs.Results.{map_ok}
use Rattle.bt_shell.specs.inside.Lines.{with_line}
use Rattle.bt_shell.specs.Replies.{count_line}

module _ {T : Type 0} (line : T → List ℕ) where
  -- the lines of items after others, and the number of all lines
  lines_of : (text : List ℕ) (count : ℕ) (items : List T) → fold (with_line line) (text, count) items ≡ (text ++ flat_map line items, count + length items)
  lines_of text count [] = ap (λ xs. (xs, count)) (sym (append-nil text)) ∙ ap (λ n. (text ++ [], n)) (omega arith)
  lines_of text count (item ∷ items) =
      lines_of (text ++ line item) (count + 1) items
      ∙ ap (λ xs. (xs, count + 1 + length items)) (append_assoc text (line item) (flat_map line items))
      ∙ ap (λ n. (text ++ (line item ++ flat_map line items), n)) (omega arith)

  -- all lines and their number are the reply
  pub replied : (word : List ℕ) (answer : Result (List T) Refusal) (start lines : List ℕ × ℕ) (text : List ℕ) → start ≡ ([], 0) → map_ok (fold (with_line line) start) answer ≡ Ok lines
      → text ≡ lines.0 ++ count_line word lines.1 → map_ok (λ items. flat_map line items ++ count_line word (length items)) answer ≡ Ok text
  replied word (Ok items) start lines text none is said =
      let all : lines ≡ (flat_map line items, length items) = sym (ok is) ∙ ap (λ s. fold (with_line line) s items) none ∙ lines_of [] 0 items ∙ ap (λ n. (flat_map line items, n)) (omega arith) in
      ap Ok (ap (λ l. l.0 ++ count_line word l.1) (sym all) ∙ sym said)
    where
      ok : {a b : List ℕ × ℕ} → ◌≡◌ {A = Result (List ℕ × ℕ) Refusal} (Ok a) (Ok b) → a ≡ b
      ok is = cc
  replied word (Err refusal) start lines text none is said = cc

-- and a refusal stays one
pub refused : {A B C : Type 0} (f : A → B) (g : A → C) (answer : Result A Refusal) (refusal : Refusal) → map_ok f answer ≡ Err refusal → map_ok g answer ≡ Err refusal
refused f g (Ok value) refusal is = cc
refused {A} {B} {C} f g (Err other) refusal is = ap Err (err is)
  where
    err : {a b : Refusal} → ◌≡◌ {A = Result B Refusal} (Err a) (Err b) → a ≡ b
    err is = cc
