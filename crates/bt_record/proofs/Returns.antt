-- Whether a byte was found. Serves the search for a carriage return.
use Rattle.std.proofs.Common.{ℕ, List, ◌≡◌, ◌==◌, sym, arith, Option, Some, None, inl, inr, get_or}
use Rattle.std.proofs.lemmas.Bool.{cases_Bool}
use Rattle.std.proofs.lemmas.Grind.{get_or_default_zero}
use Rattle.std.proofs.lemmas.List.Folds.{list_any_at, list_any_none}
use Rattle.std.specs.List.{list_any}
use Rattle.std.specs.Prelude.{is_some}
use Rattle.memchr.specs.Find.{IsFirstByte, is_byte}

pub found_byte : (b : ℕ) (text : List ℕ) (found : Option ℕ) → IsFirstByte (is_byte b) text found → is_some found ≡ list_any (λ x. x == b) text
found_byte b text None nowhere = sym (list_any_none (λ x. x == b) text (λ k d within. elim (cases_Bool (get_or text k d == b)) [
  | inl is ↦ absurd (nowhere k (omega arith) within (rw (get_or_default_zero text k d within) at is))
  | inr other ↦ other
]))
found_byte b text (Some k) first = sym (list_any_at (λ x. x == b) text k 0 first.0.high first.1)
