-- Rows shown up to a limit.
use Rattle.std.proofs.Common.{◌≡◌, ◌-◌, ℕ, zero, suc, List, [], ◌∷◌, arith, fold, length, take, refl, sym, ap, ◌∙◌}
use Rattle.std.proofs.Math.Seq.{take-length}
use Rattle.std.proofs.lemmas.List.{take_min}
use Rattle.std.specs.Prelude.{MatchOption, min}
use Rattle.std.specs.declared.option.Option.{Option}
use Rattle.std.specs.declared.option.Option.TheVariants.{None, Some}
use Rattle.bt_read.specs.inside.Limits.{first_rows, limited}

module _ {S R : Type 0} (visited : S → R → S) where
  none_at_zero : (s : S) (rows : List R) → fold (limited visited) (s, Some 0) rows ≡ (s, Some 0)
  none_at_zero s [] = refl
  none_at_zero s (r ∷ rs) = none_at_zero s rs

  -- none, if the limit is reached
  pub none_shown : (s : S) (limit : Option ℕ) (rows : List R) → limit ≡ Some 0 → fold (limited visited) (s, limit) rows ≡ (s, limit)
  none_shown s limit rows reached = ap (λ l. fold (limited visited) (s, l) rows) reached ∙ none_at_zero s rows ∙ ap (λ l. (s, l)) (sym reached)

  -- all, if there is no limit
  all_shown : (s : S) (rows : List R) → fold (limited visited) (s, None) rows ≡ (fold visited s rows, None)
  all_shown s [] = refl
  all_shown s (r ∷ rs) = all_shown (visited s r) rs

  -- otherwise the first ones
  first_shown : (s : S) (n : ℕ) (rows : List R) → fold (limited visited) (s, Some n) rows ≡ (fold visited s (take n rows), Some (n - length rows))
  first_shown s zero [] = refl
  first_shown s (suc n) [] = ap (λ m. (s, Some m)) (omega arith)
  first_shown s zero (r ∷ rs) = none_at_zero s rs ∙ ap (λ m. (s, Some m)) (omega arith)
  first_shown s (suc n) (r ∷ rs) = first_shown (visited s r) n rs ∙ ap (λ m. (fold visited (visited s r) (take n rs), Some m)) (omega arith)

  -- rows that are counted before they are shown
  pub counted_shown : (s shown : S) (limit left : Option ℕ) (count : ℕ) (rows : List R) →
      MatchOption limit ((count ≡ length rows) × (left ≡ None)) (λ n. (count ≡ min n (length rows)) × (left ≡ Some (n - length rows))) →
      shown ≡ fold visited s (take count rows) → (shown, left) ≡ fold (limited visited) (s, limit) rows
  counted_shown s shown None left count rows counted show =
      ap (λ l. (shown, l)) counted.1
      ∙ ap (λ x. (x, None)) (show ∙ ap (λ n. fold visited s (take n rows)) counted.0 ∙ ap (fold visited s) (take-length rows))
      ∙ sym (all_shown s rows)
  counted_shown s shown (Some n) left count rows counted show =
      ap (λ l. (shown, l)) counted.1
      ∙ ap (λ x. (x, Some (n - length rows))) (show ∙ ap (λ m. fold visited s (take m rows)) counted.0 ∙ ap (fold visited s) (take_min n rows))
      ∙ sym (first_shown s n rows)

  -- the rows shown are the first ones, as many as the limit allows
  pub first_rows_shown : (s shown : S) (limit left : Option ℕ) (rows : List R) → (shown, left) ≡ fold (limited visited) (s, limit) rows → shown ≡ fold visited s (first_rows limit rows)
  first_rows_shown s shown None left rows show = ap (λ x. x.0) (show ∙ all_shown s rows)
  first_rows_shown s shown (Some n) left rows show = ap (λ x. x.0) (show ∙ first_shown s n rows)
