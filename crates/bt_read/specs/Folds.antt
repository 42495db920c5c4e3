-- Visitors that take rows in parts.
use Rattle.std.proofs.Common.{◌≡◌, ◌∙◌, List, [], ◌∷◌, ◌++◌, append_assoc, append-nil, ap, fold, refl, sym}
use Rattle.std.proofs.lemmas.List.Sums.{fold-append}

-- If joining rows is associative, taking rows in two parts gives the same as taking them in one.
module _ {S X : Type 0} (join : S → S → S) (one : X → S) (none : S) (assoc : (a b c : S) → join (join a b) c ≡ join a (join b c)) (unit : (a : S) → join a none ≡ a) where
  abbrev pub with_one : S → X → S
  with_one s x = join s (one x)

  joined_fold : (s w : S) (ys : List X) → join s (fold with_one w ys) ≡ fold with_one (join s w) ys
  joined_fold s w [] = refl
  joined_fold s w (y ∷ ys) = joined_fold s (join w (one y)) ys ∙ ap (λ z. fold with_one z ys) (sym (assoc s w (one y)))

  pub joined_as_one : (s : S) (xs ys : List X) → join (fold with_one s xs) (fold with_one none ys) ≡ fold with_one s (xs ++ ys)
  joined_as_one s xs ys = joined_fold (fold with_one s xs) none ys ∙ ap (λ z. fold with_one z ys) (unit (fold with_one s xs)) ∙ sym (fold-append with_one s xs ys)

-- copies of rows
pub copies_as_one : {X : Type 0} (copies rows following : List X)
    → fold (λ all row. all ++ row ∷ []) copies rows ++ fold (λ all row. all ++ row ∷ []) [] following ≡ fold (λ all row. all ++ row ∷ []) copies (rows ++ following)
copies_as_one {X} copies rows following = joined_as_one (λ (first second : List X). first ++ second) (λ x. x ∷ []) [] append_assoc append-nil copies rows following
