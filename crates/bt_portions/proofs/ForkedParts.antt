-- Forks of a visitor after rows in parts.
use Rattle.std.proofs.Common.{◌≡◌, ◌∙◌, List, [], ◌∷◌, ◌++◌, append_assoc, append-nil, ap, fold, map, sym}
use Rattle.std.specs.List.{flat_map}

module _ {S X P : Type 0} (visited : S → X → S) (forked : S → S) (joined : S → S → S) (rows : P → List X) where
  -- taking rows in two parts is the same as taking them in one
  abbrev pub AreAsOne : Type 0
  AreAsOne = (s : S) (xs ys : List X) → joined (fold visited s xs) (fold visited (forked s) ys) ≡ fold visited s (xs ++ ys)

  -- a fork after the rows of its part
  abbrev pub after_part : P × S → S
  after_part job = fold visited job.1 (rows job.0)

  all_joined : AreAsOne → (s : S) (seen : List X) (parts : List P) →
      fold joined (fold visited s seen) (map after_part (map (λ p. (p, forked s)) parts)) ≡ fold visited s (seen ++ flat_map rows parts)
  all_joined one s seen [] = ap (fold visited s) (sym (append-nil seen))
  all_joined one s seen (p ∷ ps) =
      ap (λ t. fold joined t (map after_part (map (λ p. (p, forked s)) ps))) (one s seen (rows p))
      ∙ all_joined one s (seen ++ rows p) ps
      ∙ ap (fold visited s) (append_assoc seen (rows p) (flat_map rows ps))

  -- if forks that each took the rows of one part are joined to a visitor, it has taken the rows of all parts
  pub forks-joined : AreAsOne → (s : S) (parts : List P) (jobs : List (P × S)) (forks : List S) → jobs ≡ map (λ p. (p, forked s)) parts → forks ≡ map after_part jobs →
      fold joined s forks ≡ fold visited s (flat_map rows parts)
  forks-joined one s parts jobs forks jobs_are forks_are = ap (fold joined s) (forks_are ∙ ap (map after_part) jobs_are) ∙ all_joined one s [] parts
