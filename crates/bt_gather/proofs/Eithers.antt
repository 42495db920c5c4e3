-- Two lists in one: the result for each item, in two lists again.
use Rattle.std.proofs.Common.{◌≡◌, ◌∙◌, List, [], ◌∷◌, ap, map, refl, subst, sym}
use Rattle.std.proofs.lemmas.List.Elements.{All-append, All-map}
use Rattle.std.specs.List.{All}
use Rattle.bt_gather.specs.declared.either.Either.{Either}
use Rattle.bt_gather.specs.declared.either.Either.TheVariants.{Rows, Entries}
use Rattle.bt_gather.specs.inside.Eithers.{HoldsOfEither, either_map, entries_in, one_list, rows_in}

-- a fact about each item of both lists
pub all-hold : {R E : Type 0} (P : R → Type 0) (Q : E → Type 0) (rows : List R) (entries : List E) → All P rows → All Q entries →
    (list : List (Either R E)) → list ≡ one_list rows entries → All (HoldsOfEither P Q) list
all-hold P Q rows entries p q list is =
    subst (All (HoldsOfEither P Q)) (sym is)
    (All-append (HoldsOfEither P Q) (map Rows rows) (map Entries entries) (All-map (HoldsOfEither P Q) Rows rows p) (All-map (HoldsOfEither P Q) Entries entries q))

module _ {R E S F : Type 0} (f : R → S) (g : E → F) where
  rows-none : (entries : List E) → rows_in (map (either_map f g) (map Entries entries)) ≡ []
  rows-none [] = refl
  rows-none (y ∷ ys) = rows-none ys

  entries-all : (entries : List E) → entries_in (map (either_map f g) (map Entries entries)) ≡ map g entries
  entries-all [] = refl
  entries-all (y ∷ ys) = ap (λ zs. g y ∷ zs) (entries-all ys)

  rows-are : (rows : List R) (entries : List E) → rows_in (map (either_map f g) (one_list rows entries)) ≡ map f rows
  rows-are [] entries = rows-none entries
  rows-are (x ∷ xs) entries = ap (λ zs. f x ∷ zs) (rows-are xs entries)

  entries-are : (rows : List R) (entries : List E) → entries_in (map (either_map f g) (one_list rows entries)) ≡ map g entries
  entries-are [] entries = entries-all entries
  entries-are (x ∷ xs) entries = entries-are xs entries

  -- the results for the rows, and the results for the entries
  pub own-items : (rows : List R) (entries : List E) (list : List (Either R E)) → list ≡ one_list rows entries → (come : List (Either S F)) → come ≡ map (either_map f g) list →
      record { rows : rows_in come ≡ map f rows; entries : entries_in come ≡ map g entries }
  own-items rows entries list is come are =
      let all = are ∙ ap (map (either_map f g)) is in record {
        rows = ap rows_in all ∙ rows-are rows entries;
        entries = ap entries_in all ∙ entries-are rows entries;
      }
