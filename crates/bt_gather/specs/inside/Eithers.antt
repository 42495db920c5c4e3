-- Items of the trees of rows and items of the trees of indexes, in one list.
use Rattle.std.specs.Prelude.{◌++◌, List, [], ◌∷◌, map}
use Rattle.bt_gather.specs.declared.either.Either.{Either}
use Rattle.bt_gather.specs.declared.either.Either.TheVariants.{Rows, Entries}

module _ {R E : Type 0} where
  -- one list, those of the trees of rows first
  abbrev pub one_list : List R → List E → List (Either R E)
  one_list rows entries = map Rows rows ++ map Entries entries

  -- the items of the trees of rows
  abbrev pub rows_in : List (Either R E) → List R
  rows_in [] = []
  rows_in (Rows x ∷ xs) = x ∷ rows_in xs
  rows_in (Entries y ∷ xs) = rows_in xs

  -- the items of the trees of indexes
  abbrev pub entries_in : List (Either R E) → List E
  entries_in [] = []
  entries_in (Rows x ∷ xs) = entries_in xs
  entries_in (Entries y ∷ xs) = y ∷ entries_in xs

  -- a fact about the one, or about the other
  abbrev pub HoldsOfEither : (R → Type 0) → (E → Type 0) → Either R E → Type 0
  HoldsOfEither P Q (Rows x) = P x
  HoldsOfEither P Q (Entries y) = Q y

-- the result for the one, or for the other
abbrev pub either_map : {R E S F : Type 0} → (R → S) → (E → F) → Either R E → Either S F
either_map f g (Rows x) = Rows (f x)
either_map f g (Entries y) = Entries (g y)
