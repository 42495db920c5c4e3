-- Going over words one by one, each of which must exist. Serves the reading of a table's columns and of a list of names.
use Rattle.std.proofs.Common.{List, ◌++◌, Option}
use Rattle.std.specs.Prelude.{option_map}

-- the first items and then others, if those exist
abbrev pub following : {A : Type 0} → List A → Option (List A) → Option (List A)
following prefix rest = option_map (λ xs. prefix ++ xs) rest
