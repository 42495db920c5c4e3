-- Lists that each row adds others to, made in two parts.
use Rattle.std.proofs.Common.{◌≡◌, List, [], ◌++◌, append_assoc, append-nil, fold}
use Rattle.bt_read.specs.Folds.{joined_as_one}

-- as copies of rows, or their texts
pub lists_as_one : {X Y : Type 0} (added : X → List Y) (list : List Y) (rows following : List X) →
    fold (λ all row. all ++ added row) list rows ++ fold (λ all row. all ++ added row) [] following ≡ fold (λ all row. all ++ added row) list (rows ++ following)
lists_as_one {X} {Y} added list rows following = joined_as_one (λ (first second : List Y). first ++ second) added [] append_assoc append-nil list rows following
