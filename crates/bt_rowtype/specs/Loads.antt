-- The header of a load.
use Rattle.std.specs.Prelude.{ℕ, ◌==◌, Bool, List}
use Rattle.std.specs.Cmp.Lexicographic.{pointwise}
use Rattle.bt_row.specs.declared.rows.schema.Column.{Column}

-- whether fields are the names of the columns, in order
abbrev pub is_header : List Column → List (List ℕ) → Bool
is_header columns names = pointwise (λ c name. pointwise ◌==◌ c.name name) columns names
