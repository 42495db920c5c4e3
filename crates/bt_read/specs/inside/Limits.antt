-- Rows shown up to a limit: a number of rows, or none, which doesn't limit.
use Rattle.std.specs.Prelude.{ℕ, zero, suc, List, Option, Some, None, take}

-- the first rows, as many as the limit allows
abbrev pub first_rows : {R : Type 0} → Option ℕ → List R → List R
first_rows None rows = rows
first_rows (Some most) rows = take most rows

-- a visitor after a row, and the number of rows that it may still be shown
abbrev pub limited : {S R : Type 0} → (S → R → S) → S × Option ℕ → R → S × Option ℕ
limited visited (visitor, None) row = (visited visitor row, None)
limited visited (visitor, Some zero) row = (visitor, Some zero)
limited visited (visitor, Some (suc n)) row = (visited visitor row, Some n)
