-- The rows that a step of building reads.
use Rattle.std.specs.Prelude.{ℕ, ◌≡◌, ◌-◌, ◌==◌, ◌&&◌, [], ◌++◌, ◌∷◌, Bool, true, false, List, length, nat_lt, not, Option, Some, None, if◌then◌else◌}
use Rattle.bt_value.specs.declared.value.Value.{Value}
use Rattle.bt_keycode.specs.Keys.{Key}
use Rattle.bt_message.specs.Effects.{Rows}
use Rattle.bt_fanout.specs.Covers.{cover_after, is_covered, next_rows, puts_of}
use Rattle.bt_fanout.specs.Entries.{Definition, entry_of}
use Rattle.bt_fanout.specs.Selections.{covered}
use Rattle.bt_fanout.specs.declared.cover.Cover.{Cover}
use Rattle.bt_fanout.specs.declared.cover.Cover.TheVariants.{Nothing, UpTo, Whole}
use Rattle.bt_fanout.specs.declared.step.StepRead.{StepRead}
use Rattle.bt_fanout.specs.inside.Portions.{Puts, puts_after_row}

-- how many more rows are to be read, and the key of the last row, once no more are to be read
pub record RowsRead : Type 0 where
  pub left : ℕ
  pub last : Option Key

-- before the first of n rows
abbrev pub none_read : ℕ → RowsRead
none_read count = record { left = count; last = None }

-- after one more row
abbrev pub after_row : RowsRead → Key × List Value → RowsRead
after_row read row = record { left = read.left - 1; last = if read.left == 1 then Some row.0 else read.last }

-- and beside it the messages of the entries
abbrev pub read_row : RowsRead × Puts → Key × List Value → RowsRead × Puts
read_row read row = (after_row read.0 row, puts_after_row read.1 row)

-- a cover moved up to a key, if there is one
abbrev pub moved_by : Cover → Option Key → Cover
moved_by cover None = cover
moved_by cover (Some key) = UpTo key

-- the cover after the rows that were read: whole, if more were to be read
abbrev pub moved_cover : Cover → RowsRead → Cover
moved_cover cover read = if nat_lt 0 read.left then Whole else moved_by cover read.last

-- what a step that is to read n rows has read
pub record IsStepRead (def : Definition) (n : ℕ) (before : Cover) (rows : Rows (List Value)) (step : StepRead) : Type 0 where
  pub messages : step.messages.items ≡ puts_of (entry_of def) (next_rows n before rows)
  pub cover : step.cover ≡ cover_after n before rows
  pub read : step.read ≡ length (next_rows n before rows)

-- ---- the same rows as those between two covers

-- the rows that a cover has and an earlier one has not
abbrev pub rows_between : {X : Type 0} → Cover → Cover → Rows X → Rows X
rows_between earlier later rows = covered (λ k. not (is_covered earlier k) && is_covered later k) rows

-- there are none if the earlier one has all keys or the later one has none
abbrev pub adds_nothing : Cover → Cover → Bool
adds_nothing Nothing Nothing = true
adds_nothing Nothing (UpTo last) = false
adds_nothing Nothing Whole = false
adds_nothing (UpTo last) Nothing = true
adds_nothing (UpTo last) (UpTo later) = false
adds_nothing (UpTo last) Whole = false
adds_nothing Whole later = true

-- the first key after those up to the last one of a cover, if there is a last one
abbrev pub key_after : Cover → Option Key
key_after Nothing = None
key_after (UpTo last) = Some (last ++ 0 ∷ [])
key_after Whole = None
