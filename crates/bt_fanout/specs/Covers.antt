-- Which keys an index covers, and how a step of building widens that.
use Rattle.std.specs.Prelude.{ℕ, Bool, true, false, not, [], ◌∷◌, ◌++◌, take, length, nat_lt, Option, Some, None, if◌then◌else◌}
use Rattle.bt_keycode.specs.Keys.{Key, is_before}
use Rattle.bt_message.specs.Effects.{Rows}
use Rattle.bt_message.specs.Messages.{Messages}
use Rattle.bt_message.specs.declared.message.Message.{Message}
use Rattle.bt_message.specs.declared.message.Message.TheVariants.{Put}
use Rattle.bt_fanout.specs.Selections.{covered}
use Rattle.bt_fanout.specs.declared.cover.Cover.{Cover}
use Rattle.bt_fanout.specs.declared.cover.Cover.TheVariants.{Nothing, UpTo, Whole}

-- whether a key is covered: none is, or those up to and including a last one are, or all are
abbrev pub is_covered : Cover → Key → Bool
is_covered Nothing k = false
is_covered (UpTo last) k = not (is_before last k)
is_covered Whole k = true

-- whether all keys are covered
abbrev pub is_whole : Cover → Bool
is_whole Nothing = false
is_whole (UpTo last) = false
is_whole Whole = true

-- the wider of two covers
abbrev pub wider : Cover → Cover → Cover
wider Nothing other = other
wider (UpTo last) Nothing = UpTo last
wider (UpTo last) (UpTo later) = if is_before last later then UpTo later else UpTo last
wider (UpTo last) Whole = Whole
wider Whole other = Whole

-- the rows that aren't covered
abbrev pub uncovered : {X : Type 0} → Cover → Rows X → Rows X
uncovered cover rows = covered (λ k. not (is_covered cover k)) rows

-- the rows that a step of building reads: the first n that aren't covered
abbrev pub next_rows : {X : Type 0} → ℕ → Cover → Rows X → Rows X
next_rows n cover rows = take n (uncovered cover rows)

-- the last key of rows, or this key if there are no rows
abbrev pub last_key : {X : Type 0} → Key → Rows X → Key
last_key k [] = k
last_key k (r ∷ rows) = last_key r.0 rows

-- up to the last key that was read; unchanged if none was read
abbrev pub moved_to : {X : Type 0} → Cover → Rows X → Cover
moved_to cover [] = cover
moved_to cover (r ∷ rows) = UpTo (last_key r.0 rows)

-- the cover after a step of building that was to read n rows and read these: whole, if they are fewer than n
abbrev pub next_cover : {X : Type 0} → ℕ → Cover → Rows X → Cover
next_cover n cover read = if nat_lt (length read) n then Whole else moved_to cover read

-- the cover after a step of building on these rows
abbrev pub cover_after : {X : Type 0} → ℕ → Cover → Rows X → Cover
cover_after n cover rows = next_cover n cover (next_rows n cover rows)

-- a put of an entry, if there is one
abbrev pub put_of_entry : {E D : Type 0} → Option (Key × E) → Messages (Message E D)
put_of_entry None = []
put_of_entry (Some e) = (e.0, Put e.1) ∷ []

-- the entries of rows as puts
abbrev pub puts_of : {X E D : Type 0} → (Key → X → Option (Key × E)) → Rows X → Messages (Message E D)
puts_of entry [] = []
puts_of entry (r ∷ rows) = put_of_entry (entry r.0 r.1) ++ puts_of entry rows
