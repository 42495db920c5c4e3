-- Packed changes in pieces, which are read one by one.
use Rattle.std.specs.Prelude.{◌≡◌, ℕ, zero, suc, ◌≤◌, ◌-◌, ◌==◌, List, [], ◌∷◌, length, drop, Option, Some, None, Result, Ok, Err, if◌then◌else◌}
use Rattle.std.specs.Cmp.Lexicographic.{pointwise}
use Rattle.bt_row.specs.Schemas.{Schema}
use Rattle.bt_message.specs.Messages.{sorted_batch}
use Rattle.bt_batch.specs.Batches.{RowMessages}
use Rattle.bt_batch.specs.Changes.{Changes, no_changes}
use Rattle.bt_packed.specs.Changes.{change_at}
use Rattle.bt_packed.specs.Layout.{Read, then_read}
use Rattle.bt_packed.specs.declared.fault.Fault.{Fault}
use Rattle.bt_packed.specs.declared.pieces.ChangePiece.{ChangePiece}

-- this many more changes, and the bytes after them
abbrev pub some_from : ℕ → Read Changes → Result (Read Changes) Fault
some_from zero (changes, bytes) = Ok (changes, bytes)
some_from (suc more) (changes, bytes) = then_read (some_from more) (change_at changes bytes)

-- the messages of changes, sorted by key, if they end before these bytes
abbrev pub ended : List ℕ → Result (Read Changes) Fault → Option RowMessages
ended others (Ok read) = if pointwise ◌==◌ read.1 others then Some (sorted_batch read.0.messages) else None
ended others (Err fault) = None

-- what a piece of bytes has: the messages of its changes, sorted by key, if none is refused and they end where the piece does
abbrev pub reading_of : Schema → List ℕ → ChangePiece → Option RowMessages
reading_of schema bytes piece = ended (drop piece.end bytes) (some_from piece.count (no_changes schema, drop piece.start bytes))

-- a piece is within bytes
abbrev pub IsWithin : List ℕ → ChangePiece → Type 0
IsWithin bytes piece = (piece.start ≤ length bytes) × (piece.end ≤ length bytes)

-- from a place on, pieces follow each other up to an end, and together have this many changes
abbrev pub AreInRow : ℕ → ℕ → List ChangePiece → ℕ → Type 0
AreInRow start count [] end = (start ≡ end) × (count ≡ 0)
AreInRow start count (piece ∷ pieces) end = (piece.start ≡ start) × (piece.count ≤ count) × AreInRow piece.end (count - piece.count) pieces end
