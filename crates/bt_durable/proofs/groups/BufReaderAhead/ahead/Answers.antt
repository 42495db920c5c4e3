use Rattle.std.proofs.Common.{ℕ, ◌==◌, Bool, true, false, List, Option, None, Some, if◌then◌else◌, refl, subst, sym}
use Rattle.std.specs.Io.Buffered.{reader_buffer, reader_capacity, reader_inner, reader_remaining}
use Rattle.std.specs.Io.KnownBytes.{prepend_known}
use Rattle.bt_durable.specs.Inputs.{AreAhead}
use Rattle.bt_durable.proofs.groups.BufReaderAhead.ahead.Goals as goal

-- the buffer is in front of the bytes of the inner reader
in_front : (none : Bool) (buffer : List ℕ) (inner : Option (List ℕ)) → AreAhead (if none then None else prepend_known buffer inner) buffer
in_front true buffer inner = tt
in_front false buffer None = tt
in_front false buffer (Some bytes) = (bytes, refl)

pub returns : goal.returns
returns g c =
    let reader = c.args.self.now in
    let remaining = g.R.Read.remaining in
    subst (AreAhead (reader_remaining remaining reader)) (sym c.buffer.ensures) (in_front (reader_capacity reader == 0) (reader_buffer reader) (remaining (reader_inner reader)))
