use Rattle.std.proofs.Common.{◌≡◌, ◌+◌, ◌*◌, ◌++◌, ◌∷◌, take}
use Rattle.csv.specs.Writing.{default_writer, escaped}
use Rattle.bt_value.specs.Room.{TakesRoom}
use Rattle.bt_value.proofs.field_writer.write_quoted.Given as goal

-- the quote before the text and the bytes so far were added
abbrev pub invariant-loop-byte : goal.invariant-loop-byte
invariant-loop-byte l = record {
  text : l.out.items ≡ l.fn.out.items ++ (34 ∷ escaped default_writer (take l.byte-index l.text));
  room : TakesRoom l.fn.out l.out (2 * l.byte-index + 1);
}
