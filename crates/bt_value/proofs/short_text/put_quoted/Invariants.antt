use Rattle.std.proofs.Common.{◌≡◌, ◌≤◌, ◌*◌, ◌+◌, ◌++◌, ◌∷◌, take}
use Rattle.csv.specs.Writing.{default_writer, escaped}
use Rattle.bt_value.proofs.short_text.put_quoted.Given as goal

-- the quote before the text and the bytes so far were put
abbrev pub invariant-loop-byte : goal.invariant-loop-byte
invariant-loop-byte l = record {
  text : take l.end l.room ≡ take l.at l.fn.room ++ (34 ∷ escaped default_writer (take l.byte-index l.text));
  end : l.end ≤ l.at + (2 * l.byte-index + 1);
}
