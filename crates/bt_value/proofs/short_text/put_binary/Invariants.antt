use Rattle.std.proofs.Common.{◌≡◌, ◌*◌, ◌+◌, ◌++◌, take}
use Rattle.bt_value.specs.Hex.{hex_text}
use Rattle.bt_value.proofs.short_text.put_binary.Given as goal

-- the digits of the bytes so far were put
abbrev pub invariant-loop-byte : goal.invariant-loop-byte
invariant-loop-byte l = record {
  text : take l.end l.room ≡ take l.at l.fn.room ++ hex_text (take l.byte-index l.bytes);
  end : l.end ≡ l.at + 2 * l.byte-index;
}
