use Rattle.std.proofs.Common.{◌≡◌, ◌*◌, ◌++◌, take}
use Rattle.bt_value.specs.Hex.{hex_text}
use Rattle.bt_value.specs.Room.{TakesRoom}
use Rattle.bt_value.proofs.hex.append_hex.Given as goal

-- the digits of the bytes so far were added
abbrev pub invariant-loop-byte : goal.invariant-loop-byte
invariant-loop-byte l = record {
  text : l.out.items ≡ l.fn.out.items ++ hex_text (take l.byte-index l.bytes);
  room : TakesRoom l.fn.out l.out (2 * l.byte-index);
}
