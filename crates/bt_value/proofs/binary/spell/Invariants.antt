use Rattle.std.proofs.Common.{◌≡◌, ◌≤◌, length, take}
use Rattle.bt_value.specs.Hex.{bytes_of_hex}
use Rattle.bt_value.specs.Texts.{most_value_bytes}
use Rattle.bt_value.proofs.Spelling.{after}
use Rattle.bt_value.proofs.binary.spell.Given as goal

-- the bytes so far, followed by those that the remaining digits encode, are the bytes that all digits encode
abbrev pub invariant-loop-rest : goal.invariant-loop-rest
invariant-loop-rest l = record {
  size : length l.room ≡ most_value_bytes;
  bound : l.len ≤ most_value_bytes;
  spelled : bytes_of_hex l.digits ≡ after (take l.len l.room) (bytes_of_hex l.rest);
}

abbrev pub decreases-loop-rest : goal.decreases-loop-rest
decreases-loop-rest l = length l.rest
