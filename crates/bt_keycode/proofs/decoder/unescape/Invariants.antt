use Rattle.std.proofs.Common.{◌≡◌, ◌≤◌, length, take}
use Rattle.bt_value.specs.Texts.{most_value_bytes}
use Rattle.bt_keycode.specs.inside.Readings.{after_bytes, unescaped}
use Rattle.bt_keycode.proofs.decoder.unescape.Given as goal

-- the bytes read so far, followed by those read from the remaining ones, are the bytes read from all
abbrev pub invariant-loop-byte : goal.invariant-loop-byte
invariant-loop-byte l = record {
  size : length l.room ≡ most_value_bytes;
  bound : l.len ≤ most_value_bytes;
  read : unescaped l.bytes ≡ after_bytes (take l.len l.room) (unescaped l.code);
}

abbrev pub decreases-loop-byte : goal.decreases-loop-byte
decreases-loop-byte l = length l.code
