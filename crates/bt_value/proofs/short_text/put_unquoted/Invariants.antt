use Rattle.std.proofs.Common.{◌≡◌, ◌≤◌, ◌+◌, ◌-◌, ◌++◌, false, length, take}
use Rattle.csv.specs.Writing.{default_writer, needs_quotes}
use Rattle.bt_value.proofs.short_text.put_unquoted.Given as goal

-- the bytes so far were put, and need no quotes
abbrev pub invariant-loop-len : goal.invariant-loop-len
invariant-loop-len l = record {
  within : l.len ≤ length l.text;
  text : take (l.at + l.len) l.room ≡ take l.at l.fn.room ++ take l.len l.text;
  before : take l.at l.room ≡ take l.at l.fn.room;
  plain : needs_quotes default_writer (take l.len l.text) ≡ false;
}

abbrev pub decreases-loop-len : goal.decreases-loop-len
decreases-loop-len l = length l.text - l.len
