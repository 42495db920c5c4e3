use Rattle.std.proofs.Common.{◌≡◌, ◌<◌, ◌≤◌, ◌^◌, ◌-◌, length, take, true}
use Rattle.std.specs.List.{list_all}
use Rattle.bt_value.specs.Ints.{is_digit, number_written}
use Rattle.bt_value.proofs.plain_fields.plain_number.Given as goal

-- the bytes before this place are digits, and the number that they write is below a power of ten
abbrev pub invariant-loop-end : goal.invariant-loop-end
invariant-loop-end l = record {
  within : l.end ≤ length l.text;
  few : l.end ≤ 18;
  digits : list_all is_digit (take l.end l.text) ≡ true;
  written : number_written (take l.end l.text) ≡ l.number;
  small : l.number < 10 ^ l.end;
}

abbrev pub decreases-loop-end : goal.decreases-loop-end
decreases-loop-end l = length l.text - l.end
