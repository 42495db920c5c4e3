use Rattle.std.proofs.Common.{◌≡◌, ◌<◌, ◌^◌, drop}
use Rattle.std.specs.List.{list_all}
use Rattle.bt_value.specs.Ints.{digits_after, is_digit, number_written}
use Rattle.bt_value.proofs.int.short_number.Given as goal

-- the bytes so far are digits, and the number that they write is below a power of ten
abbrev pub invariant-loop-digit : goal.invariant-loop-digit
invariant-loop-digit l = record {
  rest : digits_after l.number (drop l.digit-index l.digits) ≡ number_written l.digits;
  digits : list_all is_digit (drop l.digit-index l.digits) ≡ list_all is_digit l.digits;
  small : l.number < 10 ^ l.digit-index;
}
