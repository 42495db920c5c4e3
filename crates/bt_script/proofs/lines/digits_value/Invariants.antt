use Rattle.std.proofs.Common.{◌≡◌, ◌<◌, ◌^◌, drop}
use Rattle.bt_value.specs.Ints.{digits_after, number_written}
use Rattle.bt_script.proofs.lines.digits_value.Given as goal

abbrev pub invariant-loop-digit : goal.invariant-loop-digit
invariant-loop-digit l = record {
  rest : digits_after l.value (drop l.digit-index l.word) ≡ number_written l.word;
  small : l.value < 10 ^ l.digit-index;
}
