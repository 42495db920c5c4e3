use Rattle.std.proofs.Common.{arith}
use Rattle.std.proofs.lemmas.Grind.{common_steps}
use Rattle.bt_keycode.proofs.Codes.{codes_compare}
use Rattle.bt_keycode.proofs.library_calls.cmp_rows.Goals as goal

pub loop-lefts-preserved : goal.loop-lefts-preserved
loop-lefts-preserved c = record {
  kinds = grind (arith, common_steps);
  values = grind (arith, common_steps);
  codes = grind (arith, common_steps, codes_compare);
}
