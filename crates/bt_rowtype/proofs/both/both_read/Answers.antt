use Rattle.std.proofs.Common.{rules, ◌≢◌}
use Rattle.bt_value.specs.declared.refusal.Refusal.TheVariants.{OutOfMemory}
use Rattle.bt_rowtype.proofs.TwoRefusals.{both_refused}
use Rattle.bt_rowtype.proofs.both.both_read.Goals as goal

pub returns-in-Err-second-2 : goal.returns-in-Err-second-2
returns-in-Err-second-2 g c =
    let some : c.in-Err.refusal ≢ OutOfMemory = search rules in
    let too : c.in-Err-second-2.other ≢ OutOfMemory = search rules in
    record { answer = λ one other a b _. both_refused one _ other _ _ _ _ c.in-Err.is some c.in-Err-second-2.is too c.lower.ensures a b; both = search rules }
