use Rattle.std.proofs.Common.{arith}
use Rattle.bt_keycode.proofs.FirstZeros.{none_before, none_zero}
use Rattle.bt_keycode.proofs.zeros.split_at_zero.Goals as goal

pub returns-in-Some-clause-first : goal.returns-in-Some-clause-first
returns-in-Some-clause-first c = none_before c.args.bytes.now c.in-Some.place c.in-Some.ensures.0.high (λ k below. c.in-Some.ensures.0.before k (omega arith) below)

pub returns-in-None-clause-none : goal.returns-in-None-clause-none
returns-in-None-clause-none c = none_zero c.args.bytes.now (λ k within. c.in-None.ensures k (omega arith) within)
