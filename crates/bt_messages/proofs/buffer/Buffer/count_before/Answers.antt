use Rattle.std.proofs.Common.{subst, sym}
use Rattle.bt_keycode.specs.Keys.{AllFrom}
use Rattle.bt_messages.specs.Bins.{AllBefore}
use Rattle.bt_messages.proofs.offered.Parts.{kept_before, kept_from}
use Rattle.bt_messages.proofs.buffer.Buffer.count_before.Goals as goal

pub returns-clause-before : goal.returns-clause-before
returns-clause-before g c = rw (← c.self.view_is, ← c.as_slice.ensures.value) (subst (AllBefore c.args.key.now) (sym c.count_before.ensures.before) (kept_before c.args.key.now c.as_slice.result.now))

pub returns-clause-from : goal.returns-clause-from
returns-clause-from g c = rw (← c.self.view_is, ← c.as_slice.ensures.value) (subst (AllFrom c.args.key.now) (sym c.count_before.ensures.from) (kept_from c.args.key.now c.as_slice.result.now))
