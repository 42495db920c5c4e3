use Rattle.std.proofs.Common.{refl}
use Rattle.std.proofs.lemmas.List.{take_rest}
use Rattle.bt_record.proofs.Marks.{strip_by_test}
use Rattle.bt_record.proofs.line.without_mark.Goals as goal

pub returns-then-has_mark : goal.returns-then-has_mark
returns-then-has_mark c = rw (take_rest, strip_by_test, ← c.has_mark.ensures, c.if-has_mark.true) refl
