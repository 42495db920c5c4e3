use Rattle.std.proofs.Common.{◌≡◌, ◌++◌, drop}
use Rattle.bt_engine.specs.Payloads.{marks_bytes}
use Rattle.bt_engine.proofs.marks.add_marks.Given as goal

-- those that are added, and the others
abbrev pub invariant-loop-mark : goal.invariant-loop-mark
invariant-loop-mark l = l.out.items ++ marks_bytes (drop l.mark-index l.marks) ≡ l.fn.out.items ++ marks_bytes l.marks
