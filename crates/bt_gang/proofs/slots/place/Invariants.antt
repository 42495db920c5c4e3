use Rattle.std.proofs.Common.{◌≡◌, length}
use Rattle.bt_gang.specs.Numbered.{present}
use Rattle.bt_gang.specs.inside.Places.{AllBelow, puts}
use Rattle.bt_gang.proofs.slots.place.Given as goal

abbrev pub invariant-loop-answer : goal.invariant-loop-answer
invariant-loop-answer g l = record {
  slots : puts l.slots.items (present l.answer-iterator) ≡ puts l.fn.slots.items (present l.fn.out.list);
  numbers : AllBelow (length l.slots.items) (present l.answer-iterator);
}
