use Rattle.bt_load.specs.inside.Sorts.{IsFirstRepeat}
use Rattle.bt_load.proofs.placed.first_repeat.Given as goal

abbrev pub invariant-loop-next : goal.invariant-loop-next
invariant-loop-next l = IsFirstRepeat l.placed l.next l.first
