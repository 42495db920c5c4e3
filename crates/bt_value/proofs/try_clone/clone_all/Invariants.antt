use Rattle.std.proofs.Common.{◌≡◌, take}
use Rattle.bt_value.proofs.try_clone.clone_all.Given as goal

abbrev pub invariant-loop-item : goal.invariant-loop-item
invariant-loop-item g l = l.copies.items ≡ take l.item-index l.items
