use Rattle.std.proofs.Common.{◌≡◌, ◌++◌, [], map}
use Rattle.std.specs.Option.{unwrap_or}
use Rattle.bt_gather.specs.inside.Slots.{AreFull}
use Rattle.bt_gather.proofs.hole_places.all_held.Given as goal

-- the contents of the slots so far, and of the others
abbrev pub invariant-loop-slot : goal.invariant-loop-slot
invariant-loop-slot g l = record {
  held : l.held.items ++ map (λ slot. unwrap_or slot []) l.slot-iterator.rest.items ≡ map (λ slot. unwrap_or slot []) l.fn.slots.items;
  full : AreFull l.slot-iterator.rest.items;
}
