use Rattle.std.proofs.Common.{◌≡◌, ◌++◌, [], map}
use Rattle.bt_keycode.proofs.offered.Occurrences.{AreLeft}
use Rattle.bt_load.specs.inside.Sorts.{pair_at, places_of}
use Rattle.bt_load.proofs.placed.with_rows.Given as goal

-- what is still to be taken is where it was
abbrev pub invariant-loop-one : goal.invariant-loop-one
invariant-loop-one l = record {
  wanted : l.pairs.items ++ map (pair_at l.fn.rows.items) l.one-iterator.rest.items ≡ map (pair_at l.fn.rows.items) l.fn.placed.items;
  left : AreLeft [] l.fn.rows.items l.rows.items (places_of l.one-iterator.rest.items);
}
