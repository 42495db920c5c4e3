use Rattle.std.proofs.Common.{◌≡◌, ◌-◌, ◌≤◌, ◌++◌, drop, length}
use Rattle.std.specs.Vec.Iter.{into_iter_items}
use Rattle.bt_fanout.specs.Entries.{entry_of}
use Rattle.bt_fanout.specs.inside.RowEntries.{AreEntriesOrFailed, entries_of}
use Rattle.bt_fanout.proofs.building.entries_in_threads.Given as goal

-- the entries so far, and those that are left, of the rows at the end
abbrev pub invariant-loop-entry : goal.invariant-loop-entry
invariant-loop-entry g l =
    let rest = into_iter_items l.entry-iterator in
    let done = length l.rows - length rest in
    record {
      few : length rest ≤ length l.rows;
      made : AreEntriesOrFailed l.def done l.rows rest;
      so_far : entries_of (entry_of l.def) l.rows ≡ l.entries.items ++ entries_of (entry_of l.def) (drop done l.rows);
    }
