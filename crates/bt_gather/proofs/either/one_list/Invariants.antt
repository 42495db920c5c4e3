use Rattle.std.proofs.Common.{◌≡◌, ◌+◌, ◌≤◌, ◌++◌, map, vec_capacity, vec_len}
use Rattle.std.specs.Vec.Iter.{into_iter_len}
use Rattle.bt_gather.specs.declared.either.Either.TheVariants.{Rows, Entries}
use Rattle.bt_gather.proofs.either.one_list.Given as goal

-- the list so far, and then the items that are left
abbrev pub invariant-loop-row : goal.invariant-loop-row
invariant-loop-row g l = record {
  list : l.list.items ++ map Rows l.row-iterator.rest.items ≡ map Rows l.fn.rows.items;
  room : vec_len l.list + into_iter_len l.row-iterator + vec_len l.entries ≤ vec_capacity l.list;
}

abbrev pub invariant-loop-entry : goal.invariant-loop-entry
invariant-loop-entry g l = record {
  list : l.list.items ++ map Entries l.entry-iterator.rest.items ≡ map Rows l.fn.rows.items ++ map Entries l.fn.entries.items;
  room : vec_len l.list + into_iter_len l.entry-iterator ≤ vec_capacity l.list;
}
