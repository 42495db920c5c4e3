use Rattle.std.proofs.Common.{◌≡◌, ◌+◌, ◌≤◌, ◌++◌, length, vec_capacity, vec_len}
use Rattle.bt_gather.specs.inside.Eithers.{entries_in, rows_in}
use Rattle.bt_gather.proofs.either.two_lists.Given as goal

-- both lists so far, and then the items that are left
abbrev pub invariant-loop-either : goal.invariant-loop-either
invariant-loop-either g l = record {
  rows : l.rows.items ++ rows_in l.either-iterator.rest.items ≡ rows_in l.fn.list.items;
  entries : l.entries.items ++ entries_in l.either-iterator.rest.items ≡ entries_in l.fn.list.items;
  row_room : vec_len l.rows + length (rows_in l.either-iterator.rest.items) ≤ vec_capacity l.rows;
  entry_room : vec_len l.entries + length (entries_in l.either-iterator.rest.items) ≤ vec_capacity l.entries;
}
