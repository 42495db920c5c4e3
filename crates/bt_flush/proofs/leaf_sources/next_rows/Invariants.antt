use Rattle.std.proofs.Common.{◌≡◌, ◌-◌, ◌≤◌, ◌++◌, drop, length, take, vec_len, vec_capacity}
use Rattle.bt_flush.proofs.leaf_sources.next_rows.Given as goal

-- the rows so far, before what is still to be moved
abbrev pub invariant-loop : goal.invariant-loop
invariant-loop g l = record {
  part : l.rows.items ++ take (l.size - l.counter) (g.S.RowSource.left l.source) ≡ take l.size (g.S.RowSource.left l.fn.source);
  rest : drop (l.size - l.counter) (g.S.RowSource.left l.source) ≡ drop l.size (g.S.RowSource.left l.fn.source);
  enough : l.size - l.counter ≤ length (g.S.RowSource.left l.source);
  len : vec_len l.rows ≤ l.counter;
  room : vec_capacity l.rows ≡ l.size;
}
