use Rattle.std.proofs.Common.{◌≡◌, ◌+◌, ◌≤◌, ◌++◌, length, map, vec_len, vec_capacity}
use Rattle.bt_form.specs.Deals.{deal}
use Rattle.bt_form.proofs.offered.code.RowPass.{AllSorted}
use Rattle.bt_form.proofs.rows.Rows.deal.Given as goal

abbrev pub invariant-loop-rows : goal.invariant-loop-rows
invariant-loop-rows g l = record {
  dealt : l.parts.items ++ map (λ part. part.items) l.rows-iterator.rest.items ≡ deal l.fn.most l.fn.self;
  sorted : AllSorted (map (λ part. part.items) l.rows-iterator.rest.items);
  room : vec_len l.parts + length l.rows-iterator.rest.items ≤ vec_capacity l.parts;
}
