use Rattle.std.proofs.Common.{◌≡◌, ◌≤◌, ◌+◌, ◌++◌, length, vec_capacity, vec_len}
use Rattle.bt_form.proofs.children.append_items.Given as goal

abbrev pub invariant-loop-item : goal.invariant-loop-item
invariant-loop-item g l = record {
  pushed : l.into.items ++ l.item-iterator.rest.items ≡ l.fn.into.items ++ l.fn.items.items;
  room : vec_len l.into + length l.item-iterator.rest.items ≤ vec_capacity l.into;
}
