use Rattle.std.proofs.Common.{◌≡◌, ◌-◌, ◌≤◌, ◌++◌, drop, take, vec_len, vec_capacity}
use Rattle.std.specs.Vec.Iter.{into_iter_items}
use Rattle.bt_form.proofs.deal.next_part.Given as goal

-- the part so far, before what is still to be moved
abbrev pub invariant-loop : goal.invariant-loop
invariant-loop g l = record {
  part : l.part.items ++ take (l.size - l.counter) (into_iter_items l.rest) ≡ take l.size (into_iter_items l.fn.rest);
  rest : drop (l.size - l.counter) (into_iter_items l.rest) ≡ drop l.size (into_iter_items l.fn.rest);
  len : vec_len l.part ≤ l.counter;
  room : vec_capacity l.part ≡ l.size;
}
