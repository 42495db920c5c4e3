use Rattle.std.proofs.Common.{◌≡◌, ◌≤◌, ◌++◌, drop, map, vec_len, vec_capacity}
use Rattle.std.specs.Vec.Iter.{into_iter_items}
use Rattle.bt_form.specs.Deals.{deal, even, parted}
use Rattle.bt_form.proofs.deal.deal.Given as goal

-- the parts so far, before those of the items that are left
abbrev pub invariant-loop-place : goal.invariant-loop-place
invariant-loop-place g l = record {
  dealt : map (λ part. part.items) l.parts.items ++ parted (drop l.place (even l.count l.many)) (into_iter_items l.rest) ≡ deal l.fn.most l.fn.items.items;
  len : vec_len l.parts ≤ l.place;
  room : vec_capacity l.parts ≡ l.many;
}
