use Rattle.std.proofs.Common.{◌≡◌, ◌-◌, ◌≤◌, ◌++◌, drop, length, take}
use Rattle.bt_flush.proofs.group.next_group.Given as goal

-- the part so far, before what is still to be moved
abbrev pub invariant-loop : goal.invariant-loop
invariant-loop g l = record {
  part : l.part ++ take (l.size - l.counter) l.rest ≡ take l.size l.fn.rest;
  rest : drop (l.size - l.counter) l.rest ≡ drop l.size l.fn.rest;
  enough : l.size - l.counter ≤ length l.rest;
}
