use Rattle.std.proofs.Common.{◌≡◌, ◌++◌, [], drop, length}
use Rattle.bt_form.specs.Deals.{even}
use Rattle.bt_form.specs.Flushes.{pivot_first}
use Rattle.bt_flush.proofs.lemmas.code.GroupLoops.{AreLeft, groups_of}
use Rattle.bt_flush.proofs.group.groups.Given as goal

-- the groups so far, and then those that are still to be made
abbrev pub invariant-loop-place : goal.invariant-loop-place
invariant-loop-place g l = record {
  made : l.siblings ++ groups_of (drop l.place (even l.count l.many)) l.rest ≡ pivot_first [] (groups_of (even (length l.fn.children) l.many) l.fn.children);
  left : AreLeft (drop l.place (even l.count l.many)) l.rest;
}
