use Rattle.std.proofs.Common.{◌≡◌, ◌+◌, ◌≤◌, ◌++◌, map, vec_capacity, vec_len}
use Rattle.std.specs.Vec.Iter.{into_iter_len}
use Rattle.bt_portions.proofs.portion_visits.with_forks.Given as goal

-- the jobs so far, and then those of the portions that are left
abbrev pub invariant-loop-portion : goal.invariant-loop-portion
invariant-loop-portion g l = record {
  jobs : l.jobs.items ++ map (λ p. (p, g.S.ForkVisitor.forked l.visitor)) l.portion-iterator.rest.items ≡ map (λ p. (p, g.S.ForkVisitor.forked l.visitor)) l.fn.portions.items;
  room : vec_len l.jobs + into_iter_len l.portion-iterator ≤ vec_capacity l.jobs;
}
