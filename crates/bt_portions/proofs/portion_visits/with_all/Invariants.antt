use Rattle.std.proofs.Common.{◌≡◌, fold}
use Rattle.std.specs.Vec.Iter.{into_iter_items}
use Rattle.bt_portions.proofs.portion_visits.with_all.Given as goal

-- the forks that are left are joined to those before
abbrev pub invariant-loop-fork : goal.invariant-loop-fork
invariant-loop-fork g l = fold g.S.ForkVisitor.joined l.all (into_iter_items l.fork-iterator) ≡ fold g.S.ForkVisitor.joined l.fn.visitor l.fn.forks.items
