use Rattle.std.proofs.Common.{◌≡◌, ◌++◌, drop}
use Rattle.bt_form.specs.Deals.{sizes}
use Rattle.bt_flush.specs.inside.KeyedLeaves.{keyed_leaves}
use Rattle.bt_flush.proofs.lemmas.code.SourceLeaves.{AreLeft}
use Rattle.bt_flush.proofs.leaf_sources.source_leaves.Given as goal

-- the leaves so far, and then those that are still to be made
abbrev pub invariant-loop-place : goal.invariant-loop-place
invariant-loop-place g l =
    let left = drop l.place (sizes l.count l.fn.shape.leaf) in
    record {
      made : l.leaves.items ++ keyed_leaves left (g.S.RowSource.left l.source) ≡ keyed_leaves (sizes l.count l.fn.shape.leaf) (g.S.RowSource.left l.fn.rows);
      left : AreLeft left (g.S.RowSource.left l.source);
    }
