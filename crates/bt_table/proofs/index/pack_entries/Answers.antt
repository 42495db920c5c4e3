use Rattle.std.proofs.Common.{◌∙◌, ◌++◌, ◌∷◌, [], ap, arith, subst, sym}
use Rattle.bt_fanout.specs.Promises.{SuitsRows}
use Rattle.bt_table.specs.inside.IndexTrees.{entry_tree}
use Rattle.bt_fanout.proofs.offered.Mapped.{mapped_next}
use Rattle.bt_table.proofs.index.pack_entries.Goals as goal

pub packed_entries-requires-clause-suits : goal.packed_entries-requires-clause-suits
packed_entries-requires-clause-suits g c =
    subst (λ head. SuitsRows head.def c.args.rows.now) (sym c.head-item.is) (c.requires.suit c.loop-head.head-index c.head-item.result (omega arith))

pub loop-head-preserved : goal.loop-head-preserved
loop-head-preserved g c =
    mapped_next (λ head. entry_tree c.args.shape c.args.rows.now head.def) c.args.heads.now c.loop-head.entries.items _ c.loop-head.head-index
    c.head-item.result c.in_ok-packed_entries.field-0 (omega arith) c.loop-head.invariant
    c.head-item.is c.in_ok-packed_entries.ensures (c.push_reserved.ensures.items ∙ ap (λ l. l ++ c.in_ok-packed_entries.field-0 ∷ []) c.reserve.ensures.items)
