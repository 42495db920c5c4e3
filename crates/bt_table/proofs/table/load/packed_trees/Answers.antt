use Rattle.bt_table.proofs.table.load.packed_trees.Goals as goal

pub packed_pairs-requires-clause-suit : goal.packed_pairs-requires-clause-suit
packed_pairs-requires-clause-suit g c = c.requires.suit c.in_ok-pairs.pairs.items c.in_ok-pairs.ensures.answer
