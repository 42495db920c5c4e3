use Rattle.bt_table.proofs.table.load.loaded_trees.Goals as goal

pub packed_trees-requires-clause-suit : goal.packed_trees-requires-clause-suit
packed_trees-requires-clause-suit g c = λ pairs mapped. c.requires.suit c.in_ok-rows.rows.items pairs c.in_ok-rows.ensures.answer mapped
