use Rattle.bt_flush.proofs.offered.Drains.{crown_dries}
use Rattle.bt_node.proofs.tree.Tree.drain.Goals as goal

pub returns-clause-dry : goal.returns-clause-dry
returns-clause-dry g c = crown_dries c.apart-shape.result.0 _ _ c.in_ok-crown.ensures.tree c.in_ok-siblings.ensures.dry
