use Rattle.bt_message.specs.Meanings.{meaning_of}
use Rattle.bt_flush.proofs.offered.Drains.{drain_dries}
use Rattle.bt_node.proofs.tree.drain_alone.Goals as goal

pub returns-clause-dry : goal.returns-clause-dry
returns-clause-dry g c = drain_dries (meaning_of g.V.Merge.terms) c.args.shape c.args.node c.args.packet _ c.in_ok-nodes.ensures.siblings
