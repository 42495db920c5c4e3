use Rattle.bt_message.specs.Weights.{weigh_of}
use Rattle.bt_laws.proofs.LeafCounts.{has_leaves, is_low}
use Rattle.bt_laws.proofs.heights.tree_height.Goals as goal

pub returns-clause-leaves : goal.returns-clause-leaves
returns-clause-leaves g c = λ shape tree has. has_leaves (weigh_of g.V.Merge.terms) shape tree has

pub returns-clause-levels : goal.returns-clause-levels
returns-clause-levels g c = λ shape tree has. is_low tree (has_leaves (weigh_of g.V.Merge.terms) shape tree has)
