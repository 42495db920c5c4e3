use Rattle.std.proofs.Common.{◌∙◌, ◌∷◌, [], ap, arith, map, refl}
use Rattle.std.proofs.lemmas.List.{map-append}
use Rattle.bt_fanout.proofs.offered.Mapped.{mapped_next}
use Rattle.bt_table.specs.inside.IndexTrees.{of_head, of_target}
use Rattle.bt_table.proofs.index.targets_of.Goals as goal

pub loop-head-preserved : goal.loop-head-preserved
loop-head-preserved c =
    mapped_next of_head c.args.heads.now (map of_target c.loop-head.targets.items) (map of_target c.push.new.self.items) c.loop-head.head-index c.head-item.result
    (of_head c.head-item.result) (omega arith) c.loop-head.invariant c.head-item.is refl
    (ap (map of_target) c.in_ok-push.ensures.items ∙ map-append of_target c.loop-head.targets.items (_ ∷ []))
