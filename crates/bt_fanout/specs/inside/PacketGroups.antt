-- Jobs and packets in groups.
use Rattle.std.specs.Prelude.{List, [], ◌∷◌, ◌++◌}
use Rattle.std.specs.List.{flat_map}
use Rattle.bt_message.specs.Messages.{Messages}
use Rattle.bt_fanout.specs.Effects.{RowMessage}
use Rattle.bt_fanout.specs.declared.effect.Effect.{Effect}
use Rattle.bt_fanout.specs.declared.joint_packets.JobGroup.{JobGroup}
use Rattle.bt_fanout.specs.inside.EffectJobs.{effects_there}

-- the effects of messages at the keys of a group of jobs
abbrev pub effects_in_group : Messages RowMessage → JobGroup → List Effect
effects_in_group messages group = flat_map (effects_there messages) group.jobs.items

-- lists with one more item each
abbrev pub with_next : {X : Type 0} → List (List X) → List X → List (List X)
with_next [] items = []
with_next (list ∷ lists) [] = []
with_next (list ∷ lists) (x ∷ items) = (list ++ x ∷ []) ∷ with_next lists items
