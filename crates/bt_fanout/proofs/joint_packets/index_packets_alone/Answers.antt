use Rattle.std.proofs.Common.{◌∙◌, subst, sym}
use Rattle.bt_fanout.specs.Targets.{SuitAll}
use Rattle.bt_fanout.proofs.joint_packets.index_packets_alone.Goals as goal

pub packets_of_effects-requires : goal.packets_of_effects-requires
packets_of_effects-requires c = subst (SuitAll c.args.indexes.now) (sym (c.as_slice.ensures.value ∙ c.in_ok-effects.ensures)) c.requires
