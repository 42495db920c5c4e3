use Rattle.std.proofs.Common.{◌∙◌, ◌++◌, ◌∷◌, [], ap, arith, subst, sym}
use Rattle.std.specs.List.{All}
use Rattle.bt_fanout.specs.Effects.{SuitsEffect}
use Rattle.bt_fanout.specs.Targets.{packet_of}
use Rattle.bt_fanout.proofs.offered.Mapped.{mapped_next}
use Rattle.bt_fanout.proofs.joint_packets.packets_of_effects.Goals as goal

pub index_packet-requires : goal.index_packet-requires
index_packet-requires c = subst (λ index. All (SuitsEffect index.def.now) c.args.effects.now) (sym c.index-item.is) (c.requires c.loop-index.index-index c.index-item.result (omega arith))

pub loop-index-preserved : goal.loop-index-preserved
loop-index-preserved c =
    mapped_next (packet_of c.args.effects.now) c.args.indexes.now c.loop-index.packets.items _ c.loop-index.index-index c.index-item.result c.in_ok-packet.packet (omega arith)
    c.loop-index.invariant c.index-item.is c.in_ok-packet.ensures.packet (c.push_reserved.ensures.items ∙ ap (λ l. l ++ c.in_ok-packet.packet ∷ []) c.reserve.ensures.items)
