use Rattle.bt_messages.proofs.PacketMerges.{newer_after, older_after}
use Rattle.bt_messages.proofs.packet.Packet.merge.Goals as goal

pub append-requires : goal.append-requires
append-requires g c =
    older_after c.in_ok-merged.merged c.merge_both.new.older c.merge_both.new.newer c.in_ok-into_packet.field-0 c.into_stream-older.result
    c.into_stream-newer.result c.in_ok-merged.ensures.merged c.in_ok-merged.ensures.sorted
    c.in_ok-into_packet.ensures

pub append-requires-2 : goal.append-requires-2
append-requires-2 g c =
    newer_after c.in_ok-merged.merged c.merge_both.new.older c.merge_both.new.newer c.in_ok-into_packet.field-0 c.in_ok-into_packet-2.field-0
    c.append.new.self c.into_stream-older.result c.into_stream-newer.result
    c.in_ok-merged.ensures.merged c.in_ok-merged.ensures.sorted c.in_ok-into_packet.ensures c.in_ok-append.ensures.ok c.in_ok-into_packet-2.ensures
