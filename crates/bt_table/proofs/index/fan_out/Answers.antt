use Rattle.std.proofs.Common.{◌≡◌, ◌∙◌, ap, length, map, refl, subst, sym}
use Rattle.std.proofs.lemmas.List.{length-map}
use Rattle.bt_form.specs.Flushes.{holds}
use Rattle.bt_fanout.specs.Effects.{effects_within, row_effect}
use Rattle.bt_fanout.specs.Targets.{SuitAll, packet_of}
use Rattle.bt_table.specs.inside.IndexTrees.{packet_for}
use Rattle.bt_table.proofs.Indexes.{all_counts, all_packets, suit-within}
use Rattle.bt_table.proofs.Targets.{packets_of_targets, suit_targets}
use Rattle.bt_table.proofs.index.fan_out.Goals as goal

pub index_packets-requires-clause-suits : goal.index_packets-requires-clause-suits
index_packets-requires-clause-suits g c =
    let rows = holds row_effect c.args.tree.now.1 in
    let cover = c.widest_cover-cover.result.now in
    let effects = effects_within cover c.args.packet.now rows in
    subst (λ targets. SuitAll targets effects) (sym c.as_slice.ensures.value)
    (suit_targets c.in_ok-targets.targets.items c.args.heads.now c.in_ok-targets.ensures effects (suit-within c.args.packet.now rows cover c.args.heads.now c.requires.suits))

pub sent_counts-requires : goal.sent_counts-requires
sent_counts-requires g c =
    let effects = effects_within c.widest_cover-cover.result.now c.args.packet.now (holds row_effect c.args.tree.now.1) in
    let packets : c.in_ok-packets.packets.items ≡ map (packet_for effects) c.args.heads.now =
    c.in_ok-packets.ensures.packets ∙ ap (map (packet_of effects)) c.as_slice.ensures.value
    ∙ packets_of_targets c.in_ok-targets.targets.items c.args.heads.now c.in_ok-targets.ensures effects in
    ap length (c.as_slice-2.ensures.value ∙ packets) ∙ length-map c.args.heads.now (packet_for effects)

pub returns-clause-packets : goal.returns-clause-packets
returns-clause-packets g c =
    let rows = holds row_effect c.args.tree.now.1 in
    let effects = effects_within c.widest_cover-cover.result.now c.args.packet.now rows in
    c.in_ok-packets.ensures.packets ∙ ap (map (packet_of effects)) c.as_slice.ensures.value
    ∙ packets_of_targets c.in_ok-targets.targets.items c.args.heads.now c.in_ok-targets.ensures effects
    ∙ all_packets c.args.packet.now rows c.args.heads.now _ c.widest_cover-cover.ensures effects refl

pub returns-clause-sent : goal.returns-clause-sent
returns-clause-sent g c =
    let rows = holds row_effect c.args.tree.now.1 in
    let effects = effects_within c.widest_cover-cover.result.now c.args.packet.now rows in
    let packets : c.in_ok-packets.packets.items ≡ map (packet_for effects) c.args.heads.now =
    c.in_ok-packets.ensures.packets ∙ ap (map (packet_of effects)) c.as_slice.ensures.value
    ∙ packets_of_targets c.in_ok-targets.targets.items c.args.heads.now c.in_ok-targets.ensures effects in
    c.in_ok-sent.ensures effects (c.as_slice-2.ensures.value ∙ packets) ∙ all_counts c.args.packet.now rows c.args.heads.now _ c.widest_cover-cover.ensures effects refl
