use Rattle.std.proofs.Common.{◌≡◌, ◌∙◌, [], ap, fold, length, map, refl, replicate, subst, sym}
use mathlib.Core.List.{map-map}
use Rattle.std.proofs.lemmas.Result.{IfOk-weaker}
use Rattle.std.specs.List.{All}
use Rattle.bt_value.specs.Lists.{concatenation}
use Rattle.bt_message.specs.Messages.{sorted_batch}
use Rattle.bt_form.specs.Flushes.{holds}
use Rattle.bt_fanout.specs.Effects.{effects_within, row_effect}
use Rattle.bt_fanout.specs.Targets.{SuitAll, packet_of}
use Rattle.bt_fanout.specs.inside.PacketGroups.{effects_in_group, with_next}
use Rattle.bt_fanout.proofs.EffectJobs.{named_as_many, named_effects, named_few, named_rise}
use Rattle.bt_fanout.proofs.PacketGroups.{groups_are, lengths_are, merged_packets_are, suits_each_job}
use Rattle.bt_fanout.proofs.joint_packets.index_packets.Goals as goal

pub job_groups-requires-clause-rising : goal.job_groups-requires-clause-rising
job_groups-requires-clause-rising g c =
    named_rise (λ k. k.now) c.args.cover.now c.args.packet.now c.in_ok-keys.field-0.keys.items c.in_ok-keys.field-0.others.items c.in_ok-keys.ensures.keys c.in_ok-keys.ensures.others
    c.in_ok-keys.ensures.sorted c.as_slice.result.now c.as_slice-2.result.now c.as_slice.ensures.value c.as_slice-2.ensures.value

pub job_groups-requires-clause-same : goal.job_groups-requires-clause-same
job_groups-requires-clause-same g c =
    named_as_many (λ k. k.now) c.args.cover.now c.args.packet.now c.in_ok-keys.field-0.keys.items c.in_ok-keys.field-0.others.items c.in_ok-keys.ensures.keys
    c.in_ok-keys.ensures.others c.in_ok-keys.ensures.sorted c.as_slice.result.now c.as_slice-2.result.now c.as_slice.ensures.value c.as_slice-2.ensures.value

pub job_groups-requires-clause-few : goal.job_groups-requires-clause-few
job_groups-requires-clause-few g c =
    named_few (λ k. k.now) c.args.cover.now c.args.packet.now c.in_ok-keys.field-0.keys.items c.in_ok-keys.field-0.others.items c.in_ok-keys.ensures.keys c.in_ok-keys.ensures.others
    c.in_ok-keys.ensures.sorted c.as_slice.result.now c.as_slice-2.result.now c.as_slice.ensures.value c.as_slice-2.ensures.value c.len.result _ c.len.ensures.count c.len.ensures.bound

pub job_values-requires-clause-accepts : goal.job_values-requires-clause-accepts
job_values-requires-clause-accepts g c κs within =
    let there = effects_in_group c.args.packet.now in
    let groups = c.in_ok-groups.groups.items in
    let all = c.in_ok-groups.ensures.effects c.args.packet.now
    ∙ named_effects (λ k. k.now) c.args.cover.now c.args.packet.now c.in_ok-keys.field-0.keys.items c.in_ok-keys.field-0.others.items c.in_ok-keys.ensures.keys
    c.in_ok-keys.ensures.others c.in_ok-keys.ensures.sorted c.as_slice.result.now c.as_slice-2.result.now c.as_slice.ensures.value c.as_slice-2.ensures.value
    (holds row_effect c.args.tree.now.1) in
    λ k d inside. (c.in_ok-groups.ensures.whole k d inside, suits_each_job there c.args.indexes.now groups (subst (SuitAll c.args.indexes.now) (sym all) c.requires) k d inside)

pub packet_groups-requires : goal.packet_groups-requires
packet_groups-requires g c =
    let there = effects_in_group c.args.packet.now in
    let indexes = c.args.indexes.now in
    let groups = c.in_ok-groups.groups.items in
    let lists : c.in_ok-lists.lists.items ≡ map (λ group. map (packet_of (there group)) indexes) groups =
    c.in_ok-lists.ensures.values (λ group. map (packet_of (there group)) indexes) (λ group d is. is) in
    subst (All (λ list. length list ≡ length indexes)) (sym lists) (lengths_are (λ group. packet_of (there group)) indexes (length indexes) groups refl)

pub returns : goal.returns
returns g c =
    let there = effects_in_group c.args.packet.now in
    let indexes = c.args.indexes.now in
    let groups = c.in_ok-groups.groups.items in
    let count = length indexes in
    let all = c.in_ok-groups.ensures.effects c.args.packet.now
    ∙ named_effects (λ k. k.now) c.args.cover.now c.args.packet.now c.in_ok-keys.field-0.keys.items c.in_ok-keys.field-0.others.items c.in_ok-keys.ensures.keys
    c.in_ok-keys.ensures.others c.in_ok-keys.ensures.sorted c.as_slice.result.now c.as_slice-2.result.now c.as_slice.ensures.value c.as_slice-2.ensures.value
    (holds row_effect c.args.tree.now.1) in
    let lists : c.in_ok-lists.lists.items ≡ map (λ group. map (packet_of (there group)) indexes) groups =
    c.in_ok-lists.ensures.values (λ group. map (packet_of (there group)) indexes) (λ group d is. is) in
    let packets = c.in_ok-packets.ensures ∙ ap (fold with_next (replicate count [])) lists ∙ groups_are (λ group. packet_of (there group)) indexes count groups refl in
    IfOk-weaker c.merged_groups.result _ _
    (λ merged is. is ∙ sym (map-map (λ ps. sorted_batch (concatenation ps)) (λ group. group.items) c.in_ok-packets.packets.items)
    ∙ ap (map (λ ps. sorted_batch (concatenation ps))) packets
    ∙ map-map (λ ps. sorted_batch (concatenation ps)) (λ index. map (λ group. packet_of (there group) index) groups) indexes
    ∙ merged_packets_are there indexes groups (effects_within c.args.cover.now c.args.packet.now (holds row_effect c.args.tree.now.1)) all)
    c.merged_groups.ensures
