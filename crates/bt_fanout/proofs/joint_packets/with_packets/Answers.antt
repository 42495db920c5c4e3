use Rattle.std.proofs.Common.{◌≡◌, ◌∙◌, ◌++◌, [], ap, append-nil, arith, length, map, sym}
use Rattle.std.proofs.lemmas.List.{nil_from_length}
use Rattle.std.specs.Vec.Iter.{into_iter_items}
use Rattle.bt_fanout.specs.inside.PacketGroups.{with_next}
use Rattle.bt_fanout.proofs.PacketGroups.{one_group}
use Rattle.bt_fanout.proofs.joint_packets.with_packets.Goals as goal

pub unreachable-requires : goal.unreachable-requires
unreachable-requires c =
    omega (arith, c.loop-group.invariant.same, c.loop-group.packets.rest.ok.0, c.in_default.ensures.cases.0, ap length c.in-Some.ensures.steps.0)

pub loop-group-preserved : goal.loop-group-preserved
loop-group-preserved c =
    let so_far = c.loop-group.invariant in
    let group = c.in-Some.ensures.steps.0 in
    let packet = c.in-Some-next.ensures.items in
    record {
      same = omega (arith, so_far.same, ap length group, ap length packet);
      groups = one_group (λ group. group.items) c.loop-group.more.items (with_next (map (λ group. group.items) c.args.groups.items) c.args.packets.items)
          (record { group = c.in-Some.group; item = c.in-Some-next.packet; left_is = group; items_are = packet; grown_is = c.in_ok-push.ensures.items })
          c.in_ok-push-2.ensures.items so_far.groups;
    }

pub returns : goal.returns
returns c =
    let left = c.loop-group.group-iterator.rest in
    let none : left.items ≡ [] = nil_from_length left.items (omega (arith, left.ok.0, c.in-None.ensures.steps.0)) in
    let more = map (λ group. group.items) c.loop-group.more.items in
    sym (append-nil more) ∙ ap (λ gs. more ++ with_next (map (λ group. group.items) gs) (into_iter_items c.loop-group.packets)) (sym none) ∙ c.loop-group.invariant.groups
