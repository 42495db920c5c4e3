use Rattle.std.proofs.Common.{◌≡◌, ◌∙◌, ap, fold, length, map, subst, sym}
use Rattle.std.proofs.lemmas.List.{length-map}
use Rattle.std.proofs.lemmas.List.Elements.{All-head, All-tail}
use Rattle.std.specs.List.{All}
use Rattle.std.specs.Vec.Iter.{into_iter_items}
use Rattle.bt_fanout.specs.inside.PacketGroups.{with_next}
use Rattle.bt_fanout.proofs.PacketGroups.{length-with_next}
use Rattle.bt_fanout.proofs.joint_packets.packet_groups.Goals as goal

pub with_packets-requires : goal.with_packets-requires
with_packets-requires c =
    let so_far = c.loop-list.invariant in
    ap length c.list.view_is
    ∙ All-head (λ list. length list ≡ c.args.count) c.in-Some.list (into_iter_items c.next.new.self)
    (subst (All (λ list. length list ≡ c.args.count)) c.in-Some.ensures.steps.0 so_far.lengths)
    ∙ sym so_far.same

pub loop-list-preserved : goal.loop-list-preserved
loop-list-preserved c =
    let so_far = c.loop-list.invariant in
    let later = into_iter_items c.next.new.self in
    let steps = c.in-Some.ensures.steps.0 in
    let groups = map (λ group. group.items) c.loop-list.groups.items in
    let more : map (λ group. group.items) c.in_ok-groups-2.groups.items ≡ with_next groups c.in-Some.list = c.in_ok-groups-2.ensures ∙ ap (with_next groups) c.list.view_is in
    let long : length c.in-Some.list ≡ c.args.count =
    All-head (λ list. length list ≡ c.args.count) c.in-Some.list later (subst (All (λ list. length list ≡ c.args.count)) steps so_far.lengths) in
    let count : length groups ≡ c.args.count = length-map c.loop-list.groups.items (λ group. group.items) ∙ so_far.same in
    record {
      lengths = All-tail (λ list. length list ≡ c.args.count) c.in-Some.list later (subst (All (λ list. length list ≡ c.args.count)) steps so_far.lengths);
      same = sym (length-map c.in_ok-groups-2.groups.items (λ group. group.items)) ∙ ap length more ∙ length-with_next groups c.in-Some.list (long ∙ sym count) ∙ count;
      groups = ap (λ gs. fold with_next gs later) more ∙ ap (fold with_next groups) (sym steps) ∙ so_far.groups;
    }
