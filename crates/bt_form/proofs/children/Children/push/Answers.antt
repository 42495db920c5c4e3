use Rattle.std.proofs.Common.{◌++◌, ◌∷◌, [], ◌∙◌, ap, append-nil, arith, length, refl, sym}
use Rattle.bt_form.proofs.offered.code.ChildLists.{AreAligned, AreAppended, all_appended, is_next, listed, same_children, still_aligned}
use Rattle.bt_form.proofs.children.Children.push.Given.{Over}
use Rattle.bt_form.proofs.children.Children.push.Goals as goal

pub invariant_of-self : goal.invariant_of-self
invariant_of-self g c =
    let same = c.make_room.ensures in
    (omega (arith, ap length same.bins, ap length same.nodes, c.self.invariant.0), omega (arith, ap length same.pivots, ap length same.nodes, c.self.invariant.1))

pub same-pivot : goal.same-pivot
same-pivot g c = refl

pub add_pivot-requires : goal.add_pivot-requires
add_pivot-requires g c = omega (arith, c.in_ok-make_room.ensures.room_for_pivots)

pub same-node : goal.same-node
same-node g c = refl

pub push_reserved-requires : goal.push_reserved-requires
push_reserved-requires g c = omega (arith, c.in_ok-make_room.ensures.room_for_nodes)

pub same-pending : goal.same-pending
same-pending g c = refl

pub push_reserved-requires-2 : goal.push_reserved-requires-2
push_reserved-requires-2 g c = omega (arith, c.in_ok-make_room.ensures.room_for_bins)

-- the child is appended to the lists, which have room for it
appended : (g : Over) (c : goal.After-push_reserved-2 g) →
    AreAppended (listed c.self.inside.first c.make_room.new.pivots.items c.make_room.new.nodes.items c.make_room.new.bins.items) (listed c.args.pivot [] (c.args.node ∷ []) (c.args.pending ∷ []))
    (listed c.add_pivot.new.first c.add_pivot.new.pivots.items c.push_reserved.new.self.items c.push_reserved-2.new.self.items)
appended g c = record {
  between = c.add_pivot.new.pivots.items;
  next = is_next _ c.is_empty-begins.ensures (omega (arith, c.make_room.new.nodes.ok.0)) c.add_pivot.ensures.first c.add_pivot.ensures.between;
  pivots = sym (append-nil c.add_pivot.new.pivots.items);
  trees = c.push_reserved.ensures.items;
  bins = c.push_reserved-2.ensures.items;
}

aligned : (g : Over) (c : goal.After-push_reserved-2 g) → AreAligned (listed c.self.inside.first c.make_room.new.pivots.items c.make_room.new.nodes.items c.make_room.new.bins.items)
aligned g c =
    let same = c.make_room.ensures in
    record {
      bins = omega (arith, ap length same.bins, ap length same.nodes, c.self.invariant.0);
      pivots = omega (arith, ap length same.pivots, ap length same.nodes, c.self.invariant.1);
    }

pub invariant_of-self-2 : goal.invariant_of-self-2
invariant_of-self-2 g c =
    let all = still_aligned (aligned g c) (appended g c) (record { bins = refl; pivots = omega arith }) (omega arith) in
    (all.bins, all.pivots)

pub returns : goal.returns
returns g c =
    let same = c.make_room.ensures in
    all_appended (aligned g c) (appended g c)
    ∙ ap (λ cs. cs ++ record { pivot = c.args.pivot; tree = c.args.node; pending = c.args.pending } ∷ [])
    (same_children c.self.inside.first same.pivots same.nodes same.bins ∙ c.self.view_is)
