use Rattle.std.proofs.Common.{◌-◌, ◌++◌, ◌∷◌, [], ◌∙◌, ap, arith, length, replicate}
use Rattle.bt_form.specs.Children.{after_pivot}
use Rattle.bt_form.proofs.offered.code.ChildLists.{AreAligned, AreAppended, all_appended, children_of, is_next, listed, same_children, siblings_listed}
use Rattle.bt_form.proofs.children.Children.append.Goals as goal

pub returns : goal.returns
returns g c =
    let same = c.make_room.ensures in
    let apart = c.apart-nodes.ensures in
    let us = c.apart-nodes.result.0 in
    let ls = c.apart-nodes.result.1.items in
    let old = listed c.self.inside.first c.make_room.new.pivots.items c.make_room.new.nodes.items c.make_room.new.bins.items in
    let more = listed c.args.pivot ls us.items (c.args.pending ∷ replicate (c.len-count.result - 1) []) in
    let new = listed c.add_pivot.new.first c.append_items-2.new.into.items c.append_items.new.into.items c.push_bins.new.bins.items in
    let aligned : AreAligned old = record {
      bins = omega (arith, ap length same.bins, ap length same.nodes, c.self.invariant.0);
      pivots = omega (arith, ap length same.pivots, ap length same.nodes, c.self.invariant.1);
    } in
    let appended : AreAppended old more new = record {
      between = c.add_pivot.new.pivots.items;
      next = is_next _ c.is_empty-begins.ensures (omega (arith, c.make_room.new.nodes.ok.0)) c.add_pivot.ensures.first c.add_pivot.ensures.between;
      pivots = c.append_items-2.ensures;
      trees = c.append_items.ensures;
      bins = c.push_bins.ensures;
    } in
    all_appended aligned appended
    ∙ ap (λ cs. children_of old ++ cs) (siblings_listed c.args.pivot c.args.pending ls us.items apart.parts apart.one_fewer (omega (arith, c.len-count.ensures, us.ok.0)))
    ∙ ap (λ cs. cs ++ after_pivot c.args.pivot c.args.pending c.args.siblings) (same_children c.self.inside.first same.pivots same.nodes same.bins ∙ c.self.view_is)
