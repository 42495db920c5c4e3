use Rattle.std.proofs.Common.{◌∙◌, ap, arith, drop, map, sym}
use Rattle.bt_form.proofs.offered.code.ChildLists.{bins-whole, pivots-whole, trees-whole}
use Rattle.bt_form.proofs.children.Children.apart.Goals as goal

pub returns-clause-nodes : goal.returns-clause-nodes
returns-clause-nodes g c =
    let inside = c.self.inside in
    sym (trees-whole inside.first inside.pivots.items inside.nodes.items inside.bins.items c.self.invariant.0 (omega (arith, c.self.invariant.1))) ∙ ap (map (λ d. d.tree)) c.self.view_is

pub returns-clause-pivots : goal.returns-clause-pivots
returns-clause-pivots g c =
    let inside = c.self.inside in
    sym (pivots-whole inside.first inside.pivots.items inside.nodes.items inside.bins.items c.self.invariant.0 c.self.invariant.1) ∙ ap (λ cs. map (λ d. d.pivot) (drop 1 cs)) c.self.view_is

pub returns-clause-bins : goal.returns-clause-bins
returns-clause-bins g c =
    let inside = c.self.inside in
    sym (bins-whole inside.first inside.pivots.items inside.nodes.items inside.bins.items c.self.invariant.0 (omega (arith, c.self.invariant.1))) ∙ ap (map (λ d. d.pending)) c.self.view_is
