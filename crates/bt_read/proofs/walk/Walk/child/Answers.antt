use Rattle.std.proofs.Common.{◌<◌, ◌∙◌, Some, ap, arith, length, option_map, slice_get, sym}
use Rattle.std.proofs.lemmas.List.{length-map}
use Rattle.bt_message.specs.declared.message.Message.{Message}
use Rattle.bt_keycode.specs.Keys.{Key}
use Rattle.bt_form.specs.Trees.{Tree}
use Rattle.bt_form.proofs.offered.code.SiblingParts.{children_seen, read_at}
use Rattle.bt_read.proofs.walk.Walk.child.Goals as goal

pub bounds-nodes-place : goal.bounds-nodes-place
bounds-nodes-place g c =
    let seen = children_seen c.args.self.now c.self.inside.node.now c.kind.result.now c.in-Inner.children c.in-Inner.bins c.self.view_is c.kind.ensures.tree c.in-Inner.is in
    omega (arith, c.requires, ap length seen, ap length c.nodes.ensures, length-map {B = Tree g.row.V.Denot (Message g.row.V.Denot g.row.V-Delta.Denot)} c.in-Inner.children (λ x. x.1))

pub offset_bounds-nodes-place : goal.offset_bounds-nodes-place
offset_bounds-nodes-place g c =
    let seen = children_seen c.args.self.now c.self.inside.node.now c.kind.result.now c.in-Inner.children c.in-Inner.bins c.self.view_is c.kind.ensures.tree c.in-Inner.is in
    let within : c.args.place < length c.nodes.result.now =
    omega (
      arith,
      c.requires,
      ap length seen,
      ap length c.nodes.ensures,
      length-map {B =
          Tree g.row.V.Denot (Message g.row.V.Denot g.row.V-Delta.Denot)} c.in-Inner.children (λ x. x.1),
    ) in
    omega (arith, within, c.nodes.type_inv)

pub returns : goal.returns
returns g c =
    let seen = children_seen c.args.self.now c.self.inside.node.now c.kind.result.now c.in-Inner.children c.in-Inner.bins c.self.view_is c.kind.ensures.tree c.in-Inner.is in
    let within : c.args.place < length c.nodes.result.now =
    omega (
      arith,
      c.requires,
      ap length seen,
      ap length c.nodes.ensures,
      length-map {B =
          Tree g.row.V.Denot (Message g.row.V.Denot g.row.V-Delta.Denot)} c.in-Inner.children (λ x. x.1),
    ) in
    ap (λ ys. option_map (λ (y : Key × Tree g.row.V.Denot (Message g.row.V.Denot g.row.V-Delta.Denot)). y.1) (slice_get ys c.args.place)) seen
    ∙ read_at (λ (y : Key × Tree g.row.V.Denot (Message g.row.V.Denot g.row.V-Delta.Denot)). y.1) c.in-Inner.children c.nodes.result.now c.args.place
    c.index-nodes-place.result c.nodes.ensures within c.index-nodes-place.is
    ∙ ap Some (sym c.new.ensures)
