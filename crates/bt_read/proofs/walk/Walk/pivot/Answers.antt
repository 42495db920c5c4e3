use Rattle.std.proofs.Common.{◌<◌, ◌-◌, ◌∙◌, ap, arith, length, option_map, slice_get}
use Rattle.bt_message.specs.declared.message.Message.{Message}
use Rattle.bt_keycode.specs.Keys.{Key}
use Rattle.bt_form.specs.Trees.{Tree}
use Rattle.bt_form.proofs.offered.code.SiblingParts.{children_seen, pivot_at, pivots_length}
use Rattle.bt_read.proofs.walk.Walk.pivot.Goals as goal

pub bounds-pivots-place : goal.bounds-pivots-place
bounds-pivots-place g c =
    let seen = children_seen c.args.self.now c.self.inside.node.now c.kind.result.now c.in-Inner.children c.in-Inner.bins c.self.view_is c.kind.ensures.tree c.in-Inner.is in
    omega (arith, c.requires.not_first, c.requires.within, ap length seen, pivots_length c.in-Inner.children c.pivots.result.now c.pivots.ensures.pivots c.pivots.ensures.some)

pub offset_bounds-pivots-place : goal.offset_bounds-pivots-place
offset_bounds-pivots-place g c =
    let seen = children_seen c.args.self.now c.self.inside.node.now c.kind.result.now c.in-Inner.children c.in-Inner.bins c.self.view_is c.kind.ensures.tree c.in-Inner.is in
    let within : c.args.place - 1 < length c.pivots.result.now =
    omega (
      arith,
      c.requires.not_first,
      c.requires.within,
      ap length seen,
      pivots_length c.in-Inner.children c.pivots.result.now c.pivots.ensures.pivots
          c.pivots.ensures.some,
    ) in
    omega (arith, within, c.pivots.type_inv)

pub returns : goal.returns
returns g c =
    let seen = children_seen c.args.self.now c.self.inside.node.now c.kind.result.now c.in-Inner.children c.in-Inner.bins c.self.view_is c.kind.ensures.tree c.in-Inner.is in
    ap (λ ys. option_map (λ (y : Key × Tree g.row.V.Denot (Message g.row.V.Denot g.row.V-Delta.Denot)). y.0) (slice_get ys c.args.place)) seen
    ∙ pivot_at c.in-Inner.children c.pivots.result.now c.args.place c.index-pivots-place.result c.pivots.ensures.pivots c.requires.not_first
    (omega (arith, c.requires.within, ap length seen)) c.index-pivots-place.is
