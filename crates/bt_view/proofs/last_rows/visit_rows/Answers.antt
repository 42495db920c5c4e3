use Rattle.std.proofs.Common.{[], ◌∷◌, ◌∙◌, ◌-◌, ap, fold, reverse, take}
use Rattle.bt_view.proofs.LastRows.{last_first, room_left}
use Rattle.bt_view.proofs.last_rows.visit_rows.Goals as goal

pub loop-left-preserved-in_ok-visit : goal.loop-left-preserved-in_ok-visit
loop-left-preserved-in_ok-visit g c =
    let visited = g.S.Visitor.visited in
    let rows = c.loop-left.rows.items in
    let earlier = c.pop.new.self.items in
    let room = room_left c.loop-left.left rows earlier ((c.in-Some.key, c.in-Some.value) ∷ []) c.in-Some.ensures.items in
    record {
      shown = ap (λ s. fold visited s (take (c.loop-left.left - 1) (reverse earlier))) c.in_ok-visit.ensures
          ∙ last_first visited c.loop-left.visitor c.loop-left.left rows earlier (c.in-Some.key, c.in-Some.value) c.loop-left-test.true c.in-Some.ensures.items
          ∙ c.loop-left.invariant.shown;
      room = room ∙ c.loop-left.invariant.room;
    }
