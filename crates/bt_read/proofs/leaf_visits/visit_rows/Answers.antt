use Rattle.std.proofs.Common.{◌≡◌, ◌∙◌, ap, arith, fold, length, take}
use Rattle.std.proofs.lemmas.List.{length-take, take_min}
use Rattle.std.specs.Prelude.{min}
use Rattle.bt_read.proofs.lemmas.code.RowsLimited.{counted_shown}
use Rattle.bt_read.proofs.leaf_visits.visit_rows.Goals as goal

pub returns : goal.returns
returns g c =
    let visited = g.S.Visitor.visited in
    let rows = c.args.rows.now in
    let count = c.count_up_to-count.result in
    let all : c.loop-key.key-index ≡ min count (length rows) = omega (arith, length-take count rows) in
    counted_shown visited c.args.visitor.now c.loop-key.visitor c.args.limit.now c.count_up_to-count.new.self count rows c.count_up_to-count.ensures
    (c.loop-key.invariant ∙ ap (fold visited c.args.visitor.now) (ap (λ n. take n rows) all ∙ take_min count rows))
