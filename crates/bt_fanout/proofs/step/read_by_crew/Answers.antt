use Rattle.std.proofs.Common.{◌∙◌, ◌-◌, [], ap, arith, fold}
use Rattle.bt_form.specs.Flushes.{holds}
use Rattle.bt_node.proofs.offered.ShapedTrees.{holds-sorted}
use Rattle.bt_fanout.specs.Covers.{next_rows}
use Rattle.bt_fanout.specs.Effects.{row_effect, row_meaning}
use Rattle.bt_fanout.specs.inside.Portions.{Puts, puts_after_row}
use Rattle.bt_fanout.specs.inside.Readings.{RowsRead, after_row, rows_between}
use Rattle.bt_fanout.proofs.RowsBetween.{between_next}
use Rattle.bt_fanout.proofs.RowsRead.{count_is, cover_is, left-within, messages_read, next_within}
use Rattle.bt_fanout.proofs.step.read_by_crew.Goals as goal

pub overflow_sub-read : goal.overflow_sub-read
overflow_sub-read g c =
    let rows = holds row_effect c.args.tree.now.1 in
    let read = c.in_ok-read_next.ensures ∙ ap (λ (r : RowsRead). fold after_row r (next_rows c.args.count c.args.cover.now rows)) c.new-counter.ensures in
    omega (arith, ap (λ (r : RowsRead). r.left) c.counter.view_is, left-within c.args.count c.args.cover.now rows c.read_next.new.visitor read)

pub returns : goal.returns
returns g c =
    let def = c.args.def.now in
    let cover = c.args.cover.now in
    let rows = holds row_effect c.args.tree.now.1 in
    let next = next_rows c.args.count cover rows in
    let counter = c.read_next.new.visitor in
    let read = c.in_ok-read_next.ensures ∙ ap (λ (r : RowsRead). fold after_row r next) c.new-counter.ensures in
    let moved = c.in_ok-later.ensures ∙ cover_is c.args.count cover rows counter read in
    let sorted = holds-sorted row_meaning c.args.tree.now.0 c.args.tree.now.1 c.walk-root.ensures.fits in
    let between = ap (λ later. rows_between cover later rows) moved ∙ between_next c.args.count cover rows sorted in
    record {
      messages =
          ap (λ (p : Puts). p.1) (c.messages.view_is ∙ c.in_ok-messages.ensures ∙ ap (fold puts_after_row (def, [])) between)
          ∙ messages_read def next (next_within def c.args.count cover rows c.requires);
      cover = moved;
      read = ap (λ (r : RowsRead). c.args.count - r.left) c.counter.view_is ∙ count_is c.args.count cover rows counter read;
    }
