use Rattle.std.proofs.Common.{◌+◌, take}
use Rattle.std.specs.Prelude.{flat_map}
use Rattle.bt_form.specs.Walks.{rows_of}
use Rattle.bt_show.specs.Images.{leaf_row_line}
use Rattle.bt_show.proofs.Drawings.{lines_next, written_more}
use Rattle.bt_show.proofs.tree_image.write_rows.Goals as goal

pub loop-place-preserved : goal.loop-place-preserved
loop-place-preserved g c =
    let f = leaf_row_line (g.D.Drawing.value_text c.args.drawing.now) c.args.indent.now in
    let rows = rows_of c.args.walk.now in
    let i = c.loop-place.place in
    written_more c.args.out.now.items c.loop-place.out.items c.write_value_line.new.out.items (flat_map f (take i rows)) (flat_map f (take (i + 1) rows)) (f (c.row.result.0.now, c.row.result.1.now))
    c.in_ok-write_value_line.ensures c.loop-place.invariant (lines_next f rows i (c.row.result.0.now, c.row.result.1.now) c.row.ensures)
