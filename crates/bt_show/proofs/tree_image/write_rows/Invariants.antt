use Rattle.std.proofs.Common.{◌≡◌, ◌++◌, take}
use Rattle.std.specs.Prelude.{flat_map}
use Rattle.bt_form.specs.Walks.{rows_of}
use Rattle.bt_show.specs.Images.{leaf_row_line}
use Rattle.bt_show.proofs.tree_image.write_rows.Given as goal

-- the lines of the rows so far were added
abbrev pub invariant-loop-place : goal.invariant-loop-place
invariant-loop-place g l = l.out.items ≡ l.fn.out.items ++ flat_map (leaf_row_line (g.D.Drawing.value_text l.drawing) l.indent) (take l.place (rows_of l.walk))
