use Rattle.std.proofs.Common.{◌≡◌, ◌-◌, ◌<◌, fold, length, reverse, take}
use Rattle.std.specs.Option.{option_copied}
use Rattle.bt_message.specs.Effects.{effect_of}
use Rattle.bt_form.specs.Flushes.{holds}
use Rattle.bt_form.specs.Messages.{between}
use Rattle.bt_form.specs.Trees.{height}
use Rattle.bt_form.specs.Walks.{children_of}
use Rattle.bt_view.proofs.last_rows.+visit_pieces.Given as goal

-- what is still to be shown of the rows before the upper bound, and how many more may be shown after it
abbrev pub invariant-loop-left : goal.invariant-loop-left
invariant-loop-left g l =
    let visited = g.S.Visitor.visited in
    let rows = holds (effect_of g.V.Merge.terms.merged) l.tree in
    record {
      shown : fold visited l.visitor (take l.left (reverse (between (option_copied l.low) (option_copied l.high) rows)))
          ≡ fold visited l.fn.visitor (take l.fn.limit (reverse (between (option_copied l.low) (option_copied l.fn.high) rows)));
      room : l.left - length (between (option_copied l.low) (option_copied l.high) rows) ≡ l.fn.limit - length (between (option_copied l.low) (option_copied l.fn.high) rows);
      within : l.place < length (children_of l.node);
    }

abbrev pub decreases-loop-left : goal.decreases-loop-left
decreases-loop-left g l = l.place

abbrev pub decreases-visit_pieces : goal.decreases-visit_pieces
decreases-visit_pieces g l = height l.node.now
