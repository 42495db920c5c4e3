-- Pages in an order: that of the keys, or the opposite one.
use Rattle.std.specs.Prelude.{ℕ, List, Result, reverse, take}
use Rattle.bt_value.specs.Results.{and_then, map_ok}
use Rattle.bt_value.specs.declared.refusal.Refusal.{Refusal}
use Rattle.bt_value.specs.declared.value.Value.{Value}
use Rattle.bt_form.specs.Messages.{Rows}
use Rattle.bt_table.specs.Calls.{NamedTree, tree_named}
use Rattle.bt_table.specs.Tables.{TableState}
use Rattle.bt_show.specs.declared.range.KeyRange.{KeyRange}
use Rattle.bt_view.specs.Ranges.{rows_between}
use Rattle.bt_view.specs.declared.pages.RowOrder.{RowOrder}
use Rattle.bt_view.specs.declared.pages.RowOrder.TheVariants.{Falling, Rising}

-- rows in an order, from those in rising order
abbrev pub in_order : {R : Type 0} → RowOrder → List R → List R
in_order Rising rows = rows
in_order Falling rows = reverse rows

-- a page of a tree: the first rows of a range in an order, at most this many
abbrev pub page_of : RowOrder → KeyRange → ℕ → NamedTree → Result (Rows (List Value)) Refusal
page_of order range limit tree = map_ok (λ rows. take limit (in_order order rows)) (rows_between range tree)

-- a page of the tree of this name
abbrev pub page : RowOrder → TableState → List ℕ → KeyRange → ℕ → Result (Rows (List Value)) Refusal
page order state name range limit = and_then (page_of order range limit) (tree_named state name)
