-- How much a tree of a table holds.
use Rattle.std.specs.Prelude.{ℕ, List, Result}
use Rattle.bt_value.specs.Results.{map_ok}
use Rattle.bt_value.specs.declared.refusal.Refusal.{Refusal}
use Rattle.bt_table.specs.Calls.{NamedTree, Primary, Secondary, tree_named}
use Rattle.bt_table.specs.Tables.{TableState}
use Rattle.bt_show.specs.declared.tree_usage.TreeUsage.{TreeUsage}
-- those of bt_show
pub use Rattle.bt_show.specs.Usage.{leaf_rows, leaf_rows_below, pending, pending_below, counted, usage_of}

abbrev pub usage_of_named : NamedTree → TreeUsage
usage_of_named (Primary table) = usage_of table.tree
usage_of_named (Secondary table index) = usage_of index.tree.1

-- how much the tree of this name holds
abbrev pub usage : TableState → List ℕ → Result TreeUsage Refusal
usage state name = map_ok usage_of_named (tree_named state name)
