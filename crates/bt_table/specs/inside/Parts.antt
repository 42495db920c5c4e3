-- What is true of the parts of a table between any two calls.
use Rattle.std.specs.Prelude.{◌≡◌, ◌≤◌, List, Option, Some, None, length}
use Rattle.bt_row.specs.Schemas.{Schema}
use Rattle.bt_table.specs.Calls.{most_indexes}
use Rattle.bt_table.specs.Standing.{IsSoundUnlessLost}
use Rattle.bt_table.specs.Tables.{state_of}
use Rattle.bt_table.specs.declared.index.IndexHead.{IndexHead}
use Rattle.bt_table.specs.declared.trees.Trees.{Trees}

-- if there are trees, there is one tree of entries for each index, and no more indexes than a table may have
abbrev pub HasTreeEach : List IndexHead → Option Trees → Type 0
HasTreeEach heads None = Unit {0}
HasTreeEach heads (Some trees) = (length trees.entries.items ≡ length heads) × (length heads ≤ most_indexes)

-- they are a sound table, or a lost one, and each index has its tree
abbrev pub AreSoundParts : Schema → List IndexHead → Option Trees → Type 0
AreSoundParts schema heads trees = IsSoundUnlessLost (state_of schema heads trees) × HasTreeEach heads trees
