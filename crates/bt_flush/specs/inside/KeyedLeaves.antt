-- Leaves with their smallest keys.
use Rattle.std.specs.Prelude.{ℕ, List, length, map}
use Rattle.bt_form.specs.Deals.{parted, sizes}
use Rattle.bt_form.specs.Flushes.{first_key}
use Rattle.bt_form.specs.Messages.{Rows}
use Rattle.bt_form.specs.Trees.{Shape, Siblings, leaf}

-- the number of leaves that this many rows are dealt into
abbrev pub leaf_count : Shape → ℕ → ℕ
leaf_count shape count = length (sizes count shape.leaf)

-- rows in leaves of these sizes, each leaf with its smallest key
abbrev pub keyed_leaves : {V M : Type 0} → List ℕ → Rows V → Siblings V M
keyed_leaves ns rows = map (λ part. (first_key (λ r. r.0) part, leaf part)) (parted ns rows)

-- All leaves of these rows, each with its smallest key. Side by side they are `leaves`, where the first has the empty key.
abbrev pub all_leaves : {V M : Type 0} → Shape → Rows V → Siblings V M
all_leaves shape rows = keyed_leaves (sizes (length rows) shape.leaf) rows
