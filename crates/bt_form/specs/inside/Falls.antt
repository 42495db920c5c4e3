-- Nodes are larger than what is below them.
use Rattle.std.specs.Prelude.{◌≡◌, ◌≤◌, ◌+◌, ◌*◌, max, length, List, [], ◌∷◌}
use Rattle.std.specs.List.{zip}
use Rattle.std.proofs.Common.{arith}
use denote.Param.Weighed.{most}
use Rattle.bt_message.specs.declared.message.Merge.{Ghosts}
use Rattle.bt_form.specs.declared.node.NodeKind.{NodeKind}
use Rattle.bt_form.specs.declared.node.NodeKind.TheVariants.{Leaf, Inner}
use Rattle.bt_form.specs.declared.node.Node.TheDeep.{deep-NodeKind}
use Rattle.bt_keycode.specs.Keys.{Key}
use Rattle.bt_form.specs.Trees.{Tree, height, height_below, nodes, with_pivots}
use Rattle.bt_form.specs.inside.NodeKinds.{tree_of}

pub below_node : {V D : Type 0} (merge : Ghosts V D) (k : NodeKind V D) → max (deep-NodeKind V D merge k) 0 ≤ 2 * height (tree_of k)
below_node merge (Leaf rows) = omega arith
below_node merge (Inner children bins) = omega arith

zipped : {V M : Type 0} (ks : List Key) (ts : List (Tree V M)) → length ts ≤ length ks → most (λ t. 2 * height t + 1) ts ≤ 2 * height_below (nodes (zip ks ts)) + 1
zipped [] [] few = omega arith
zipped [] (t ∷ ts) few = absurd (omega (arith, few))
zipped (k ∷ ks) [] few = omega arith
zipped (k ∷ ks) (t ∷ ts) few = omega (arith, zipped ks ts (omega (arith, few)))

pub below_siblings : {V M : Type 0} (ks : List Key) (ts : List (Tree V M)) → length ts ≡ length ks + 1 → max (most (λ t. 2 * height t + 1) ts) 0 ≤ 2 * height_below (nodes (with_pivots ks ts)) + 1
below_siblings ks ts same = omega (arith, zipped ([] ∷ ks) ts (omega (arith, same)))
