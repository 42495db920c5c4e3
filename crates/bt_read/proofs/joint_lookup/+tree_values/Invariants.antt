use Rattle.std.proofs.Common.{◌≡◌, ◌-◌, ◌≤◌, ◌++◌, drop, length, map}
use Rattle.bt_message.specs.Effects.{effect_of}
use Rattle.bt_form.specs.Trees.{height}
use Rattle.bt_read.specs.inside.ValuesSoFar.{option_of}
use Rattle.bt_read.specs.inside.Together.{tree_values}
use Rattle.bt_read.proofs.joint_lookup.+tree_values.Given as goal

-- the values so far, and those of the keys that are left
abbrev pub invariant-loop-done : goal.invariant-loop-done
invariant-loop-done g l =
    let effect = effect_of g.V.Merge.terms.merged in
    record {
      wanted : map option_of l.values.items ++ tree_values effect (map (λ k. k.now) (drop l.done l.fn.keys)) l.fn.node ≡ tree_values effect (map (λ k. k.now) l.fn.keys) l.fn.node;
      within : l.done ≤ length l.fn.keys;
    }

abbrev pub decreases-loop-done : goal.decreases-loop-done
decreases-loop-done g l = length l.fn.keys - l.done

abbrev pub decreases-tree_values : goal.decreases-tree_values
decreases-tree_values g l = height l.node.now
