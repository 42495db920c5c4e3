use Rattle.std.proofs.Common.{◌≡◌, ◌+◌, ◌≤◌, ◌++◌, vec_capacity, vec_len}
use Rattle.std.specs.Vec.Iter.{into_iter_len}
use Rattle.bt_message.specs.Meanings.{meaning_of}
use Rattle.bt_gather.specs.Rounds.{all_sunk}
use Rattle.bt_table.proofs.alone.sink_each.Given as goal

-- the trees so far, and then those that are left
abbrev pub invariant-loop-tree : goal.invariant-loop-tree
invariant-loop-tree g l =
    let meaning = meaning_of g.V.Merge.terms in record {
      trees : l.sunk.items ++ all_sunk meaning l.tree-iterator.rest.items ≡ all_sunk meaning l.fn.trees.items;
      room : vec_len l.sunk + into_iter_len l.tree-iterator ≤ vec_capacity l.sunk;
    }
