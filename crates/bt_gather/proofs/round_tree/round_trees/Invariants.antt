use Rattle.std.proofs.Common.{◌≡◌, ◌+◌, ◌≤◌, ◌++◌, vec_capacity, vec_len}
use Rattle.std.specs.List.{All}
use Rattle.std.specs.Vec.Iter.{into_iter_len}
use Rattle.bt_message.specs.Meanings.{meaning_of}
use Rattle.bt_form.specs.Fits.{HasShape}
use Rattle.bt_gather.specs.Rounds.{all_sunk}
use Rattle.bt_gather.specs.inside.RoundJobs.{AreRunnable, all_pieces}
use Rattle.bt_gather.specs.declared.round_tree.TheConstants.{MOST_TREES}
use Rattle.bt_gather.specs.inside.RoundTrees.{AreFilledBy, IsEmptyWithRoom, trees_with}
use Rattle.bt_gather.proofs.round_tree.round_trees.Given as goal

-- the resulting trees so far, and then those that are left
abbrev pub invariant-loop-tree : goal.invariant-loop-tree
invariant-loop-tree g l =
    let meaning = meaning_of g.V.Merge.terms in record {
      runnable : AreRunnable l.jobs.items;
      fill : AreFilledBy meaning.weigh l.list.items (all_pieces meaning l.jobs.items);
      give : trees_with l.list.items (all_pieces meaning l.jobs.items) ++ all_sunk meaning l.tree-iterator.rest.items ≡ all_sunk meaning l.fn.trees.items;
      fit : All (λ x. HasShape meaning.weigh x.0.0 x.0.1) l.tree-iterator.rest.items → All (λ x. HasShape meaning.weigh x.0.0 x.0.1) l.fn.trees.items;
      number : l.number + into_iter_len l.tree-iterator ≤ MOST_TREES;
      space : vec_len l.list + into_iter_len l.tree-iterator ≤ vec_capacity l.list;
      room : IsEmptyWithRoom l.room (vec_len l.list + into_iter_len l.tree-iterator);
    }
