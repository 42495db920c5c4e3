use Rattle.std.proofs.Common.{◌≡◌, ◌+◌, ◌≤◌, ◌*◌, ◌++◌, drop, length, map, vec_capacity, vec_len}
use Rattle.std.specs.List.{flat_map}
use Rattle.std.specs.Vec.Iter.{into_iter_items}
use Rattle.bt_messages.specs.Bins.{each_with}
use Rattle.bt_messages.specs.Parts.{parted, total}
use Rattle.bt_messages.specs.Shares.{AreShares, counts}
use Rattle.bt_message.specs.Weights.{weigh_of}
use Rattle.bt_plan.specs.Cuts.{hole_of}
use Rattle.bt_plan.specs.Pieces.{holes, with_holes}
use Rattle.bt_plan.specs.Views.{job_of, node_place}
use Rattle.bt_plan.specs.inside.Cutting.{AreSizedNodes, cut_each, kept_bins}
use Rattle.bt_plan.proofs.cutting.+cuts.Given as goal

-- the children so far, and then those that are left with their pending messages
abbrev pub invariant-cut_children-loop-node : goal.invariant-cut_children-loop-node
invariant-cut_children-loop-node g l = record {
  children : l.children.items ++ map (with_holes hole_of) (cut_each (weigh_of g.V.Merge.terms) l.at.depth l.at.mode l.at.shape (node_place l.at.place) l.number
      l.node-iterator.rest.items (each_with (parted (counts (drop l.number l.shares)) l.stream) (into_iter_items l.buffers)) (drop l.number l.marks))
      ≡ map (with_holes hole_of) (cut_each (weigh_of g.V.Merge.terms) l.fn.at.depth l.fn.at.mode l.fn.at.shape (node_place l.fn.at.place) 0 l.fn.nodes.items
      (each_with (parted (counts l.fn.shares) l.fn.stream) l.fn.buffers.items) l.fn.marks);
  kept : l.kept.items ++ kept_bins (each_with (parted (counts (drop l.number l.shares)) l.stream) (into_iter_items l.buffers)) (drop l.number l.marks)
      ≡ kept_bins (each_with (parted (counts l.fn.shares) l.fn.stream) l.fn.buffers.items) l.fn.marks;
  jobs : map job_of l.jobs.items ++ flat_map holes (cut_each (weigh_of g.V.Merge.terms) l.at.depth l.at.mode l.at.shape (node_place l.at.place) l.number
      l.node-iterator.rest.items (each_with (parted (counts (drop l.number l.shares)) l.stream) (into_iter_items l.buffers)) (drop l.number l.marks))
      ≡ map job_of l.fn.jobs.items ++ flat_map holes (cut_each (weigh_of g.V.Merge.terms) l.fn.at.depth l.fn.at.mode l.fn.at.shape (node_place l.fn.at.place) 0
      l.fn.nodes.items (each_with (parted (counts l.fn.shares) l.fn.stream) l.fn.buffers.items) l.fn.marks);
  left : drop (total (counts (drop l.number l.shares))) l.stream ≡ drop (total (counts l.fn.shares)) l.fn.stream;
  weighed : AreShares (weigh_of g.V.Merge.terms) l.stream (drop l.number l.shares);
  number : l.number + length l.node-iterator.rest.items ≡ length l.fn.nodes.items;
  buffers : length (into_iter_items l.buffers) ≡ length l.node-iterator.rest.items;
  sized : AreSizedNodes (weigh_of g.V.Merge.terms) l.at.shape l.node-iterator.rest.items;
  made : vec_len l.children ≤ l.number;
  made_bins : vec_len l.kept ≤ l.number;
  room : length l.fn.nodes.items ≤ vec_capacity l.children;
  room_for_bins : length l.fn.nodes.items ≤ vec_capacity l.kept;
}

-- a node of depth d opens at depth d - 1
abbrev pub decreases-cut_node : goal.decreases-cut_node
decreases-cut_node g l = 4 * l.at.depth

abbrev pub decreases-cut_child : goal.decreases-cut_child
decreases-cut_child g l = 4 * l.at.depth + 1

abbrev pub decreases-cut_children : goal.decreases-cut_children
decreases-cut_children g l = 4 * l.at.now.depth + 2

abbrev pub decreases-cut_inner : goal.decreases-cut_inner
decreases-cut_inner g l = 4 * l.at.now.depth + 3
