use Rattle.std.proofs.Common.{◌<◌, ◌≤◌, ◌∙◌, ◌++◌, ◌∷◌, ◌+◌, [], ap, arith, drop, length, map, refl, rules, subst, sym, take}
use Rattle.std.proofs.Math.Seq.{take-length}
use Rattle.std.proofs.lemmas.List.{length-append, length-map}
use Rattle.std.proofs.lemmas.Result.{IfOk-weaker, on_ok_weaker}
use Rattle.bt_value.specs.Lists.{concatenation}
use Rattle.bt_messages.specs.Bins.{LieBetween}
use Rattle.bt_message.specs.Messages.{with_messages}
use Rattle.bt_message.specs.Weights.{weigh_of}
use Rattle.bt_messages.proofs.offered.Shares.{share_at}
use Rattle.bt_form.specs.Fits.{IsSized}
use Rattle.bt_form.specs.Trees.{with_pivots}
use Rattle.bt_form.specs.declared.shape.TheConstants.{LARGEST_FANOUT}
use Rattle.bt_node.proofs.offered.FlushSteps.{children-nodes}
use Rattle.bt_plan.specs.Cuts.{hole_of}
use Rattle.bt_plan.specs.Pieces.{Place, holed_nodes, holes, opened, with_holes}
use Rattle.bt_plan.specs.Views.{job_of, node_place}
use Rattle.bt_plan.specs.inside.Cutting.{AreSizedNodes}
use Rattle.bt_plan.proofs.Opening.{bins_long, cuts_long, is_open, kept_divided, marks_long, node-jobs, node-with_holes, nodes_few, nodes_sized, rest_left, shares_long, inner-cut, leaf-cut, only-come}
use Rattle.bt_plan.proofs.Steps.{left_after, next_bin, next_child, no_share, one_made, one_made_of, some_made_of}
use Rattle.bt_plan.proofs.cutting.+cuts.Goals as goal

-- ---- an inner node that is opened

pub cut_inner-open-requires-clause-few : goal.cut_inner-open-requires-clause-few
cut_inner-open-requires-clause-few g t c =
    omega (arith, c.requires.sized.1, ap length (children-nodes c.args.children), c.fanout-most.ensures.value, c.fanout-most.ensures.range.1)

pub cut_inner-cut_children-requires : goal.cut_inner-cut_children-requires
cut_inner-cut_children-requires g t c κs within =
    let apart = c.apart-nodes.ensures in
    let opening = is_open c.args.at.now.mode c.args.stream.now c.args.count c.in-Opens.is c.in_ok-node.ensures c.requires.lie c.requires.sized apart.nodes
    apart.pivots apart.bins c.as_slice-2.ensures.value c.as_slice.ensures.value in
    let most : c.args.at.now.shape.fanout ≤ LARGEST_FANOUT = omega (arith, c.fanout-most.ensures.value, c.fanout-most.ensures.range.1) in (
      omega (arith, c.decreases),
      (
        within.0,
        (
          within.1,
          (
            nodes_sized opening,
            (
              omega (arith, nodes_few opening, most),
              (
                bins_long opening,
                (
                  marks_long opening,
                  (
                    shares_long opening,
                    (opening.weighed, c.requires.path),
                  ),
                ),
              ),
            ),
          ),
        ),
      ),
    )

pub cut_inner-opened-requires : goal.cut_inner-opened-requires
cut_inner-opened-requires g t c =
    let apart = c.apart-nodes.ensures in
    let opening = is_open c.args.at.now.mode c.args.stream.now c.args.count c.in-Opens.is c.in_ok-node.ensures c.requires.lie c.requires.sized apart.nodes
    apart.pivots apart.bins c.as_slice-2.ensures.value c.as_slice.ensures.value in
    let cut = c.in_ok-children.ensures in
    record {
      one_fewer = ap length cut.children ∙ length-map _ (with_holes hole_of) ∙ cuts_long opening c.args.at.now.depth (node_place c.args.at.now.place);
      divided = subst (LieBetween c.apart-nodes.result.1.items) (sym cut.bins) (kept_divided opening);
    }

pub cut_inner-returns : goal.cut_inner-returns
cut_inner-returns g t c =
    let apart = c.apart-nodes.ensures in
    let opening = is_open c.args.at.now.mode c.args.stream.now c.args.count c.in-Opens.is c.in_ok-node.ensures c.requires.lie c.requires.sized apart.nodes
    apart.pivots apart.bins c.as_slice-2.ensures.value c.as_slice.ensures.value in
    let cut = c.in_ok-children.ensures in
    let place = node_place c.args.at.now.place in
    record {
      holed = c.opened.ensures ∙ (λ i. opened (holed_nodes (with_pivots c.apart-nodes.result.1.items (cut.children i))) (concatenation (cut.bins i)))
          ∙ node-with_holes opening c.args.at.now.depth place;
      jobs = cut.jobs ∙ ap (λ js. map job_of c.args.jobs.now.items ++ js) (node-jobs opening c.args.at.now.depth place);
      left = cut.left ∙ rest_left opening;
    }

-- ---- its children

pub cut_children-loop-node-preserved : goal.cut_children-loop-node-preserved
cut_children-loop-node-preserved g t c =
    let weigh = weigh_of g.V.Merge.terms in
    let number = c.loop-node.number in
    let shares = c.args.shares.now in
    let marks = c.args.marks.now in
    let ms = c.loop-node.stream in
    let known = c.loop-node.invariant in
    let steps = c.in-Some.ensures.steps.0 in
    let here = c.in-Some-next.ensures.items in
    let cut = c.in_ok-child.ensures in
    let some = ap length steps in
    let within : number < length shares = omega (arith, some, known.number, c.requires.shares) in
    let marked : number < length marks = omega (arith, some, known.number, c.requires.marks) in
    let next = next_child shares number ms within cut.left weigh c.args.at.now.depth c.args.at.now.mode c.args.at.now.shape (node_place c.args.at.now.place) marks steps here marked c.child.ensures in
    let bin = next_bin shares number ms within cut.left marks here marked in
    record {
      children = one_made_of (with_holes hole_of) _ _ _ _ _ _ _ c.push_reserved.ensures.items cut.child next known.children;
      kept = one_made _ _ _ _ _ _ _ c.push_reserved-in-loop-node.ensures.items cut.kept bin known.kept;
      jobs = some_made_of holes _ _ _ _ _ _ cut.jobs next known.jobs;
      left = left_after shares number ms within cut.left known.left;
      weighed = (share_at weigh shares number no_share ms _ within cut.left known.weighed).1;
      number = omega (arith, some, known.number);
      buffers = omega (arith, some, ap length here, known.buffers);
      sized = (subst (AreSizedNodes weigh c.args.at.now.shape) steps known.sized).1;
      made = omega (arith, c.push_reserved.ensures.len, known.made);
      made_bins = omega (arith, c.push_reserved-in-loop-node.ensures.len, known.made_bins);
      room = omega (arith, c.push_reserved.ensures.capacity, known.room);
      room_for_bins = omega (arith, c.push_reserved-in-loop-node.ensures.capacity, known.room_for_bins);
    }

pub cut_children-cut_child-requires : goal.cut_children-cut_child-requires
cut_children-cut_child-requires g t c κs within =
    let weigh = weigh_of g.V.Merge.terms in
    let number = c.loop-node.number in
    let shares = c.args.shares.now in
    let known = c.loop-node.invariant in
    let steps = c.in-Some.ensures.steps.0 in
    let here : number < length shares = omega (arith, ap length steps, known.number, c.requires.shares) in (
      omega (arith, c.decreases),
      (
        within.0,
        (
          within.1,
          (
            (subst (AreSizedNodes weigh c.args.at.now.shape) steps known.sized).0,
            (
              omega (arith, ap (λ (p : Place). length p.path) c.child.ensures, length-append c.args.at.now.place.path.items (number ∷ []), c.requires.path),
              (share_at weigh shares number no_share c.loop-node.stream _ here refl known.weighed).0,
            ),
          ),
        ),
      ),
    )

-- ---- a node that is cut

pub cut_node-same-children : goal.cut_node-same-children
cut_node-same-children g t c = refl

pub cut_node-same-bins : goal.cut_node-same-bins
cut_node-same-bins g t c = refl

pub cut_node-cut_inner-requires-in-Inner : goal.cut_node-cut_inner-requires-in-Inner
cut_node-cut_inner-requires-in-Inner g t c κs within =
    let here = c.in-Inner.ensures in
    let some : 1 ≤ c.args.at.depth = search rules in (
      omega (arith, some, c.decreases),
      (
        within.0,
        (
          within.1,
          (
            here.1,
            (
              subst (IsSized (weigh_of g.V.Merge.terms) c.args.at.shape) here.0 c.requires.sized,
              (omega (arith, some, c.requires.path), omega (arith, c.len-count.ensures.len)),
            ),
          ),
        ),
      ),
    )

pub cut_node-returns-in-Leaf : goal.cut_node-returns-in-Leaf
cut_node-returns-in-Leaf g t c =
    let all = with_messages (take c.args.count c.args.stream.now) c.args.pending in
    let leaf = leaf-cut (weigh_of g.V.Merge.terms) c.args.at.depth c.args.at.mode c.args.at.shape (node_place c.args.at.place) all c.in-Leaf.ensures.0 c.in-Leaf.ensures.1 in
    let moved = c.move_out-in-Leaf in
    record {
      holed = IfOk-weaker moved.result _ _ (λ h e. e ∙ ap (with_holes hole_of) (sym leaf)) moved.ensures.hole;
      jobs = on_ok_weaker moved.result (λ e. e ∙ ap (λ h. map job_of c.args.jobs.now.items ++ holes h) (sym leaf)) moved.ensures.job;
      left = moved.ensures.left;
    }

pub cut_node-returns-then-is_empty : goal.cut_node-returns-then-is_empty
cut_node-returns-then-is_empty g t c =
    let some : 1 ≤ c.args.at.depth = search rules in
    let same = only-come c.args.count c.args.stream.now c.args.pending c.is_empty.result c.is_empty.ensures c.if-is_empty.true c.len-in_order.ensures.sorted in
    let told = inner-cut (weigh_of g.V.Merge.terms) c.args.at.depth c.args.at.mode c.args.at.shape (node_place c.args.at.place) c.in-Inner.children c.in-Inner.bins some c.in-Inner.ensures.0 same in
    let cut = c.cut_inner in
    record {
      holed = IfOk-weaker cut.result _ _ (λ h e. e ∙ ap (with_holes hole_of) told) cut.ensures.holed;
      jobs = on_ok_weaker cut.result (λ e. e ∙ ap (λ h. map job_of c.args.jobs.now.items ++ holes h) told) cut.ensures.jobs;
      left = cut.ensures.left;
    }

pub cut_node-returns-in_ok-packet_of-in-Inner : goal.cut_node-returns-in_ok-packet_of-in-Inner
cut_node-returns-in_ok-packet_of-in-Inner g t c =
    let own = c.into_stream-own.result in
    let all = c.in_ok-packet_of-in-Inner.ensures in
    let some : 1 ≤ c.args.at.depth = search rules in
    let same = ap (λ n. take n own) c.len-count.ensures.len ∙ take-length own ∙ c.into_stream-own.ensures ∙ all.packet in
    let told = inner-cut (weigh_of g.V.Merge.terms) c.args.at.depth c.args.at.mode c.args.at.shape (node_place c.args.at.place) c.in-Inner.children c.in-Inner.bins some c.in-Inner.ensures.0 same in
    let cut = c.cut_inner-in-Inner in
    record {
      holed = IfOk-weaker cut.result _ _ (λ h e. e ∙ ap (with_holes hole_of) told) cut.ensures.holed;
      jobs = on_ok_weaker cut.result (λ e. e ∙ ap (λ h. map job_of c.args.jobs.now.items ++ holes h) told) cut.ensures.jobs;
      left = on_ok_weaker cut.result (λ _. all.left) cut.ensures.left;
    }
