use Rattle.std.proofs.Common.{◌≤◌, ◌∙◌, ◌∷◌, ◌++◌, [], ap, arith, length, subst, sym}
use Rattle.bt_message.specs.declared.message.Message.{Message}
use Rattle.bt_form.specs.Deals.{sizes}
use Rattle.bt_form.specs.Flushes.{pivot_first}
use Rattle.bt_flush.specs.inside.KeyedLeaves.{keyed_leaves}
use Rattle.bt_form.specs.Plans.{total}
use Rattle.bt_flush.proofs.lemmas.code.SourceLeaves.{all_left, all_made, leaf_made, next_fits, next_size, next_sorted, none_left, rest_left, some_leaves}
use Rattle.bt_form.proofs.offered.deals.Parts.{total-sizes}
use Rattle.std.proofs.lemmas.Result.{IfOk-weaker}
use Rattle.bt_flush.proofs.leaf_sources.source_leaves.Goals as goal

pub loop-place-init : goal.loop-place-init
loop-place-init g c =
    let M = Message g.row.V.Denot g.row.V-Delta.Denot in
    let rows = g.S.RowSource.left c.args.rows in
    record {
      made = ap (λ ls. ls ++ keyed_leaves {M = M} (sizes c.args.count c.args.shape.leaf) rows) c.in_ok-leaves.ensures.items;
      left = all_left (sizes c.args.count c.args.shape.leaf) rows (sym c.requires.counted ∙ sym (total-sizes c.args.count c.args.shape.leaf)) c.requires.sorted;
    }

pub next_rows-requires-clause-enough : goal.next_rows-requires-clause-enough
next_rows-requires-clause-enough g c =
    next_fits c.size_at.result _ _ _ (next_size c.args.shape c.args.count _ c.loop-place.place c.size_at.result c.leaf_count-many.ensures.count c.size_at.ensures) c.loop-place.invariant.left

pub next_rows-requires-clause-sorted : goal.next_rows-requires-clause-sorted
next_rows-requires-clause-sorted g c =
    next_sorted c.size_at.result _ _ _ (next_size c.args.shape c.args.count _ c.loop-place.place c.size_at.result c.leaf_count-many.ensures.count c.size_at.ensures) c.loop-place.invariant.left

pub loop-place-preserved : goal.loop-place-preserved
loop-place-preserved g c =
    let M = Message g.row.V.Denot g.row.V-Delta.Denot in
    let rows = g.S.RowSource.left c.loop-place.source in
    let here = c.in_ok-part.ensures in
    let size = c.size_at.result in
    let next = next_size c.args.shape c.args.count _ c.loop-place.place size c.leaf_count-many.ensures.count c.size_at.ensures in
    let pushed = c.in_ok-push.ensures.items ∙ ap (λ t. c.loop-place.leaves.items ++ (c.in_ok-key.key, t) ∷ []) c.leaf.ensures in
    record {
      made = leaf_made {M = M} size _ _ rows c.in_ok-part.part _ next here.rows here.rest c.loop-place.leaves.items c.push.new.self.items c.in_ok-key.key c.in_ok-key.ensures pushed
          ∙ c.loop-place.invariant.made;
      left = rest_left size _ _ rows next c.loop-place.invariant.left _ here.rest;
    }

pub side_by_side-requires : goal.side_by_side-requires
side_by_side-requires g c =
    let M = Message g.row.V.Denot g.row.V-Delta.Denot in
    let rows = g.S.RowSource.left c.args.rows in
    let none = none_left c.args.shape c.args.count _ c.loop-place.place c.leaf_count-many.ensures.count (omega (arith, c.loop-place-test.false)) in
    let all = all_made {M = M} c.args.shape c.args.count c.loop-place.leaves.items _ rows _ c.requires.counted none c.loop-place.invariant.made in
    subst (λ ls. 1 ≤ length ls) (sym all) (some_leaves M c.args.shape rows)

pub returns : goal.returns
returns g c =
    let M = Message g.row.V.Denot g.row.V-Delta.Denot in
    let rows = g.S.RowSource.left c.args.rows in
    let none = none_left c.args.shape c.args.count _ c.loop-place.place c.leaf_count-many.ensures.count (omega (arith, c.loop-place-test.false)) in
    let all = all_made {M = M} c.args.shape c.args.count c.loop-place.leaves.items _ rows _ c.requires.counted none c.loop-place.invariant.made in
    IfOk-weaker c.side_by_side.result _ _ (λ siblings e. e ∙ ap (pivot_first []) all) c.side_by_side.ensures
