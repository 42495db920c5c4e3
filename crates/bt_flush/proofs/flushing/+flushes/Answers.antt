use Rattle.std.proofs.Common.{◌≡◌, ◌∙◌, ◌≤◌, [], ◌∷◌, ◌++◌, append-nil, ap, arith, drop, length, refl, rules, subst, sym, take}
use Rattle.std.proofs.lemmas.Result.{IfOk-weaker}
use Rattle.std.proofs.lemmas.List.{nil_from_length}
use Rattle.std.proofs.Math.Seq.{take-length}
use Rattle.std.specs.List.{zip}
use Rattle.std.specs.Vec.Iter.{into_iter_items}
use Rattle.bt_messages.specs.Parts.{total}
use Rattle.bt_message.specs.Meanings.{meaning_of}
use Rattle.bt_messages.specs.Shares.{AreShares, counts}
use Rattle.bt_message.specs.Weights.{weigh_of}
use Rattle.bt_messages.proofs.offered.Fronts.{sorted_take}
use Rattle.bt_messages.proofs.offered.Placed.{alone}
use Rattle.bt_form.specs.Children.{after_pivot}
use Rattle.bt_form.specs.Flushes.{flush_in}
use Rattle.bt_form.specs.Messages.{with_messages}
use Rattle.bt_form.specs.inside.Flushing.{AreReady, with_shares}
use Rattle.bt_flush.proofs.lemmas.code.FlushLoop.{after_flushed, after_kept, after_pivot-flushed}
use Rattle.bt_flush.proofs.lemmas.code.OpeningStep.{Enters, among, children_lower, children_ready, grouped_anew, highest, made_divided}
use Rattle.bt_flush.proofs.lemmas.code.OpeningStep.{made_some, marks_long, pass, shares_gone, shares_long, shares_weighed, stays_here}
use Rattle.bt_flush.proofs.lemmas.code.Results.{on_ok}
use Rattle.bt_flush.proofs.flushing.+flushes.Goals as goal
use Rattle.bt_flush.proofs.flushing.+flushes.Goals.{flush_marked-in_default-2-via-in-Some+in_default, flush_marked-in_default-2-via-in_default}

pub flush-flush_marked-requires : goal.flush-flush_marked-requires
flush-flush_marked-requires g t c κs within =
    let entered : Enters c.args.mode c.args.shape c.in-Inner.children c.in-Inner.bins c.args.stream.now c.args.count c.args.node =
    record { fanout = search rules; leaf = search rules; here = c.in-Inner.ensures.tree; lie = c.in-Inner.ensures.divided; enough = c.requires.enough; ready = c.requires.ready } in
    let meaning = meaning_of g.V.Merge.terms in
    let less = children_lower meaning entered c.open.new.stream c.in-Opens.opened c.in-Opens.is c.in_ok-node-in-Inner.ensures in (
      omega (arith, less, c.decreases),
      (
        within.0,
        (
          within.1,
          (
            shares_weighed meaning entered c.open.new.stream c.in-Opens.opened c.in-Opens.is c.in_ok-node-in-Inner.ensures,
            (
              children_ready meaning entered c.open.new.stream c.in-Opens.opened c.in-Opens.is c.in_ok-node-in-Inner.ensures,
              (
                shares_long meaning entered c.open.new.stream c.in-Opens.opened c.in-Opens.is c.in_ok-node-in-Inner.ensures,
                marks_long meaning entered
                    c.open.new.stream c.in-Opens.opened c.in-Opens.is c.in_ok-node-in-Inner.ensures,
              ),
            ),
          ),
        ),
      ),
    )

pub flush-close-requires-clause-some : goal.flush-close-requires-clause-some
flush-close-requires-clause-some g t c =
    let entered : Enters c.args.mode c.args.shape c.in-Inner.children c.in-Inner.bins c.args.stream.now c.args.count c.args.node =
    record { fanout = search rules; leaf = search rules; here = c.in-Inner.ensures.tree; lie = c.in-Inner.ensures.divided; enough = c.requires.enough; ready = c.requires.ready } in
    made_some (meaning_of g.V.Merge.terms) entered c.open.new.stream c.in-Opens.opened c.in-Opens.is c.in_ok-node-in-Inner.ensures c.in_ok-parts-in-Opens.parts c.in_ok-parts-in-Opens.ensures.children

pub flush-close-requires-clause-divided : goal.flush-close-requires-clause-divided
flush-close-requires-clause-divided g t c =
    let entered : Enters c.args.mode c.args.shape c.in-Inner.children c.in-Inner.bins c.args.stream.now c.args.count c.args.node =
    record { fanout = search rules; leaf = search rules; here = c.in-Inner.ensures.tree; lie = c.in-Inner.ensures.divided; enough = c.requires.enough; ready = c.requires.ready } in
    made_divided (meaning_of g.V.Merge.terms) entered c.open.new.stream c.in-Opens.opened c.in-Opens.is c.in_ok-node-in-Inner.ensures
    c.in_ok-parts-in-Opens.parts c.in_ok-parts-in-Opens.ensures.children

pub flush-returns-in-Stays-clause-siblings : goal.flush-returns-in-Stays-clause-siblings
flush-returns-in-Stays-clause-siblings g t c =
    let entered : Enters c.args.mode c.args.shape c.in-Inner.children c.in-Inner.bins c.args.stream.now c.args.count c.args.node =
    record { fanout = search rules; leaf = search rules; here = c.in-Inner.ensures.tree; lie = c.in-Inner.ensures.divided; enough = c.requires.enough; ready = c.requires.ready } in
    IfOk-weaker c.with_capacity.result _ _ (λ siblings e. e
    ∙ stays_here (meaning_of g.V.Merge.terms) entered c.open.new.stream c.in-Stays.node c.in-Stays.is c.in_ok-node-in-Inner.ensures) c.with_capacity.ensures

pub flush-returns-in_ok-parts-in-Opens-clause-siblings : goal.flush-returns-in_ok-parts-in-Opens-clause-siblings
flush-returns-in_ok-parts-in-Opens-clause-siblings g t c =
    let entered : Enters c.args.mode c.args.shape c.in-Inner.children c.in-Inner.bins c.args.stream.now c.args.count c.args.node =
    record { fanout = search rules; leaf = search rules; here = c.in-Inner.ensures.tree; lie = c.in-Inner.ensures.divided; enough = c.requires.enough; ready = c.requires.ready } in
    IfOk-weaker c.close.result _ _ (λ siblings e. e
    ∙ grouped_anew (meaning_of g.V.Merge.terms) entered c.open.new.stream c.in-Opens.opened c.in-Opens.is c.in_ok-node-in-Inner.ensures
    c.in_ok-parts-in-Opens.parts c.in_ok-parts-in-Opens.ensures.children) c.close.ensures

pub flush-returns-in_ok-parts-in-Opens-clause-left : goal.flush-returns-in_ok-parts-in-Opens-clause-left
flush-returns-in_ok-parts-in-Opens-clause-left g t c =
    let entered : Enters c.args.mode c.args.shape c.in-Inner.children c.in-Inner.bins c.args.stream.now c.args.count c.args.node =
    record { fanout = search rules; leaf = search rules; here = c.in-Inner.ensures.tree; lie = c.in-Inner.ensures.divided; enough = c.requires.enough; ready = c.requires.ready } in
    on_ok _ c.close.result (c.in_ok-parts-in-Opens.ensures.left ∙ shares_gone (meaning_of g.V.Merge.terms) entered c.open.new.stream c.in-Opens.opened c.in-Opens.is c.in_ok-node-in-Inner.ensures)

pub flush_child-flush-requires : goal.flush_child-flush-requires
flush_child-flush-requires g t c κs within = (omega (arith, c.decreases), (within.0, (within.1, (c.requires.share.0, c.requires.ready))))

pub flush_child-returns-then-is_empty-clause-siblings : goal.flush_child-returns-then-is_empty-clause-siblings
flush_child-returns-then-is_empty-clause-siblings g t c =
    let stream = c.args.stream.now in
    let none : c.args.pending ≡ [] = nil_from_length _ (search rules) in
    let same = sym (ap (with_messages (take c.args.share.count stream)) none ∙ alone (take c.args.share.count stream) (sorted_take c.args.share.count stream c.len-in_order.ensures.sorted)) in
    IfOk-weaker c.flush.result _ _ (λ siblings e. e ∙ ap (flush_in (meaning_of g.V.Merge.terms) c.args.mode c.args.shape c.args.node) same) c.flush.ensures.siblings

pub flush_child-flush-requires-2 : goal.flush_child-flush-requires-2
flush_child-flush-requires-2 g t c κs within = (omega (arith, c.decreases), (within.0, (within.1, (omega (arith, c.len-count.ensures.len), c.requires.ready))))

pub flush_child-returns-clause-siblings : goal.flush_child-returns-clause-siblings
flush_child-returns-clause-siblings g t c =
    let stream = c.into_stream-all.result in
    let all = ap (λ n. take n stream) c.len-count.ensures.len ∙ take-length stream ∙ c.into_stream-all.ensures ∙ c.in_ok-add_front.ensures.added in
    IfOk-weaker c.flush-2.result _ _ (λ siblings e. e ∙ ap (flush_in (meaning_of g.V.Merge.terms) c.args.mode c.args.shape c.args.node) all) c.flush-2.ensures.siblings

pub flush_child-returns-clause-left : goal.flush_child-returns-clause-left
flush_child-returns-clause-left g t c = on_ok _ c.flush-2.result c.in_ok-add_front.ensures.left

pub flush_marked-loop-pivot-init : goal.flush_marked-loop-pivot-init
flush_marked-loop-pivot-init g t c =
    let passed = pass (meaning_of g.V.Merge.terms) c.args.mode c.args.shape in
    let stream = c.args.stream.now in
    let children = c.into_iter-children.ensures in
    let shares = c.into_iter-shares.ensures.rest in
    let marks = c.into_iter-marks.ensures.into_iter_gives.0 in
    record {
      parts = ap (λ ps. ps ++ passed (zip (with_shares c.into_iter-children.result (counts (into_iter_items c.into_iter-shares.result)) stream)
          c.into_iter-marks.result)) c.in_ok-parts.ensures
          ∙ ap (λ cs. passed (zip (with_shares cs (counts (into_iter_items c.into_iter-shares.result)) stream) c.into_iter-marks.result)) children
          ∙ ap (λ ns. passed (zip (with_shares c.args.opened.children (counts ns) stream) c.into_iter-marks.result)) shares
          ∙ ap (λ bs. passed (zip (with_shares c.args.opened.children (counts c.args.opened.shares.items) stream) bs)) marks;
      left = ap (λ ns. drop (total (counts ns)) stream) shares;
      weighed = subst (AreShares (weigh_of g.V.Merge.terms) stream) (sym shares) c.requires.weighed;
      ready = subst (AreReady c.args.mode) (sym children) c.requires.ready;
      shares = omega (arith, ap length shares, ap length children, c.requires.shares);
      marks = omega (arith, ap length marks, ap length children, c.requires.marks);
      no_higher = omega (arith, ap highest children);
    }

pub flush_marked-unreachable-requires : goal.flush_marked-unreachable-requires
flush_marked-unreachable-requires g t c =
    let some : 1 ≤ length c.loop-pivot.children = omega (arith, ap length c.in-Some.ensures) in
    let shares = c.loop-pivot.invariant.shares in
    let marks = c.loop-pivot.invariant.marks in
    elim c.in_default-2.branch [
      | flush_marked-in_default-2-via-in-Some+in_default w ↦ let none : length c.loop-pivot.marks ≡ 0 = search rules in omega (arith, some, marks, none)
      | flush_marked-in_default-2-via-in_default w ↦ let none : length (into_iter_items c.loop-pivot.shares) ≡ 0 = search rules in omega (arith, some, shares, none)
    ]

pub flush_marked-flush_child-requires : goal.flush_marked-flush_child-requires
flush_marked-flush_child-requires g t c κs within =
    let before = c.loop-pivot.invariant in (
      omega (arith, (among _ c.next.new.self c.loop-pivot.children _ c.in-Some.ensures before.no_higher).0, c.decreases),
      (
        within.0,
        (
          within.1,
          (
            (subst (AreShares (weigh_of g.V.Merge.terms) c.loop-pivot.stream) c.in-Some-Some.ensures.items before.weighed).0,
            (subst (AreReady c.args.mode) c.in-Some.ensures before.ready).0,
          ),
        ),
      ),
    )

pub flush_marked-loop-pivot-smaller-in-Continue-branch-3 : goal.flush_marked-loop-pivot-smaller-in-Continue-branch-3
flush_marked-loop-pivot-smaller-in-Continue-branch-3 g t c = omega (arith, ap length c.in-Some.ensures)

pub flush_marked-loop-pivot-preserved-in-Continue-branch-3 : goal.flush_marked-loop-pivot-preserved-in-Continue-branch-3
flush_marked-loop-pivot-preserved-in-Continue-branch-3 g t c =
    let now = take c.in-Some-Some.share.count c.loop-pivot.stream in
    let pushed = c.in_ok-append.ensures
    ∙ ap (λ ds. c.loop-pivot.parts ++ ds) (ap (λ p. after_pivot c.in-Some.pivot p c.in_ok-siblings.siblings) c.new.ensures ∙ ap (after_pivot c.in-Some.pivot []) c.in_ok-siblings.ensures.siblings
    ∙ after_pivot-flushed c.in-Some.pivot (flush_in (meaning_of g.V.Merge.terms) c.args.mode c.args.shape c.in-Some.node (with_messages now c.in-Some.pending))) in
    after_flushed c.loop-pivot.invariant c.in-Some.ensures c.in-Some-Some.ensures.items c.in-Some-Some.ensures'.steps c.in_ok-siblings.ensures.left c.if-marked.true c.append.new.self pushed

pub flush_marked-add_front-requires : goal.flush_marked-add_front-requires
flush_marked-add_front-requires g t c = (subst (AreShares (weigh_of g.V.Merge.terms) c.loop-pivot.stream) c.in-Some-Some.ensures.items c.loop-pivot.invariant.weighed).0

pub flush_marked-loop-pivot-smaller : goal.flush_marked-loop-pivot-smaller
flush_marked-loop-pivot-smaller g t c = omega (arith, ap length c.in-Some.ensures)

pub flush_marked-loop-pivot-preserved : goal.flush_marked-loop-pivot-preserved
flush_marked-loop-pivot-preserved g t c =
    let pushed = c.in_ok-push.ensures ∙ ap (λ p. c.loop-pivot.parts ++ record { pivot = c.in-Some.pivot; tree = c.in-Some.node; pending = p } ∷ []) c.in_ok-add_front.ensures.added in
    after_kept c.loop-pivot.invariant c.in-Some.ensures c.in-Some-Some.ensures.items c.in-Some-Some.ensures'.steps c.in_ok-add_front.ensures.left c.if-marked.false c.push.new.self pushed

pub flush_marked-returns-clause-children : goal.flush_marked-returns-clause-children
flush_marked-returns-clause-children g t c =
    let done = c.loop-pivot.parts in
    sym (append-nil done)
    ∙ ap (λ cs. done ++ pass (meaning_of g.V.Merge.terms) c.args.mode c.args.shape
    (zip (with_shares cs (counts (into_iter_items c.loop-pivot.shares)) c.loop-pivot.stream) c.loop-pivot.marks))
    (sym c.in_default.ensures)
    ∙ c.loop-pivot.invariant.parts

pub flush_marked-returns-clause-left : goal.flush_marked-returns-clause-left
flush_marked-returns-clause-left g t c =
    let none : into_iter_items c.loop-pivot.shares ≡ [] = nil_from_length _ (omega (arith, c.loop-pivot.invariant.shares, ap length c.in_default.ensures)) in
    sym (ap (λ ns. drop (total (counts ns)) c.loop-pivot.stream) none) ∙ c.loop-pivot.invariant.left

pub flush_marked-same-parts-else-marked : goal.flush_marked-same-parts-else-marked
flush_marked-same-parts-else-marked g t c = refl

pub flush_marked-same-pivot-else-marked : goal.flush_marked-same-pivot-else-marked
flush_marked-same-pivot-else-marked g t c = refl

pub flush_marked-same-node : goal.flush_marked-same-node
flush_marked-same-node g t c = refl

pub flush_marked-same-pending : goal.flush_marked-same-pending
flush_marked-same-pending g t c = refl

pub flush_marked-same-parts-in-Continue-branch-5 : goal.flush_marked-same-parts-in-Continue-branch-5
flush_marked-same-parts-in-Continue-branch-5 g t c = refl

pub flush_marked-same-children-in-Continue-branch-5 : goal.flush_marked-same-children-in-Continue-branch-5
flush_marked-same-children-in-Continue-branch-5 g t c = refl
