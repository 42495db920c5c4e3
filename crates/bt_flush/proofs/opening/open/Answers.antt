use Rattle.std.proofs.Common.{◌≡◌, ◌∙◌, ap, arith, drop, length, map, refl, replicate, rules, subst, sym, true}
use Rattle.bt_messages.specs.Bins.{each_with}
use Rattle.bt_messages.specs.Parts.{parted, total}
use Rattle.bt_messages.specs.Shares.{AreShares, counts, share_of}
use Rattle.bt_message.specs.Weights.{load, weigh_of}
use Rattle.bt_messages.specs.declared.share.Share.{Share}
use Rattle.std.proofs.lemmas.List.{length-map}
use Rattle.bt_form.proofs.offered.flushes.Divisions.{each-long}
use Rattle.bt_form.specs.Fits.{IsLed}
use Rattle.bt_form.specs.Trees.{inner, nodes}
use Rattle.bt_flush.proofs.lemmas.code.LoadLoop.{Come, after_joined, after_lie, at_pivots, bin_each, has_room-absorb, has_room-drain, marks_all, marks_planned, room_test, share_each, shares_weighed}
use Rattle.bt_form.proofs.offered.code.SiblingParts.{with_pivots-led}
use Rattle.bt_flush.proofs.opening.open.Goals as goal
use Rattle.bt_flush.proofs.opening.open.Goals.{in-Absorb+in_ok-loads-in-Absorb+else-len-fanout}
use Rattle.bt_flush.proofs.opening.open.Goals.{else-len-fanout-via-then-len-fanout+else-are_within, else-len-fanout-via-else-len-fanout}
use Rattle.bt_flush.proofs.opening.open.Goals.{in-Drain}

pub shares-requires : goal.shares-requires
shares-requires g c = c.requires.enough

pub loads-requires-clause-len : goal.loads-requires-clause-len
loads-requires-clause-len g c =
    let e = c.in_ok-shares.ensures in
    let come : Come (weigh_of g.V.Merge.terms) c.args.shape c.args.children c.args.bins c.args.stream.now c.args.count c.measure-measure.result
    c.pivots.result.now c.in_ok-shares.shares.items =
    record {
      measured = c.measure-measure.ensures;
      pivots = c.pivots.ensures.pivots;
      some = c.pivots.ensures.some;
      lie = c.requires.divided;
      each =
          e.each;
      divided = e.parts;
      long = e.len;
    } in
    ap length c.as_slice.ensures.value ∙ share_each come

pub loads-requires-clause-weighed : goal.loads-requires-clause-weighed
loads-requires-clause-weighed g c =
    let e = c.in_ok-shares.ensures in
    let come : Come (weigh_of g.V.Merge.terms) c.args.shape c.args.children c.args.bins c.args.stream.now c.args.count c.measure-measure.result
    c.pivots.result.now c.in_ok-shares.shares.items =
    record {
      measured = c.measure-measure.ensures;
      pivots = c.pivots.ensures.pivots;
      some = c.pivots.ensures.some;
      lie = c.requires.divided;
      each =
          e.each;
      divided = e.parts;
      long = e.len;
    } in
    subst (λ ss. ss ≡ map (share_of (weigh_of g.V.Merge.terms) c.measure-measure.result) (parted (counts ss) c.args.stream.now)) (sym c.as_slice.ensures.value) (shares_weighed come)
    ∙ ap (λ ms. map (share_of (weigh_of g.V.Merge.terms) c.measure-measure.result) (parted (counts c.as_slice.result.now) ms)) (sym e.same)

pub same-bins : goal.same-bins
same-bins g c = refl

pub add_shares-requires-clause-len : goal.add_shares-requires-clause-len
add_shares-requires-clause-len g c =
    let e = c.in_ok-shares.ensures in
    let come : Come (weigh_of g.V.Merge.terms) c.args.shape c.args.children c.args.bins c.args.stream.now c.args.count c.measure-measure.result
    c.pivots.result.now c.in_ok-shares.shares.items =
    record {
      measured = c.measure-measure.ensures;
      pivots = c.pivots.ensures.pivots;
      some = c.pivots.ensures.some;
      lie = c.requires.divided;
      each =
          e.each;
      divided = e.parts;
      long = e.len;
    } in
    ap length c.as_slice-then-are_within.ensures.value ∙ share_each come

pub add_shares-requires-clause-shares : goal.add_shares-requires-clause-shares
add_shares-requires-clause-shares g c =
    let e = c.in_ok-shares.ensures in
    let here = subst (AreShares (weigh_of g.V.Merge.terms) c.args.stream.now) (sym c.as_slice-then-are_within.ensures.value) e.shares in
    subst (λ ms. AreShares (weigh_of g.V.Merge.terms) ms c.as_slice-then-are_within.result.now) (sym e.same) here

pub same-children : goal.same-children
same-children g c = refl

pub same-bins-then-are_within : goal.same-bins-then-are_within
same-bins-then-are_within g c = refl

pub inner-requires-clause-divided : goal.inner-requires-clause-divided
inner-requires-clause-divided g c =
    let e = c.in_ok-shares.ensures in
    let come : Come (weigh_of g.V.Merge.terms) c.args.shape c.args.children c.args.bins c.args.stream.now c.args.count c.measure-measure.result
    c.pivots.result.now c.in_ok-shares.shares.items =
    record {
      measured = c.measure-measure.ensures;
      pivots = c.pivots.ensures.pivots;
      some = c.pivots.ensures.some;
      lie = c.requires.divided;
      each =
          e.each;
      divided = e.parts;
      long = e.len;
    } in
    after_lie come c.add_shares.new.self (c.in_ok-add_shares-in-Absorb.ensures.added
    ∙ ap (λ ms. each_with (parted (counts c.as_slice-then-are_within.result.now) ms) c.args.bins) e.same
    ∙ ap (λ ss. each_with (parted (counts ss) c.args.stream.now) c.args.bins) c.as_slice-then-are_within.ensures.value)

pub returns-then-are_within : goal.returns-then-are_within
returns-then-are_within g c =
    let e = c.in_ok-shares.ensures in
    let come : Come (weigh_of g.V.Merge.terms) c.args.shape c.args.children c.args.bins c.args.stream.now c.args.count c.measure-measure.result
    c.pivots.result.now c.in_ok-shares.shares.items =
    record {
      measured = c.measure-measure.ensures;
      pivots = c.pivots.ensures.pivots;
      some = c.pivots.ensures.some;
      lie = c.requires.divided;
      each =
          e.each;
      divided = e.parts;
      long = e.len;
    } in
    let bins = c.in_ok-add_shares-in-Absorb.ensures.added ∙ ap (λ ms. each_with (parted (counts c.as_slice-then-are_within.result.now) ms) c.args.bins) e.same
    ∙ ap (λ ss. each_with (parted (counts ss) c.args.stream.now) c.args.bins) c.as_slice-then-are_within.ensures.value in
    let made = c.as_slice-then-len-fanout.ensures.value ∙ c.in_ok-loads-in-Absorb.ensures
    ∙ ap (λ ms. map (load (weigh_of g.V.Merge.terms) c.measure-measure.result) (each_with (parted (counts c.as_slice.result.now) ms) c.args.bins)) e.same
    ∙ ap (λ ss. map (load (weigh_of g.V.Merge.terms) c.measure-measure.result) (each_with (parted (counts ss) c.args.stream.now) c.args.bins)) c.as_slice.ensures.value in (
      c.in_ok-add_shares-in-Absorb.ensures.left ∙ ap (drop (total (counts c.as_slice-then-are_within.result.now))) e.same
          ∙ ap (λ ss. drop (total (counts ss)) c.args.stream.now) c.as_slice-then-are_within.ensures.value
          ∙ ap (λ n. drop n c.args.stream.now) c.in_ok-shares.ensures.total,
      record {
        node = c.inner.ensures ∙ ap (inner (nodes c.args.children)) (after_joined come c.add_shares.new.self bins);
        led = c.len.ensures.led;
        few = omega (arith, c.if-len-fanout.true, c.len.ensures.count, c.fanout.ensures.value);
        room = has_room-absorb c.args.mode c.args.shape _ c.in-Absorb.is
            (room_test come c.as_slice-then-len-fanout.result.now c.buffer.result c.are_within.result made c.buffer.ensures.value c.are_within.ensures
            ∙ c.if-are_within.true);
      },
    )

pub inner-requires-clause-few : goal.inner-requires-clause-few
inner-requires-clause-few g c = c.requires.few

pub planned_marks-marks-requires : goal.planned_marks-marks-requires
planned_marks-marks-requires g c =
    let e = c.in_ok-shares.ensures in
    let come : Come (weigh_of g.V.Merge.terms) c.args.shape c.args.children c.args.bins c.args.stream.now c.args.count c.measure-measure.result
    c.pivots.result.now c.in_ok-shares.shares.items =
    record {
      measured = c.measure-measure.ensures;
      pivots = c.pivots.ensures.pivots;
      some = c.pivots.ensures.some;
      lie = c.requires.divided;
      each =
          e.each;
      divided = e.parts;
      long = e.len;
    } in
    let shares = c.in_ok-shares.shares.items in
    let made = c.as_slice-in-Absorb.ensures.value ∙ c.in_ok-loads-in-Absorb.ensures
    ∙ ap (λ ss. map (load (weigh_of g.V.Merge.terms) c.measure-measure.result) (each_with (parted (counts ss) c.shares.new.self) c.args.bins)) c.as_slice.ensures.value in
    omega (
      arith,
      ap length made,
      length-map (each_with (parted (counts shares) c.shares.new.self) c.args.bins) (load (weigh_of g.V.Merge.terms) c.measure-measure.result),
      each-long (counts shares) c.shares.new.self c.args.bins (length-map shares (λ (s : Share). s.count) ∙ share_each come),
      bin_each come,
      c.requires.few,
    )

pub equal_marks-marks-requires : goal.equal_marks-marks-requires
equal_marks-marks-requires g c =
    let e = c.in_ok-shares.ensures in
    let come : Come (weigh_of g.V.Merge.terms) c.args.shape c.args.children c.args.bins c.args.stream.now c.args.count c.measure-measure.result
    c.pivots.result.now c.in_ok-shares.shares.items =
    record {
      measured = c.measure-measure.ensures;
      pivots = c.pivots.ensures.pivots;
      some = c.pivots.ensures.some;
      lie = c.requires.divided;
      each =
          e.each;
      divided = e.parts;
      long = e.len;
    } in
    let long : c.len-in-Drain.result ≡ length c.in_ok-shares.shares.items = search rules in
    omega (arith, long, share_each come, bin_each come, c.requires.few)

pub same-children-2 : goal.same-children-2
same-children-2 g c = refl

pub same-bins-2 : goal.same-bins-2
same-bins-2 g c = refl

pub with_pending-requires : goal.with_pending-requires
with_pending-requires g c =
    let e = c.in_ok-shares.ensures in
    let come : Come (weigh_of g.V.Merge.terms) c.args.shape c.args.children c.args.bins c.args.stream.now c.args.count c.measure-measure.result
    c.pivots.result.now c.in_ok-shares.shares.items =
    record {
      measured = c.measure-measure.ensures;
      pivots = c.pivots.ensures.pivots;
      some = c.pivots.ensures.some;
      lie = c.requires.divided;
      each =
          e.each;
      divided = e.parts;
      long = e.len;
    } in
    bin_each come

pub returns : goal.returns
returns g c =
    let e = c.in_ok-shares.ensures in
    let come : Come (weigh_of g.V.Merge.terms) c.args.shape c.args.children c.args.bins c.args.stream.now c.args.count c.measure-measure.result
    c.pivots.result.now c.in_ok-shares.shares.items =
    record {
      measured = c.measure-measure.ensures;
      pivots = c.pivots.ensures.pivots;
      some = c.pivots.ensures.some;
      lie = c.requires.divided;
      each =
          e.each;
      divided = e.parts;
      long = e.len;
    } in (
      e.same,
      record {
        led = subst IsLed c.children.view_is (with_pivots-led c.children.inside.pivots.items c.children.inside.nodes.items c.children.invariant);
        children = c.with_pending.ensures;
        shares = at_pivots come;
        total = c.in_ok-shares.ensures.total;
        weighed = c.in_ok-shares.ensures.shares;
        marks = elim c.match-mode.branch [
          | in-Absorb+in_ok-loads-in-Absorb+else-len-fanout w ↦
              let made = w.as_slice-in-Absorb.ensures.value ∙ w.in_ok-loads-in-Absorb.ensures
              ∙ ap (λ ms. map (load (weigh_of g.V.Merge.terms) c.measure-measure.result) (each_with (parted (counts w.as_slice.result.now) ms) c.args.bins)) e.same
              ∙ ap (λ ss. map (load (weigh_of g.V.Merge.terms) c.measure-measure.result) (each_with (parted (counts ss) c.args.stream.now) c.args.bins)) w.as_slice.ensures.value in
              ap (λ v. v.items) w.marks-is
              ∙ marks_planned come c.args.mode w.as_slice-in-Absorb.result.now c.buffer.result w.planned_marks-marks.result.items w.in-Absorb.is made c.buffer.ensures.value
              w.planned_marks-marks.ensures
          | in-Drain w ↦
              ap (λ v. v.items) w.marks-is ∙ marks_all come c.args.mode w.len-in-Drain.result w.equal_marks-marks.result.items w.in-Drain.is (search rules) w.equal_marks-marks.ensures
        ];
        full = λ within. elim c.match-mode.branch [
          | in-Absorb+in_ok-loads-in-Absorb+else-len-fanout w ↦ elim w.else-len-fanout.branch [
            | else-len-fanout-via-then-len-fanout+else-are_within w' ↦
                let made = w'.as_slice-then-len-fanout.ensures.value ∙ w.in_ok-loads-in-Absorb.ensures
                ∙ ap (λ ms. map (load (weigh_of g.V.Merge.terms) c.measure-measure.result) (each_with (parted (counts w.as_slice.result.now) ms) c.args.bins)) e.same
                ∙ ap (λ ss. map (load (weigh_of g.V.Merge.terms) c.measure-measure.result) (each_with (parted (counts ss) c.args.stream.now) c.args.bins)) w.as_slice.ensures.value in
                has_room-absorb c.args.mode c.args.shape _ w.in-Absorb.is
                (room_test come w'.as_slice-then-len-fanout.result.now c.buffer.result w'.are_within.result made c.buffer.ensures.value
                w'.are_within.ensures ∙ w'.if-are_within.false)
            | else-len-fanout-via-else-len-fanout w' ↦ absurd (omega (arith, within, w'.if-len-fanout.false, w.len.ensures.count, w.fanout.ensures.value))
          ]
          | in-Drain w ↦ has_room-drain c.args.mode c.args.shape _ w.in-Drain.is
        ];
      },
    )
