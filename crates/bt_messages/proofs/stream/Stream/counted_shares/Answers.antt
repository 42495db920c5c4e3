use Rattle.std.proofs.Common.{◌-◌, ap, arith}
use Rattle.std.proofs.lemmas.Grind.{common_steps}
use Rattle.std.proofs.lemmas.List.{drop_all}
use Rattle.bt_messages.specs.Parts.{total}
use Rattle.bt_messages.specs.Shares.{counts}
use Rattle.bt_messages.proofs.Counts.{AreDivided, counted_all, counted_next, counts-push, one_counted, total-push}
use Rattle.bt_messages.proofs.stream.Stream.counted_shares.Goals as goal

pub loop-pivot-preserved : goal.loop-pivot-preserved
loop-pivot-preserved g c =
    let more = counts-push c.loop-pivot.shares.items c.push_reserved.new.self.items c.new.result c.push_reserved.ensures.items (c.place_within-place.result - c.loop-pivot.from) c.new.ensures in
    let part : AreDivided c.args.pivots.now c.loop-pivot.pivot-index c.loop-pivot.from c.place_within-place.result c.args.count c.args.self.now = record {
      pivot = _;
      within = c.loop-pivot-test.true;
      is = c.pivot-item.is;
      low = c.place_within-place.ensures.low;
      before = c.place_within-place.ensures.before;
      from = c.place_within-place.ensures.from;
    } in
    record {
      parts = counted_next (counts c.loop-pivot.shares.items) part c.loop-pivot.invariant.total more c.loop-pivot.invariant.parts;
      total = omega (
        arith,
        ap total more,
        total-push (counts c.loop-pivot.shares.items) (c.place_within-place.result - c.loop-pivot.from),
        c.loop-pivot.invariant.total,
        c.place_within-place.ensures.low,
      );
      bound = c.place_within-place.ensures.high;
      len = grind (arith, common_steps);
      counted = one_counted c.loop-pivot.shares.items c.push_reserved.new.self.items c.new.result c.push_reserved.ensures.items
          (c.place_within-place.result - c.loop-pivot.from) c.new.ensures c.loop-pivot.invariant.counted;
    }

pub returns-clause-parts : goal.returns-clause-parts
returns-clause-parts g c =
    counted_all _ _ _ c.loop-pivot.from c.args.count c.args.self.now _
    (drop_all c.loop-pivot.pivot-index c.args.pivots.now (omega (arith, c.loop-pivot-test.false))) c.loop-pivot.invariant.total c.loop-pivot.invariant.bound
    (counts-push c.loop-pivot.shares.items c.push_reserved-2.new.self.items c.new-2.result c.push_reserved-2.ensures.items (c.args.count - c.loop-pivot.from)
    c.new-2.ensures) c.loop-pivot.invariant.parts

pub returns-clause-total : goal.returns-clause-total
returns-clause-total g c =
    let more = counts-push c.loop-pivot.shares.items c.push_reserved-2.new.self.items c.new-2.result c.push_reserved-2.ensures.items (c.args.count - c.loop-pivot.from) c.new-2.ensures in
    omega (arith, ap total more, total-push (counts c.loop-pivot.shares.items) (c.args.count - c.loop-pivot.from), c.loop-pivot.invariant.total, c.loop-pivot.invariant.bound)

pub returns-clause-counted : goal.returns-clause-counted
returns-clause-counted g c =
    one_counted c.loop-pivot.shares.items c.push_reserved-2.new.self.items c.new-2.result c.push_reserved-2.ensures.items (c.args.count - c.loop-pivot.from)
    c.new-2.ensures c.loop-pivot.invariant.counted
