use Rattle.std.proofs.Common.{◌≡◌, None, arith, get_or}
use Rattle.bt_messages.specs.Shares.{counts}
use Rattle.bt_messages.specs.declared.share.Share.{Share}
use Rattle.bt_messages.proofs.Insertions.{empty_here, empty_more}
use Rattle.bt_messages.proofs.share.filled_place.Goals as goal

pub loop-place-init : goal.loop-place-init
loop-place-init c = λ j from before. absurd (omega (arith, from, before))

pub loop-place-preserved : goal.loop-place-preserved
loop-place-preserved c =
    let ss = c.args.shares.now in
    let none : Share = record { count = 0; weight = None } in
    let empty : (get_or ss c.loop-place.place none).count ≡ 0 = omega arith in
    empty_more (counts ss) c.args.from c.loop-place.place c.loop-place.invariant (empty_here ss c.loop-place.place none c.loop-place-test.true empty)
