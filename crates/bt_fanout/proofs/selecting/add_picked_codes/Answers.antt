use Rattle.std.proofs.Common.{rules, arith}
use Rattle.bt_fanout.proofs.Picking.{one_code_more}
use Rattle.bt_fanout.proofs.selecting.add_picked_codes.Goals as goal

pub loop-place-preserved : goal.loop-place-preserved
loop-place-preserved c =
    one_code_more c.args.places.now c.loop-place.place-index _ c.args.row.now _ _ c.loop-place.code c.add.new.self (omega arith) c.get.ensures.value c.loop-place.invariant (search rules)
