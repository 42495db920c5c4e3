use Rattle.std.proofs.Common.{arith}
use Rattle.bt_messages.specs.Shares.{counts}
use Rattle.bt_messages.proofs.Insertions.{only_at}
use Rattle.bt_messages.proofs.Weighing.{length-counts}
use Rattle.bt_messages.proofs.share.only_place.Goals as goal

pub returns-clause-only : goal.returns-clause-only
returns-clause-only c =
    let ss = c.args.shares.now in
    only_at (counts ss) c.filled_place-place.result c.filled_place-place.ensures.empty (λ j from within. c.filled_place-next.ensures.empty j from (omega (arith, within, length-counts ss)))
