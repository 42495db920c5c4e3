use Rattle.std.proofs.Common.{◌≡◌, ◌++◌, [], subst, sym}
use Rattle.bt_message.specs.Messages.{with_messages}
use Rattle.bt_messages.proofs.offered.Placed.{alone}
use Rattle.bt_messages.proofs.offered.Totals.{nothing_pending}
use Rattle.bt_messages.proofs.two_streams.are_both.Goals as goal

pub returns-then-is_empty-clause-one : goal.returns-then-is_empty-clause-one
returns-then-is_empty-clause-one g c = λ e.
    let none : c.args.older.now ≡ [] = nothing_pending c.args.older.now c.is_empty.result c.is_empty.ensures c.if-is_empty.true in
    subst (λ older. with_messages c.args.newer.now older ≡ older ++ c.args.newer.now) (sym none) (alone c.args.newer.now c.len-sorted.ensures.sorted)
