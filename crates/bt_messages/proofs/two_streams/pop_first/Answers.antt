use Rattle.std.proofs.Common.{sym, ◌∙◌}
use Rattle.bt_messages.proofs.PacketMerges.{popped_newer, popped_older}
use Rattle.bt_messages.proofs.two_streams.pop_first.Goals as goal

pub returns-then-goes_before : goal.returns-then-goes_before
returns-then-goes_before g c = popped_newer c.pop.result c.args.older.now c.args.newer.now c.pop.new.self c.pop.ensures.sorted
    (sym c.goes_before.ensures.before ∙ c.if-goes_before.true) c.pop.ensures.first

pub returns-else-goes_before : goal.returns-else-goes_before
returns-else-goes_before g c = popped_older c.pop-else-goes_before.result c.args.older.now c.args.newer.now c.pop-else-goes_before.new.self
    c.goes_before.ensures.sorted (sym c.goes_before.ensures.before ∙ c.if-goes_before.false) c.pop-else-goes_before.ensures.first
