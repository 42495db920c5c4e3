use Rattle.std.proofs.Common.{ap, arith, length, subst, sym}
use Rattle.bt_keycode.specs.Keys.{IsSorted}
use Rattle.bt_messages.proofs.PacketMerges.{runs-append, whole-append}
use Rattle.bt_messages.proofs.packet.Packet.append.Goals as goal

pub invariant_of-self-2 : goal.invariant_of-self-2
invariant_of-self-2 g c =
    let runs = c.in_ok-runs.ensures in
    let all = whole-append c.self.inside.first c.self.inside.rest.items c.in_ok-runs.runs.items c.self.view_is runs.concatenation c.in_ok-append.ensures.items in
    runs-append c.in_ok-runs.runs.items c.self.invariant runs.some c.in_ok-append.ensures.items (subst IsSorted (sym all) c.requires)
    (omega (arith, c.in_ok-count.ensures.0, c.len.ensures.count, ap length runs.concatenation)) c.in_ok-count.ensures.1

pub returns-clause-ok : goal.returns-clause-ok
returns-clause-ok g c =
    whole-append c.self.inside.first c.self.inside.rest.items c.in_ok-runs.runs.items c.self.view_is c.in_ok-runs.ensures.concatenation c.in_ok-append.ensures.items
