use Rattle.std.proofs.Common.{◌∙◌, ap, subst, sym}
use Rattle.bt_messages.specs.inside.Runs.{AreSome}
use Rattle.bt_messages.proofs.PacketMerges.{some_first}
use Rattle.bt_messages.proofs.packet.Packet.into_runs.Goals as goal
use Rattle.bt_messages.proofs.packet.Packet.into_runs.Goals.{else-not-is_empty, then-not-is_empty+in_ok-insert}

pub returns-clause-some : goal.returns-clause-some
returns-clause-some g c = elim c.if-not-is_empty.branch [
  | then-not-is_empty+in_ok-insert w ↦
      some_first c.self.inside.first c.is_empty.result c.self.inside.rest.items c.if-not-is_empty.runs.items c.is_empty.ensures w.if-not-is_empty.true
      c.self.invariant.some (ap (λ v. v.items) w.runs-is ∙ w.in_ok-insert.ensures.items)
  | else-not-is_empty w ↦ subst AreSome (sym (ap (λ v. v.items) w.runs-is)) c.self.invariant.some
]
