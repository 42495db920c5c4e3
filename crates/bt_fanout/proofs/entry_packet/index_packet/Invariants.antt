use Rattle.std.proofs.Common.{◌≡◌, ◌++◌, drop}
use Rattle.bt_fanout.specs.Effects.{sent_for_all}
use Rattle.bt_fanout.proofs.entry_packet.index_packet.Given as goal

abbrev pub invariant-loop-effect : goal.invariant-loop-effect
invariant-loop-effect l = sent_for_all l.def l.cover l.effects ≡ l.messages.items ++ sent_for_all l.def l.cover (drop l.effect-index l.effects)
