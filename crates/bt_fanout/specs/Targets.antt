-- What a batch sends to indexes.
use Rattle.std.specs.Prelude.{List}
use Rattle.std.specs.List.{All}
use Rattle.bt_message.specs.Messages.{Messages, sorted_batch}
use Rattle.bt_fanout.specs.Effects.{EntryMessage, SuitsEffect, sent_for_all}
use Rattle.bt_fanout.specs.declared.effect.Effect.{Effect}
use Rattle.bt_fanout.specs.declared.joint_packets.IndexTarget.{IndexTarget}

-- the packet of an index for effects
abbrev pub packet_of : List Effect → IndexTarget → Messages EntryMessage
packet_of effects index = sorted_batch (sent_for_all index.def.now index.cover.now effects)

-- the rows of effects suit the definitions of indexes
abbrev pub SuitAll : List IndexTarget → List Effect → Type 0
SuitAll indexes effects = All (λ (index : IndexTarget). All (SuitsEffect index.def.now) effects) indexes
