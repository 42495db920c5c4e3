use Rattle.std.proofs.Common.{subst, sym}
use Rattle.std.specs.List.{All}
use Rattle.bt_fanout.specs.Effects.{SuitsEffect}
use Rattle.test_calls.proofs.indexes.sent_text.Goals as goal

pub index_packet-packet-requires : goal.index_packet-packet-requires
index_packet-packet-requires c =
    let def = c.in_ok-def in
    subst (All (SuitsEffect def.def)) (sym c.as_slice.ensures.value) (c.in_ok-effects.ensures def.def def.ensures.suits def.ensures.keys)
