-- The packet for the effects of a batch changes an index from the rows before to the rows after.
use Rattle.std.proofs.Common.{List, T, refl}
use Rattle.std.specs.FinMap.{is_sorted}
use Rattle.bt_value.specs.declared.value.Kind.{Kind}
use Rattle.bt_value.specs.declared.value.Value.{Value}
use Rattle.bt_keycode.specs.Keys.{key_cmp}
use Rattle.bt_message.specs.Effects.{Rows, rows_after}
use Rattle.bt_message.specs.Messages.{Messages, sorted_batch}
use Rattle.bt_fanout.specs.Effects.{RowMessage, effects_of, row_effect, sent_for_all}
use Rattle.bt_fanout.specs.Entries.{Definition, StandsUnder}
use Rattle.bt_fanout.specs.Promises.{Turns}
use Rattle.bt_fanout.specs.Selections.{EachStands}
use Rattle.bt_fanout.specs.declared.cover.Cover.{Cover}
use Rattle.bt_fanout.proofs.Turning.{turns_index}

pub packet_turns : (def : Definition) (cover : Cover) (kinds : List Kind) (batch : Messages RowMessage) (rows : Rows (List Value)) → T (is_sorted key_cmp rows) →
    EachStands (StandsUnder def kinds) rows → EachStands (StandsUnder def kinds) (rows_after row_effect batch rows)
    → Turns def cover batch rows (sorted_batch (sent_for_all def cover (effects_of batch rows)))
packet_turns def cover kinds batch rows = turns_index def cover (effects_of batch rows) kinds batch rows refl
