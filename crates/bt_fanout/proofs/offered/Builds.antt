-- What a step of building leaves.
use Rattle.std.proofs.Common.{◌≡◌, ℕ, T, List, refl}
use Rattle.std.specs.FinMap.{is_sorted}
use Rattle.bt_value.specs.declared.value.Kind.{Kind}
use Rattle.bt_value.specs.declared.value.Value.{Value}
use Rattle.bt_keycode.specs.Keys.{key_cmp}
use Rattle.bt_message.specs.Effects.{Rows, rows_after}
use Rattle.bt_message.specs.Messages.{sorted_batch}
use Rattle.bt_fanout.specs.Covers.{cover_after, next_rows, puts_of}
use Rattle.bt_fanout.specs.Effects.{entry_effect}
use Rattle.bt_fanout.specs.Entries.{Definition, StandsUnder, entry_of}
use Rattle.bt_fanout.specs.Promises.{index_of}
use Rattle.bt_fanout.specs.Selections.{EachStands}
use Rattle.bt_fanout.specs.declared.cover.Cover.{Cover}
use Rattle.bt_fanout.proofs.BuildPackets.{builds_from}
pub use Rattle.bt_fanout.proofs.Lookups.{sorted-select}

module _ (def : Definition) (kinds : List Kind) (rows : Rows (List Value)) (sorted : T (is_sorted key_cmp rows)) (stand : EachStands (StandsUnder def kinds) rows) where
  -- the index of the rows covered before the step becomes that of the rows covered after it
  pub step_builds : (n : ℕ) (cover : Cover)
      → rows_after entry_effect (sorted_batch (puts_of (entry_of def) (next_rows n cover rows))) (index_of def cover rows)
      ≡ index_of def (cover_after n cover rows) rows
  step_builds n cover = builds_from def (next_rows n cover rows) kinds n cover rows refl sorted stand
