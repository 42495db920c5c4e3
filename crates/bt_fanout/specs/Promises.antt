-- What is promised about the messages of an index.
use Rattle.std.specs.Prelude.{◌≡◌, ℕ, List, T, length}
use Rattle.std.specs.FinMap.{is_sorted}
use Rattle.std.specs.List.{All}
use Rattle.bt_value.specs.declared.value.Kind.{Kind}
use Rattle.bt_value.specs.declared.value.Value.{Value}
use Rattle.bt_keycode.specs.Keys.{key_cmp}
use Rattle.bt_message.specs.Effects.{Rows, rows_after}
use Rattle.bt_message.specs.Messages.{Messages, sorted_batch}
use Rattle.bt_fanout.specs.Covers.{cover_after, is_covered, next_rows, puts_of}
use Rattle.bt_fanout.specs.Effects.{EntryMessage, RowMessage, effects_of, entry_effect, row_effect}
use Rattle.bt_fanout.specs.Entries.{Definition, IsWithin, StandsUnder, entry_of, same_values}
use Rattle.bt_fanout.specs.Selections.{EachStands, covered, index_messages, select}
use Rattle.bt_fanout.specs.declared.cover.Cover.{Cover}
use Rattle.bt_fanout.specs.declared.effect.Effect.{Effect}
use Rattle.bt_fanout.specs.declared.step.BuildStep.{BuildStep}

-- the index of covered rows
abbrev pub index_of : Definition → Cover → Rows (List Value) → Rows (List Value)
index_of def cover rows = select (entry_of def) (covered (is_covered cover) rows)

-- ---- batches

-- a packet is that of a batch on rows, and changes the index of the covered rows before it to that of the covered rows after it
pub record Turns (def : Definition) (cover : Cover) (batch : Messages RowMessage) (rows : Rows (List Value)) (packet : Messages EntryMessage) : Type 0 where
  pub messages : packet ≡ sorted_batch (index_messages (entry_of def) same_values row_effect (is_covered cover) batch rows)
  pub index : rows_after entry_effect packet (index_of def cover rows) ≡ index_of def cover (rows_after row_effect batch rows)

-- for any batch that the effects come from, if each row is under the code of its key columns before it and after it
abbrev pub TurnsIndex : Definition → Cover → List Effect → Messages EntryMessage → Type 0
TurnsIndex def cover effects packet =
    (kinds : List Kind) (batch : Messages RowMessage) (rows : Rows (List Value)) → effects ≡ effects_of batch rows → T (is_sorted key_cmp rows) →
    EachStands (StandsUnder def kinds) rows → EachStands (StandsUnder def kinds) (rows_after row_effect batch rows) → Turns def cover batch rows packet

-- ---- steps of building

-- if the rows are those that a step of building reads, the packet changes the index of the rows covered before it to that of the rows covered after it
abbrev pub BuildsFrom : Definition → Rows (List Value) → Messages EntryMessage → Type 0
BuildsFrom def read packet =
    (kinds : List Kind) (n : ℕ) (cover : Cover) (rows : Rows (List Value)) → read ≡ next_rows n cover rows → T (is_sorted key_cmp rows) →
    EachStands (StandsUnder def kinds) rows → rows_after entry_effect packet (index_of def cover rows) ≡ index_of def (cover_after n cover rows) rows

-- what a step that is to read n rows makes
pub record IsBuildStep (def : Definition) (n : ℕ) (before : Cover) (rows : Rows (List Value)) (step : BuildStep) : Type 0 where
  pub packet : step.packet ≡ sorted_batch (puts_of (entry_of def) (next_rows n before rows))
  pub builds : BuildsFrom def (next_rows n before rows) step.packet
  pub cover : step.cover ≡ cover_after n before rows
  pub read : step.read ≡ length (next_rows n before rows)

-- ---- loads

-- rows that an index is made of: by rising key, each under the code of its key columns and with the columns that the definition names
pub record SuitsRows (def : Definition) (rows : Rows (List Value)) : Type 0 where
  pub within : All (λ row. IsWithin def (length row.1)) rows
  pub sorted : T (is_sorted key_cmp rows)
  pub kinds : List Kind
  pub stand : EachStands (StandsUnder def kinds) rows
