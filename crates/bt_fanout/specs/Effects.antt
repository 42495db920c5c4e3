-- How a batch changes rows, and the messages of an index for that.
use Rattle.std.specs.Prelude.{List, [], ◌∷◌, ◌++◌, length, Option, Some, None, if◌then◌else◌}
use Rattle.std.specs.FinMap.{find}
use Rattle.std.specs.List.{filter}
use Rattle.bt_value.specs.declared.value.Value.{Value}
use Rattle.bt_keycode.specs.Keys.{Key, key_cmp}
use Rattle.bt_message.specs.Effects.{Rows, effect_of, rows_after}
use Rattle.bt_message.specs.Meanings.{Meaning, meaning_of}
use Rattle.bt_message.specs.Messages.{Messages}
use Rattle.bt_message.specs.Payloads.{entry_terms, row_terms}
use Rattle.bt_message.specs.declared.message.Message.{Message}
use Rattle.bt_row.specs.Ops.{Change}
use Rattle.bt_fanout.specs.Covers.{is_covered}
use Rattle.bt_fanout.specs.Entries.{Definition, IsWithin, entry_of, same_values}
use Rattle.bt_fanout.specs.Selections.{between, entry_in, named}
use Rattle.bt_fanout.specs.declared.cover.Cover.{Cover}
use Rattle.bt_fanout.specs.declared.effect.Effect.{Effect}

-- a message to a row, and to an entry
abbrev pub RowMessage : Type 0
RowMessage = Message (List Value) Change

abbrev pub EntryMessage : Type 0
EntryMessage = Message (List Value) (List Value)

-- a row after a message, and an entry after a message
abbrev pub row_effect : Option (List Value) → RowMessage → Option (List Value)
row_effect = effect_of row_terms.merged

abbrev pub entry_effect : Option (List Value) → EntryMessage → Option (List Value)
entry_effect = effect_of entry_terms.merged

-- the meaning of a message to a row, and to an entry: its effect and its weight
abbrev pub row_meaning : Meaning (List Value) RowMessage
row_meaning = meaning_of row_terms

abbrev pub entry_meaning : Meaning (List Value) EntryMessage
entry_meaning = meaning_of entry_terms

-- for each of these keys the row before and the row after
abbrev pub effects_at : (Key → Option (List Value)) → (Key → Option (List Value)) → Rows (Unit {0}) → List Effect
effects_at before after [] = []
effects_at before after (k ∷ ks) = record { key = k.0; before = before k.0; after = after k.0 } ∷ effects_at before after ks

-- for each key that a batch names, in key order, the row before and the row after the batch
abbrev pub effects_of : Messages RowMessage → Rows (List Value) → List Effect
effects_of batch rows = effects_at (λ k. find key_cmp k rows) (λ k. find key_cmp k (rows_after row_effect batch rows)) (named batch)

-- those whose keys a cover covers
abbrev pub effects_within : Cover → Messages RowMessage → Rows (List Value) → List Effect
effects_within cover batch rows = filter (λ effect. is_covered cover effect.key) (effects_of batch rows)

-- the places of a definition are places of the row, if there is one
abbrev pub SuitsIn : Definition → Option (List Value) → Type 0
SuitsIn def None = Unit {0}
SuitsIn def (Some row) = IsWithin def (length row)

-- and of the rows of an effect
abbrev pub SuitsEffect : Definition → Effect → Type 0
SuitsEffect def effect = SuitsIn def effect.before × SuitsIn def effect.after

-- what is sent to an index for one effect
abbrev pub sent_for : Definition → Cover → Effect → Messages EntryMessage
sent_for def cover effect =
    if is_covered cover effect.key then between same_values (entry_in (entry_of def) effect.key effect.before) (entry_in (entry_of def) effect.key effect.after) else []

-- for all effects
abbrev pub sent_for_all : Definition → Cover → List Effect → Messages EntryMessage
sent_for_all def cover [] = []
sent_for_all def cover (effect ∷ effects) = sent_for def cover effect ++ sent_for_all def cover effects
