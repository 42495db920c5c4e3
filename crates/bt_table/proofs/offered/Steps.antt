-- A call leaves a sound table sound, and a complete index of a sound table holds what it selects.
use Rattle.std.proofs.Common.{ℕ, ◌≡◌, ◌≤◌, true, false, refl, length, arith, List, [], ◌∷◌, Option, Some, None, option_map, if◌then◌else◌, IfOk, Result, Ok, Err}
use Rattle.std.specs.FinMap.{find}
use Rattle.std.specs.List.{All, list_all}
use Rattle.std.proofs.lemmas.Bool.Decides.{nat_tests}
use Rattle.bt_value.specs.Refusals.{lowest}
use Rattle.bt_row.specs.Schemas.{Schema}
use Rattle.bt_value.specs.declared.refusal.Refusal.{Refusal}
use Rattle.bt_value.specs.declared.refusal.Refusal.TheVariants.{AlreadyComplete, NoSuchTree}
use Rattle.bt_value.specs.declared.value.Value.{Value}
use Rattle.bt_value.specs.Results.{or_refused, unless, and_then, map_ok}
use Rattle.bt_keycode.specs.Codes.{code_of}
use Rattle.bt_keycode.specs.Keys.{key_cmp}
use Rattle.bt_form.specs.Fits.{IsRoomy}
use Rattle.bt_form.specs.Messages.{Rows}
use Rattle.bt_form.specs.Shapes.{is_shape}
use Rattle.bt_form.specs.Trees.{Shape}
use Rattle.bt_load.specs.Loads.{text_rows}
use Rattle.bt_load.specs.Maps.{map_of}
use Rattle.bt_load.proofs.offered.Loaded.{map_of-sorted, text_rows-of}
use Rattle.bt_keycode.specs.Standing.{AreOf}
use Rattle.bt_table.proofs.Loads.{map_of-stand}
use Rattle.bt_batch.specs.Batches.{batch_refusals, messages_of, read_key}
use Rattle.bt_table.specs.Calls.{after_build, after_load, built, Call, Apply, ApplyMessages, BuildStep, CreateIndex, Drain, DropIndex, Get, GetAt, Load}
use Rattle.bt_table.specs.Calls.{Rebuild, Upkeep, Draining, Rebuilding, dropped, is_bare, is_primary, load_refusals, name_refusals}
use Rattle.bt_table.specs.Calls.{sent_counts, step, unless_any, with_index, with_renewed, with_renewed_index, with_renewed_rows}
use Rattle.bt_table.specs.Indexes.{Index, index_named, is_complete}
use Rattle.bt_table.specs.Standing.{AreSoundIndexes, CompleteIndexesHold, HoldsSelection, IsSound, IsSoundTable}
use Rattle.bt_table.specs.Standing.{IsConsistent, IsSoundUnlessLost, SuitMessages, Suits}
use Rattle.bt_table.specs.Tables.{PlainTable, TableState, Intact, Lost, after_batch, empty_table}
use Rattle.bt_table.specs.declared.reply.Reply.{Reply}
use Rattle.bt_table.specs.declared.reply.Reply.TheVariants.{Batch, Created, Drained, Rebuilt, Row}
use Rattle.bt_fanout.proofs.offered.Suiting.{all_more, all_none}
use Rattle.bt_table.proofs.Indexes.{holds_selection}
use Rattle.bt_batch.proofs.offered.OfSchema.{batch_of_schema}
use Rattle.bt_table.proofs.Sound.{batch_keeps_sound, none_building, with_built_index-sound, with_index-sound}
use Rattle.bt_table.proofs.Sound.{with_renewed_index-sound, with_renewed_rows-sound, with_rows-sound, without_index-sound}

pub empty_is_sound : (schema : Schema) (shape : Shape) → schema.keys ≤ length schema.columns → IsRoomy shape → IsSoundTable (empty_table schema shape)
empty_is_sound schema shape few roomy = record {
  tree = record { roomy = roomy; levels = 0; fits = record { lies = tt; sized = omega arith } };
  held = refl;
  rows = tt;
  keys = few;
  indexes = tt;
}

pub shape_is_roomy : (shape : Shape) → is_shape shape.measure shape.fanout shape.buffer shape.leaf ≡ true → IsRoomy shape
shape_is_roomy shape test = record { fanout = grind (arith, nat_tests); leaf = grind (arith, nat_tests) }

when_allowed : (refusal : Option Refusal) (table : PlainTable) (reply : Reply) → IsSoundTable table → IfOk (unless refusal (Intact table, reply)) (λ (after : TableState × Reply). IsSound after.0)
when_allowed (Some refusal) table reply sound = tt
when_allowed None table reply sound = sound

when_read : (read : Result (List Value) Refusal) (table : PlainTable) (reply : List Value → Reply) → IsSoundTable table
    → IfOk (map_ok (λ key. (Intact table, reply key)) read) (λ (after : TableState × Reply). IsSound after.0)
when_read (Ok key) table reply sound = sound
when_read (Err refusal) table reply sound = tt

when_found : (found : Option (ℕ × Index)) (table : PlainTable) (name : List ℕ) → IsSoundTable table → IfOk (dropped table name found) (λ (after : TableState × Reply). IsSound after.0)
when_found None table name sound = tt
when_found (Some found) table name sound = without_index-sound table found.0 sound

map_keeps_sound : (table : PlainTable) (rows : List (List Value)) (map : Result (Rows (List Value)) Refusal) → map_of table.schema.keys rows ≡ map → AreOf table.schema.columns rows
    → list_all is_complete table.indexes ≡ true → IsSoundTable table → IfOk (map_ok (after_load table) map) (λ (after : TableState × Reply). IsSound after.0)
map_keeps_sound table rows (Err refusal) is fit complete sound = tt
map_keeps_sound table rows (Ok map) is fit complete sound =
    with_rows-sound table map (map_of-stand table.schema rows map fit is) (map_of-sorted table.schema.keys rows map is) complete sound

allowed_keeps_sound : (table : PlainTable) (rows : List (List Value)) (refusal : Option Refusal) → lowest (load_refusals table.indexes table.tree) ≡ refusal → AreOf table.schema.columns rows
    → IsSoundTable table → IfOk (map_ok (after_load table) (and_then (map_of table.schema.keys) (unless refusal rows))) (λ (after : TableState × Reply). IsSound after.0)
allowed_keeps_sound table rows (Some refusal) is fit sound = tt
allowed_keeps_sound table rows None is fit sound =
    map_keeps_sound table rows (map_of table.schema.keys rows) refl fit (none_building (list_all is_complete table.indexes) (is_bare table.tree) is) sound

load_keeps_sound : (table : PlainTable) (text : List ℕ) (read : Result (List (List Value)) Refusal) → text_rows table.schema.columns text ≡ read → IsSoundTable table
    → IfOk (map_ok (after_load table) (and_then (map_of table.schema.keys) (and_then (unless_any (load_refusals table.indexes table.tree)) read))) (λ (after : TableState × Reply). IsSound after.0)
load_keeps_sound table text (Err refusal) is sound = tt
load_keeps_sound table text (Ok rows) is sound =
    allowed_keeps_sound table rows (lowest (load_refusals table.indexes table.tree)) refl (text_rows-of table.schema.columns text rows is) sound

renewed_keeps_sound : (upkeep : Upkeep) (table : PlainTable) (name : List ℕ) (reply : Reply) → IsSoundTable table
    → IfOk (map_ok (λ after. (Intact after, reply)) (with_renewed upkeep table name)) (λ (after : TableState × Reply). IsSound after.0)
renewed_keeps_sound upkeep table name reply sound =
    elim (is_primary name) as (λ b. IfOk (map_ok (λ after. (Intact after, reply)) (if b then Ok (with_renewed_rows upkeep table)
    else or_refused NoSuchTree (option_map (with_renewed_index upkeep table) (index_named name table.indexes)))) (λ (after : TableState × Reply). IsSound after.0)) [
      | true ↦ with_renewed_rows-sound upkeep table sound
      | false ↦ by_found (index_named name table.indexes) refl
    ]
  where
    by_found : (found : Option (ℕ × Index)) → index_named name table.indexes ≡ found
        → IfOk (map_ok (λ after. (Intact after, reply)) (or_refused NoSuchTree (option_map (with_renewed_index upkeep table) found))) (λ (after : TableState × Reply). IsSound after.0)
    by_found None is = tt
    by_found (Some found) is = with_renewed_index-sound table name found is sound upkeep

built_keeps_sound : (table : PlainTable) (name : List ℕ) (n : ℕ) (found : Option (ℕ × Index)) → index_named name table.indexes ≡ found → IsSoundTable table
    → IfOk (built table name n found) (λ (after : TableState × Reply). IsSound after.0)
built_keeps_sound table name n None is sound = tt
built_keeps_sound table name n (Some found) is sound =
    elim (is_complete found.1) as (λ b. IfOk (if b then Err AlreadyComplete else Ok (after_build table name n found)) (λ (after : TableState × Reply). IsSound after.0)) [
      | true ↦ tt
      | false ↦ with_built_index-sound table name found is sound n
    ]

-- the definition of a new index is one of the schema, and so are messages that are applied
abbrev pub IsOfSchema : TableState → Call → Type 0
IsOfSchema state (Apply items) = Unit {0}
IsOfSchema state (ApplyMessages messages) = SuitMessages state messages
IsOfSchema state (Get fields) = Unit {0}
IsOfSchema state (GetAt key) = Unit {0}
IsOfSchema state (CreateIndex name def) = Suits state def
IsOfSchema state (BuildStep name count) = Unit {0}
IsOfSchema state (DropIndex name) = Unit {0}
IsOfSchema state (Load text) = Unit {0}
IsOfSchema state (Drain name) = Unit {0}
IsOfSchema state (Rebuild name) = Unit {0}

pub step_keeps_sound : (state : TableState) (call : Call) → IsOfSchema state call → IsSound state → IfOk (step state call) (λ (after : TableState × Reply). IsSound after.0)
step_keeps_sound Lost call fits sound = absurd sound
step_keeps_sound (Intact table) (CreateIndex name def) fits sound =
    when_allowed (lowest (name_refusals table name)) (with_index table name def) (Created name) (with_index-sound table name def fits sound)
step_keeps_sound (Intact table) (BuildStep name count) fits sound = built_keeps_sound table name count (index_named name table.indexes) refl sound
step_keeps_sound (Intact table) (DropIndex name) fits sound = when_found (index_named name table.indexes) table name sound
step_keeps_sound (Intact table) (Load text) fits sound = load_keeps_sound table text (text_rows table.schema.columns text) refl sound
step_keeps_sound (Intact table) (Drain name) fits sound = renewed_keeps_sound Draining table name (Drained name) sound
step_keeps_sound (Intact table) (Rebuild name) fits sound = renewed_keeps_sound Rebuilding table name (Rebuilt name) sound
step_keeps_sound (Intact table) (Apply items) fits sound =
    let messages = messages_of table.schema items in
    when_allowed (lowest (batch_refusals table.schema items)) (after_batch table messages) (Batch (length items) (sent_counts table messages))
    (batch_keeps_sound table messages (batch_of_schema table.schema items) sound)
step_keeps_sound (Intact table) (ApplyMessages messages) fits sound = batch_keeps_sound table messages fits sound
step_keeps_sound (Intact table) (GetAt key) fits sound = sound
step_keeps_sound (Intact table) (Get fields) fits sound =
    when_read (read_key table.schema 1 fields) table (λ key. Row (find key_cmp (code_of key) table.rows)) sound

-- each complete index of a sound table holds exactly the entries that its definition selects from the rows now
pub complete_indexes_hold : (table : PlainTable) → IsSoundTable table → All (HoldsSelection table.rows) table.indexes
complete_indexes_hold table sound = each table.indexes sound.indexes
  where
    each : (indexes : List Index) → AreSoundIndexes table.schema table.shape table.rows indexes → All (HoldsSelection table.rows) indexes
    each [] sound = all_none (HoldsSelection table.rows)
    each (index ∷ indexes) sound =
        all_more (HoldsSelection table.rows) index indexes (holds_selection table.schema table.shape table.rows index sound.0) (each indexes sound.1)

-- the same for a table that may be lost
pub unless_lost_hold : (state : TableState) → IsSoundUnlessLost state → CompleteIndexesHold state
unless_lost_hold (Intact table) sound = complete_indexes_hold table sound
unless_lost_hold Lost sound = tt

pub is_consistent : (state : TableState) → IsSoundUnlessLost state → IsConsistent state
is_consistent state sound = record { complete = unless_lost_hold state sound; sound = sound }

-- and for one that is sound
pub sound_hold : (state : TableState) → IsSound state → CompleteIndexesHold state
sound_hold (Intact table) sound = complete_indexes_hold table sound
sound_hold Lost sound = absurd sound
