-- A table that was compacted is the table after each of its trees was rebuilt.
use Rattle.std.proofs.Common.{ℕ, ◌≡◌, ◌∙◌, ◌++◌, Bool, true, false, List, [], ◌∷◌, map, Option, None, Some, Result, Ok, Err, ap, refl, subst, sym, true≢false}
use Rattle.std.proofs.lemmas.Bool.{and_parts}
use Rattle.std.specs.List.{list_all}
use Rattle.std.specs.Prelude.{not}
use Rattle.bt_value.specs.Refusals.{lowest}
use Rattle.bt_value.specs.Results.{and_then, map_ok, one_if, unless}
use Rattle.bt_value.specs.declared.refusal.Refusal.{Refusal}
use Rattle.bt_value.specs.declared.refusal.Refusal.TheVariants.{Building, NotEmpty}
use Rattle.bt_value.specs.declared.value.Value.{Value}
use Rattle.bt_row.specs.Schemas.{Schema}
use Rattle.bt_flush.specs.Drains.{packed}
use Rattle.bt_form.specs.Messages.{Rows}
use Rattle.bt_form.specs.Trees.{Shape}
use Rattle.bt_fanout.specs.Covers.{is_whole}
use Rattle.bt_fanout.specs.Entries.{Definition, entry_of}
use Rattle.bt_fanout.specs.Selections.{select}
use Rattle.bt_fanout.specs.declared.cover.Cover.{Cover}
use Rattle.bt_fanout.specs.declared.cover.Cover.TheVariants.{Nothing, UpTo, Whole}
use Rattle.bt_load.specs.Loads.{text_rows}
use Rattle.bt_load.specs.Maps.{map_of}
use Rattle.bt_table.specs.Calls.{Load, after_load, is_bare, load_refusals, loaded_rows, step, unless_any, with_rows}
use Rattle.bt_table.specs.Indexes.{Index, is_complete, packed_index}
use Rattle.bt_table.specs.Standing.{AreSoundIndexes}
use Rattle.bt_table.specs.Tables.{Intact, Lost, PlainTable, TableState}
use Rattle.bt_table.specs.declared.reply.Reply.{Reply}
use Rattle.bt_snapshot.specs.Snapshots.{AreShown, IsCompactedTable, dump_of, named_definition}
use Rattle.bt_laws.specs.CanonicalForms.{all_rebuilt}
use Rattle.bt_laws.specs.Dumps.{HasPlainHeader, IsReadyFor}
use Rattle.bt_laws.specs.StoredTables.{IsStored}
use Rattle.bt_laws.proofs.FromScratch.{whole_from_scratch}
use Rattle.bt_laws.proofs.Reloaded.{same_rows}

-- ---- the table after a call

-- the table that a call leaves; another one if it leaves none
abbrev table_in : PlainTable → TableState → PlainTable
table_in other (Intact table) = table
table_in other Lost = other

abbrev left_by : PlainTable → Result (TableState × Reply) Refusal → PlainTable
left_by other (Ok done) = table_in other done.0
left_by other (Err refusal) = other

-- ---- no refusal applies to a load that is carried out

none_applies : (keys : ℕ) (refusals : List Refusal) (rows : Result (List (List Value)) Refusal) (loaded : Rows (List Value)) →
    and_then (map_of keys) (and_then (unless_any refusals) rows) ≡ Ok loaded → lowest refusals ≡ None
none_applies keys refusals (Err refusal) loaded is = absurd cc
none_applies keys refusals (Ok rows) loaded is = by_lowest (lowest refusals) refl is
  where
    by_lowest : (least : Option Refusal) → lowest refusals ≡ least → and_then (map_of keys) (unless least rows) ≡ Ok loaded → lowest refusals ≡ None
    by_lowest None same read = same
    by_lowest (Some refusal) same read = absurd cc

-- all indexes are complete, and no refusal applies
abbrev Allows : Bool → List Refusal → Type 0
Allows complete refusals = (complete ≡ true) × (refusals ≡ [])

allowed : (complete bare : Bool) → lowest (one_if (not complete) Building ++ one_if (not bare) NotEmpty) ≡ None →
    Allows complete (one_if (not complete) Building ++ one_if (not bare) NotEmpty)
allowed true true none = (refl, refl)
allowed true false none = absurd cc
allowed false true none = absurd cc
allowed false false none = absurd cc

-- the rows that a table has loaded, and that nothing forbids the load
record HasLoaded (from : PlainTable) (text : List ℕ) (new : PlainTable) : Type 0 where
  rows : Rows (List Value)
  same : with_rows from rows ≡ new
  allows : Allows (list_all is_complete from.indexes) (load_refusals from.indexes from.tree)

loaded : (from new : PlainTable) (text : List ℕ) (reply : Reply) → step (Intact from) (Load text) ≡ Ok (Intact new, reply) → HasLoaded from text new
loaded from new text reply is = by_rows (loaded_rows from text) refl is
  where
    by_rows : (read : Result (Rows (List Value)) Refusal) → loaded_rows from text ≡ read → map_ok (after_load from) read ≡ Ok (Intact new, reply) → HasLoaded from text new
    by_rows (Err refusal) read after = absurd cc
    by_rows (Ok rows) read after = record {
      rows = rows;
      same = ap (left_by from) after;
      allows = allowed (list_all is_complete from.indexes) (is_bare from.tree)
          (none_applies from.schema.keys (load_refusals from.indexes from.tree) (text_rows from.schema.columns text) rows read);
    }

-- ---- indexes of the same definitions are packed alike

whole : (cover : Cover) → is_whole cover ≡ true → cover ≡ Whole
whole Nothing is = absurd (true≢false (sym is))
whole (UpTo last) is = absurd (true≢false (sym is))
whole Whole is = refl

-- the trees of indexes have this shape
abbrev AreShaped : Shape → List Index → Type 0
AreShaped shape [] = Unit {0}
AreShaped shape (index ∷ indexes) = (index.tree.0 ≡ shape) × AreShaped shape indexes

shaped : (schema : Schema) (shape : Shape) (rows : Rows (List Value)) (indexes : List Index) → AreSoundIndexes schema shape rows indexes → AreShaped shape indexes
shaped schema shape rows [] sound = tt
shaped schema shape rows (index ∷ indexes) sound = (sound.0.shaped, shaped schema shape rows indexes sound.1)

shaped_before : (shape : Shape) (rows : Rows (List Value)) (indexes : List Index) → AreShaped shape (map (packed_index rows) indexes) → AreShaped shape indexes
shaped_before shape rows [] are = tt
shaped_before shape rows (index ∷ indexes) are = (are.0, shaped_before shape rows indexes are.1)

named_before : (rows : Rows (List Value)) (indexes : List Index) → map named_definition (map (packed_index rows) indexes) ≡ map named_definition indexes
named_before rows [] = refl
named_before rows (index ∷ indexes) = ap (λ (rest : List (List ℕ × Definition)). named_definition index ∷ rest) (named_before rows indexes)

module _ (shape : Shape) (rows : Rows (List Value)) where
  same_packed : (first second : List Index) → AreShaped shape first → AreShaped shape second → list_all is_complete first ≡ true → list_all is_complete second ≡ true →
      map named_definition first ≡ map named_definition second → map (packed_index rows) first ≡ map (packed_index rows) second
  same_packed [] [] are also complete too same = refl
  same_packed [] (b ∷ second) are also complete too same = absurd cc
  same_packed (a ∷ first) [] are also complete too same = absurd cc
  same_packed (a ∷ first) (b ∷ second) are also complete too same =
      let parts = and_parts (is_complete a) (list_all is_complete first) complete in
      let others = and_parts (is_complete b) (list_all is_complete second) too in
      let one : named_definition a ≡ named_definition b = cc in
      let rest : map named_definition first ≡ map named_definition second = cc in
      let cover : a.cover ≡ b.cover = whole a.cover parts.0 ∙ sym (whole b.cover others.0) in
      let tree : a.tree.0 ≡ b.tree.0 = are.0 ∙ sym also.0 in
      let more = same_packed first second are.1 also.1 parts.1 others.1 rest in
      λ i. record { name = (one i).0; def = (one i).1; cover = cover i; tree = (tree i, packed (tree i) (select (entry_of (one i).1) rows)) } ∷ more i

-- ---- the table

module _ (table from : PlainTable) (rows : List (List Value)) (stored : IsStored table) (header : HasPlainHeader table) (shown : AreShown table rows) where
  -- a table that loads the dump, and then has the definitions of the first one
  rebuilt_by : (read : Rows (List Value)) (reply : Reply) → step (Intact from) (Load (dump_of table.schema.columns rows)) ≡ Ok (Intact (with_rows from read), reply) →
      Allows (list_all is_complete from.indexes) (load_refusals from.indexes from.tree) → IsCompactedTable table (with_rows from read) → with_rows from read ≡ all_rebuilt table
  rebuilt_by read reply made allows is =
      let schema : from.schema ≡ table.schema = ap (λ d. d.0) is.definitions in
      let shape : from.shape ≡ table.shape = ap (λ d. d.1) is.definitions in
      let named : map named_definition from.indexes ≡ map named_definition table.indexes = sym (named_before read from.indexes) ∙ ap (λ d. d.2) is.definitions in
      let ready : IsReadyFor table from = record { schema = schema; allowed = allows.1 } in
      let again = same_rows table from stored header ready rows shown in
      let same : with_rows from read ≡ with_rows from table.rows = ap (left_by from) (sym made ∙ again) in
      let before : AreShaped from.shape from.indexes = shaped_before from.shape read from.indexes (shaped from.schema from.shape read (map (packed_index read) from.indexes) is.sound.indexes) in
      let own : AreShaped table.shape table.indexes = shaped table.schema table.shape table.rows table.indexes stored.sound.indexes in
      let indexes = same_packed table.shape table.rows from.indexes table.indexes (subst (λ (s : Shape). AreShaped s from.indexes) shape before) own allows.0 is.complete named in
      let whole : with_rows from table.rows ≡ with_rows table table.rows =
      λ i. record { schema = schema i; shape = shape i; rows = table.rows; tree = packed (shape i) table.rows; indexes = indexes i } in
      same ∙ whole ∙ sym (whole_from_scratch table stored.sound is.complete)

pub is_rebuilt : (table new : PlainTable) (rows : List (List Value)) → IsStored table → HasPlainHeader table → AreShown table rows → IsCompactedTable table new → new ≡ all_rebuilt table
is_rebuilt table new rows stored header shown is =
    let made = is.loaded rows shown in
    let has = loaded made.0 new (dump_of table.schema.columns rows) made.1 made.2 in
    let Made : PlainTable → Type 0 = λ (t : PlainTable). step (Intact made.0) (Load (dump_of table.schema.columns rows)) ≡ Ok (Intact t, made.1) in
    let rebuilt = rebuilt_by table made.0 rows stored header shown has.rows made.1 (subst Made (sym has.same) made.2) has.allows (subst (IsCompactedTable table) (sym has.same) is) in
    sym has.same ∙ rebuilt
