-- The calls on a table, the table after each, and the replies.
use Rattle.std.specs.Prelude.{ℕ, ◌≡◌, ◌≢◌, ◌≤◌, ◌==◌, ◌||◌, ◌&&◌, ◌⊎◌, Bool, not, List, [], ◌∷◌, ◌++◌, is_some, length, map, nat_le}
use Rattle.std.specs.Prelude.{set, Option, Some, None, option_map, Result, Ok, Err, IfErr, IsErrOf, if◌then◌else◌, codes}
use Rattle.std.specs.Cmp.Lexicographic.{pointwise}
use Rattle.std.specs.FinMap.{find}
use Rattle.std.specs.List.{list_all, remove}
use Rattle.bt_value.specs.Refusals.{lowest}
use Rattle.bt_row.specs.Schemas.{Schema}
use Rattle.bt_value.specs.declared.refusal.Refusal.{Refusal}
use Rattle.bt_value.specs.Results.{or_refused, unless, and_then, map_ok, one_if}
use Rattle.bt_value.specs.declared.refusal.Refusal.TheVariants.{AlreadyComplete, Building, Failed, NameTaken, NoSuchTree, NotEmpty, OutOfMemory, TooMany}
use Rattle.bt_value.specs.declared.value.Value.{Value}
use Rattle.bt_keycode.specs.Codes.{code_of}
use Rattle.bt_keycode.specs.Keys.{Key, key_cmp}
use Rattle.bt_flush.specs.Drains.{drained, packed, rebuilt}
use Rattle.bt_form.specs.Flushes.{holds}
use Rattle.bt_form.specs.Messages.{Meaning, Rows}
use Rattle.bt_form.specs.Trees.{Shape, Tree}
use Rattle.bt_form.specs.Walks.{is_leaf, rows_of}
use Rattle.bt_load.specs.Loads.{text_rows}
use Rattle.bt_load.specs.Maps.{map_of}
use Rattle.bt_rowtype.specs.declared.item.Item.{Item}
use Rattle.bt_fanout.specs.Covers.{next_rows}
use Rattle.bt_fanout.specs.Effects.{entry_effect, entry_meaning, row_effect, row_meaning}
use Rattle.bt_fanout.specs.Definitions.{kinds_of}
use Rattle.bt_fanout.specs.Entries.{Definition, SuitsKinds}
use Rattle.bt_fanout.specs.Promises.{index_of}
use Rattle.bt_batch.specs.Batches.{RowMessages, batch_refusals, messages_of, read_key}
use Rattle.bt_table.specs.Indexes.{Index, built_index, empty_index, index_named, index_of_ref, is_complete, packed_index, packet_of, sent_count, with_tree}
use Rattle.bt_table.specs.Standing.{AllStand, HoldsSelection, KeysRise}
use Rattle.bt_table.specs.Tables.{PlainTable, RowTree, TableState, Intact, Lost, after_batch}
use Rattle.bt_table.specs.declared.table.TreeRef.{TreeRef}
use Rattle.bt_table.specs.declared.table.TreeRef.TheVariants as shown
use Rattle.bt_table.specs.declared.reply.Reply.{Reply}
use Rattle.bt_table.specs.declared.reply.Reply.TheVariants.{Batch, Built, Created, Drained, Dropped, Loaded, Rebuilt, Row}
use Rattle.bt_table.specs.declared.reply.SentCount.{SentCount}

-- a call on a table
pub data Call : Type 0 where
  -- apply the messages of a batch
  Apply : (items : List Item) → Call
  -- apply messages of the table's schema
  ApplyMessages : (messages : RowMessages) → Call
  -- return the row whose key these fields encode
  Get : (fields : List (List ℕ)) → Call
  -- return the row at a key
  GetAt : (key : Key) → Call
  -- create an index of a definition
  CreateIndex : (name : List ℕ) → (def : Definition) → Call
  -- read n more rows for an index
  BuildStep : (name : List ℕ) → (count : ℕ) → Call
  -- drop an index
  DropIndex : (name : List ℕ) → Call
  -- load the records of a text as its rows
  Load : (text : List ℕ) → Call
  -- flush every buffer of a tree
  Drain : (name : List ℕ) → Call
  -- rebuild a tree from its contents
  Rebuild : (name : List ℕ) → Call

-- a value, or the smallest of the refusals if some apply
abbrev pub unless_any : {A : Type 0} → List Refusal → A → Result A Refusal
unless_any refusals value = unless (lowest refusals) value

-- the name of the tree of rows
abbrev pub primary : List ℕ
primary = codes "primary"

-- whether a name is that
abbrev pub is_primary : List ℕ → Bool
is_primary name = pointwise ◌==◌ name primary

-- the largest number of indexes of a table
abbrev pub most_indexes : ℕ
most_indexes = 16

-- the refusals that apply to a new index of this name: it is taken, or there are too many
abbrev pub name_refusals : PlainTable → List ℕ → List Refusal
name_refusals table name =
    one_if (is_primary name || is_some (index_named name table.indexes)) NameTaken ++ one_if (nat_le most_indexes (length table.indexes)) TooMany

-- the refusals that apply to it in a state
abbrev pub index_refusals : TableState → List ℕ → List Refusal
index_refusals Lost name = Failed ∷ []
index_refusals (Intact table) name = name_refusals table name

-- a table with a new index
abbrev pub with_index : PlainTable → List ℕ → Definition → PlainTable
with_index table name def = record table { indexes = table.indexes ++ empty_index table.shape name def ∷ [] }

-- a table without the index at a place
abbrev pub without_index : PlainTable → ℕ → PlainTable
without_index table place = record table { indexes = remove table.indexes place }

-- the index of this name is dropped, or there is none
abbrev pub dropped : PlainTable → List ℕ → Option (ℕ × Index) → Result (TableState × Reply) Refusal
dropped table name None = Err NoSuchTree
dropped table name (Some found) = Ok (Intact (without_index table found.0), Dropped name)

-- a table with another index at a place
abbrev pub with_index_at : PlainTable → ℕ → Index → PlainTable
with_index_at table place index = record table { indexes = set table.indexes place index }

-- the table after a step of building of the index at a place, which is to read n rows, and the reply: how many rows it read, and whether the index is complete
abbrev pub after_build : PlainTable → List ℕ → ℕ → ℕ × Index → TableState × Reply
after_build table name n found =
    (Intact (with_index_at table found.0 (built_index n table.rows found.1)), Built name (length (next_rows n found.1.cover table.rows)) (is_complete (built_index n table.rows found.1)))

-- the index of this name is built on, or there is none, or it is complete
abbrev pub built : PlainTable → List ℕ → ℕ → Option (ℕ × Index) → Result (TableState × Reply) Refusal
built table name n None = Err NoSuchTree
built table name n (Some found) = if is_complete found.1 then Err AlreadyComplete else Ok (after_build table name n found)

-- how many messages of a batch each index is sent
abbrev pub sent_counts : PlainTable → RowMessages → List SentCount
sent_counts table batch = map (λ index. sent_count index (packet_of table.rows batch index)) table.indexes

-- a table after it has applied messages, and the reply: how many they are, and how many each index was sent
abbrev pub after_messages : PlainTable → RowMessages → TableState × Reply
after_messages table messages = (Intact (after_batch table messages), Batch (length messages) (sent_counts table messages))

-- ---- loading

-- whether a tree is one leaf without rows
abbrev pub is_bare : RowTree → Bool
is_bare tree = is_leaf tree && (length (rows_of tree) == 0)

-- the refusals that apply to a load of any text: some index is not complete, or there may be rows
abbrev pub load_refusals : List Index → RowTree → List Refusal
load_refusals indexes tree = one_if (not (list_all is_complete indexes)) Building ++ one_if (not (is_bare tree)) NotEmpty

-- the map of the rows of a text, or the lowest refusal: of its header and its records, of the table, of a key that occurs again
abbrev pub loaded_rows : PlainTable → List ℕ → Result (Rows (List Value)) Refusal
loaded_rows table text = and_then (map_of table.schema.keys) (and_then (unless_any (load_refusals table.indexes table.tree)) (text_rows table.schema.columns text))

-- a table with these rows in place of its own: its tree is packed from them, and the trees of its indexes from their entries
abbrev pub with_rows : PlainTable → Rows (List Value) → PlainTable
with_rows table rows = record table { rows = rows; tree = packed table.shape rows; indexes = map (packed_index rows) table.indexes }

-- a table after it has loaded rows, each under its key, and the reply
abbrev pub after_load : PlainTable → Rows (List Value) → TableState × Reply
after_load table rows = (Intact (with_rows table rows), Loaded (length rows))

-- ---- upkeep of trees

-- the upkeep of a tree: every buffer is flushed, or the tree is rebuilt from its contents
pub data Upkeep : Type 0 where
  Draining : Upkeep
  Rebuilding : Upkeep

-- a tree after it
abbrev pub renewed_tree : {V M : Type 0} → Upkeep → Meaning V M → Shape → Tree V M → Tree V M
renewed_tree Draining meaning shape t = drained meaning shape t
renewed_tree Rebuilding meaning shape t = rebuilt meaning.effect shape t

-- an index after it
abbrev pub renewed_index : Upkeep → Index → Index
renewed_index upkeep index = with_tree index (index.tree.0, renewed_tree upkeep entry_meaning index.tree.0 index.tree.1)

-- a table after the upkeep of the tree of its rows, and of the index that was found at a place
abbrev pub with_renewed_rows : Upkeep → PlainTable → PlainTable
with_renewed_rows upkeep table = record table { tree = renewed_tree upkeep row_meaning table.shape table.tree }

abbrev pub with_renewed_index : Upkeep → PlainTable → ℕ × Index → PlainTable
with_renewed_index upkeep table found = with_index_at table found.0 (renewed_index upkeep found.1)

-- a table after the upkeep of the tree of this name, if there is one
abbrev pub with_renewed : Upkeep → PlainTable → List ℕ → Result PlainTable Refusal
with_renewed upkeep table name =
    if is_primary name then Ok (with_renewed_rows upkeep table) else or_refused NoSuchTree (option_map (with_renewed_index upkeep table) (index_named name table.indexes))

-- A call: the table after it and its reply, or its refusal, and then the table does not change. That the table was lost is reported before all else.
abbrev pub step : TableState → Call → Result (TableState × Reply) Refusal
step Lost call = Err Failed
step (Intact table) (Apply items) =
    unless_any (batch_refusals table.schema items)
    (Intact (after_batch table (messages_of table.schema items)), Batch (length items) (sent_counts table (messages_of table.schema items)))
step (Intact table) (ApplyMessages messages) = Ok (after_messages table messages)
step (Intact table) (GetAt key) = Ok (Intact table, Row (find key_cmp key table.rows))
step (Intact table) (Get fields) = map_ok (λ key. (Intact table, Row (find key_cmp (code_of key) table.rows))) (read_key table.schema 1 fields)
step (Intact table) (CreateIndex name def) = unless_any (name_refusals table name) (Intact (with_index table name def), Created name)
step (Intact table) (BuildStep name count) = built table name count (index_named name table.indexes)
step (Intact table) (DropIndex name) = dropped table name (index_named name table.indexes)
step (Intact table) (Load text) = map_ok (after_load table) (loaded_rows table text)
step (Intact table) (Drain name) = map_ok (λ after. (Intact after, Drained name)) (with_renewed Draining table name)
step (Intact table) (Rebuild name) = map_ok (λ after. (Intact after, Rebuilt name)) (with_renewed Rebuilding table name)

-- whether a call is carried out, or as what it is refused
abbrev pub permitted : TableState → Call → Result (Unit {0}) Refusal
permitted state call = map_ok (λ _. tt) (step state call)

-- a batch of records is the text of its messages: unless it is refused, it does what they do
abbrev pub IsTextOfMessages : TableState → List Item → Type 0
IsTextOfMessages Lost items = Unit {0}
IsTextOfMessages (Intact table) items =
    lowest (batch_refusals table.schema items) ≡ None → step (Intact table) (Apply items) ≡ step (Intact table) (ApplyMessages (messages_of table.schema items))

-- this call changes one table to the other and gives this reply
abbrev pub IsStep : TableState → TableState → Call → Reply → Type 0
IsStep old new call reply = step old call ≡ Ok (new, reply)

-- a call is refused like this and leaves the table as it was, unless memory ran out
abbrev pub IsRefused : TableState → TableState → Call → Refusal → Type 0
IsRefused old new call refusal = refusal ≢ OutOfMemory → (step old call ≡ Err refusal) × (new ≡ old)

-- if a call has a refusal, it is returned: memory never runs out before that
abbrev pub IsCertain : TableState → Call → Result Reply Refusal → Type 0
IsCertain old call result = IfErr (step old call) (IsErrOf result)

-- a table is as it was, or lost
abbrev pub StaysOrIsLost : TableState → TableState → Type 0
StaysOrIsLost old new = (new ≡ old) ⊎ (new ≡ Lost)

-- a tree of a table: that of its rows, or that of an index
pub data NamedTree : Type 0 where
  Primary : (table : PlainTable) → NamedTree
  Secondary : (table : PlainTable) → (index : Index) → NamedTree

-- the index of a table that was found
abbrev pub secondary : PlainTable → Option (ℕ × Index) → Result NamedTree Refusal
secondary table None = Err NoSuchTree
secondary table (Some found) = Ok (Secondary table found.1)

-- the tree of this name, or the refusal
abbrev pub tree_named : TableState → List ℕ → Result NamedTree Refusal
tree_named Lost name = Err Failed
tree_named (Intact table) name = if is_primary name then Ok (Primary table) else secondary table (index_named name table.indexes)

-- a tree is that of the rows of a table, and holds its rows; each row is under the code of its key columns, and the rows strictly rise by their key values
pub record ShowsRows (table : PlainTable) (schema : Schema) (tree : Shape × RowTree) : Type 0 where
  pub schema_is : schema ≡ table.schema
  pub tree_is : tree ≡ (table.shape, table.tree)
  pub held : holds row_effect tree.1 ≡ table.rows
  pub stand : AllStand table.schema table.rows
  pub order : KeysRise table.schema table.rows

-- the tree of an index holds what its definition, which is one of the schema, selects of the rows that it covers; if it is complete, these are all rows
pub record ShowsIndex (table : PlainTable) (schema : Schema) (index : Index) : Type 0 where
  pub schema_is : schema ≡ table.schema
  pub held : holds entry_effect index.tree.1 ≡ index_of index.def index.cover table.rows
  pub complete : HoldsSelection table.rows index
  pub suits : SuitsKinds index.def (kinds_of table.schema.columns)
  pub keys : index.def.keys ≡ table.schema.keys
  pub few : table.schema.keys ≤ length table.schema.columns
  pub stand : AllStand table.schema table.rows

-- what is shown is the tree of this name
abbrev pub Shows : TableState → List ℕ → TreeRef → Type 0
Shows state name (shown.Rows schema tree) = (table : PlainTable) × (tree_named state name ≡ Ok (Primary table)) × ShowsRows table schema.now tree.now
Shows state name (shown.Index schema index) = (table : PlainTable) × (tree_named state name ≡ Ok (Secondary table (index_of_ref index))) × ShowsIndex table schema.now (index_of_ref index)
