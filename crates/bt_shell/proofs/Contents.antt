-- Commands other than images and loads read no tree, upkeep and shapes change no contents, and the cutting of batches does not show. Serves the laws of
-- `run_commands`.
use Rattle.std.proofs.Common.{ℕ, suc, zero, ◌≡◌, ◌∙◌, ◌+◌, ◌||◌, arith, Bool, true, false, not, List, [], ◌∷◌, ◌++◌, append_assoc, map, flat_map, refl, sym, ap}
use Rattle.std.proofs.Common.{subst, length, get_or, set, take, drop, Option, Some, None, option_map, is_some, Result, Ok, Err, if◌then◌else◌, nat_le, codes}
use Rattle.std.proofs.lemmas.List.{drop-map, length-map, map-append, take-map}
use Rattle.std.proofs.Math.Seq.{map-set_same}
use Rattle.std.specs.FinMap.{find}
use Rattle.std.specs.List.{remove}
use Rattle.bt_value.specs.Lists.{concatenation}
use Rattle.bt_value.specs.Results.{unless, or_refused, and_then, map_ok, one_if}
use Rattle.bt_value.specs.Refusals.{lowest}
use Rattle.bt_row.specs.Schemas.{Schema, is_schema}
use Rattle.bt_rowtype.specs.declared.item.Item.{Item}
use Rattle.bt_value.specs.declared.refusal.Refusal.{Refusal}
use Rattle.bt_value.specs.declared.refusal.Refusal.TheVariants.{AlreadyComplete, BadSchema, BadShape, NameTaken, NoSuchTree, TableExists, TooMany}
use Rattle.bt_row.specs.declared.rows.schema.Column.{Column}
use Rattle.bt_value.specs.declared.value.Value.{Value}
use Rattle.bt_keycode.specs.Codes.{code_of}
use Rattle.bt_keycode.specs.Keys.{Key, key_cmp}
use Rattle.bt_message.specs.Effects.{Rows, rows_after, with_value}
use Rattle.bt_message.specs.declared.measure.Measure.TheVariants as measure
use Rattle.bt_form.specs.Trees.{Shape, leaf}
use Rattle.bt_fanout.specs.Definitions.{definition_as}
use Rattle.bt_fanout.specs.Effects.{row_effect}
use Rattle.bt_fanout.specs.Entries.{Definition}
use Rattle.bt_batch.specs.Batches.{RowMessages, batch_refusals, messages_of, read_key}
use Rattle.bt_script.specs.Commands.{Answer}
use Rattle.bt_script.specs.declared.command.Command.{Command}
use Rattle.bt_script.specs.declared.command.Command.TheVariants as command
use Rattle.bt_script.specs.declared.command.Command.TheVariants.{Batch, Build, Drain, Drop, Get, Image, Load, Rebuild, Scan, Sums, Table}
use Rattle.bt_script.specs.declared.command.TableForm.{TableForm}
use Rattle.bt_table.specs.Calls as call
use Rattle.bt_table.specs.Calls.{NamedTree, Primary, Secondary, Upkeep, Draining, Rebuilding, after_build, built, dropped, is_primary, most_indexes}
use Rattle.bt_table.specs.Calls.{name_refusals, renewed_index, secondary, sent_counts, step, tree_named, unless_any, with_index, with_index_at, with_renewed}
use Rattle.bt_table.specs.Calls.{with_renewed_index, with_renewed_rows}
use Rattle.bt_table.specs.Indexes.{Index, built_index, empty_index, index_named, index_named_from, index_with, indexes_after, is_complete, is_name_of, packet_of, sent_count}
use Rattle.bt_table.specs.Tables.{PlainTable, TableState, Intact, Lost, after_batch}
use Rattle.bt_table.specs.declared.index.IndexHead.{IndexHead}
use Rattle.bt_table.specs.declared.reply.Reply.{Reply}
use Rattle.bt_table.specs.declared.reply.Reply.TheVariants as reply
use Rattle.bt_view.specs.Groups.{sums_of}
use Rattle.bt_view.specs.Ranges.{scan_with_keys_of}
use Rattle.bt_shell.proofs.Records.{messages_of-append}
use Rattle.bt_shell.specs.Contents.{AreAllTaken, AreAnsweredAlike, BatchesAreFolded, Contents, CutsDoNotShow, DifferInShape, HaveSameContents, NoTreeShows}
use Rattle.bt_shell.specs.Contents.{ShapeIsNoContent, ShowNoTree, ShowsNoTree, UpkeepKeepsContents, batch_commands, contents, contents_of, head_of}
use Rattle.bt_shell.specs.Replies.{count_line, refused_text, reply_text, scan_reply, sums_reply}
use Rattle.bt_shell.specs.Runs.{after_commands, replies}
use Rattle.bt_shell.specs.Steps.{Done, State, call_outcome, creation_outcome, definition_of, definition_or_lowest, done_or_refused}
use Rattle.bt_shell.specs.Steps.{form_refusals, is_allowed, outcome, read_outcome, shape_of, table_of, turn}

-- ---- a state of given contents in which all trees are empty leaves of the same shape

no_shape : Shape
no_shape = record { fanout = 0; buffer = 0; leaf = 0; measure = measure.Messages }

abbrev bare_index : IndexHead → Index
bare_index head = index_with head (no_shape, leaf [])

abbrev bare_table : Contents → PlainTable
bare_table c = record { schema = c.schema; shape = no_shape; rows = c.rows; tree = leaf []; indexes = map bare_index c.indexes }

abbrev bare_state : Option (Option Contents) → State
bare_state None = None
bare_state (Some None) = Some Lost
bare_state (Some (Some c)) = Some (Intact (bare_table c))

-- an index, indexes and a table with empty leaves in place of their trees
abbrev bare : Index → Index
bare index = bare_index (head_of index)

abbrev all_bare : List Index → List Index
all_bare indexes = map bare_index (map head_of indexes)

abbrev bared : PlainTable → PlainTable
bared table = bare_table (contents_of table)

heads-bare : (indexes : List Index) → map head_of (all_bare indexes) ≡ map head_of indexes
heads-bare [] = refl
heads-bare (i ∷ is) = ap (λ (heads : List IndexHead). head_of i ∷ heads) (heads-bare is)

contents-bare : (state : State) → contents (bare_state (contents state)) ≡ contents state
contents-bare None = refl
contents-bare (Some Lost) = refl
contents-bare (Some (Intact table)) = ap (λ (heads : List IndexHead). Some (Some (record (contents_of table) { indexes = heads }))) (heads-bare table.indexes)

-- ---- outcomes that are alike: the same reply and contents, or the same refusal

abbrev AreAlike : Result Done Refusal → Result Done Refusal → Type 0
AreAlike (Ok a) (Ok b) = (a.1 ≡ b.1) × HaveSameContents a.0 b.0
AreAlike (Ok a) (Err r) = ⊥
AreAlike (Err r) (Ok b) = ⊥
AreAlike (Err r) (Err s) = r ≡ s

abbrev AreAlikeSteps : Result (TableState × Reply) Refusal → Result (TableState × Reply) Refusal → Type 0
AreAlikeSteps (Ok a) (Ok b) = (a.1 ≡ b.1) × HaveSameContents (Some a.0) (Some b.0)
AreAlikeSteps (Ok a) (Err r) = ⊥
AreAlikeSteps (Err r) (Ok b) = ⊥
AreAlikeSteps (Err r) (Err s) = r ≡ s

alike_itself : (a : Result Done Refusal) → AreAlike a a
alike_itself (Ok done) = (refl, refl)
alike_itself (Err r) = refl

in_text : (a b : Result (TableState × Reply) Refusal) → AreAlikeSteps a b → AreAlike (call_outcome a) (call_outcome b)
in_text (Ok a) (Ok b) alike = (ap reply_text alike.0, alike.1)
in_text (Ok a) (Err r) alike = absurd alike
in_text (Err r) (Ok b) alike = absurd alike
in_text (Err r) (Err s) alike = alike

unless_alike : (r s : Option Refusal) (a b : TableState × Reply) → r ≡ s → a.1 ≡ b.1 → HaveSameContents (Some a.0) (Some b.0) → AreAlikeSteps (unless r a) (unless s b)
unless_alike None None a b same said left = (said, left)
unless_alike None (Some s) a b same said left = absurd cc
unless_alike (Some r) None a b same said left = absurd cc
unless_alike (Some r) (Some s) a b same said left = cc

-- the result, or the refusal, of two states that agree
told : (a b : State) (x y : Result Done Refusal) → HaveSameContents a b → AreAlike x y
    → ((done_or_refused a x).1 ≡ (done_or_refused b y).1) × HaveSameContents (done_or_refused a x).0 (done_or_refused b y).0
told a b (Ok x) (Ok y) same alike = alike
told a b (Ok x) (Err r) same alike = absurd alike
told a b (Err r) (Ok y) same alike = absurd alike
told a b (Err r) (Err s) same alike = (ap refused_text alike, same)

-- ---- a table with bare indexes beside the same table with its own

module _ (table : PlainTable) where
  -- a table with other indexes of the same heads
  same_indexes : (a b : List Index) → map head_of a ≡ map head_of b → HaveSameContents (Some (Intact (record (bared table) { indexes = a }))) (Some (Intact (record table { indexes = b })))
  same_indexes a b same = ap (λ (heads : List IndexHead). Some (Some (record (contents_of table) { indexes = heads }))) same

  same_table : HaveSameContents (Some (Intact (bared table))) (Some (Intact table))
  same_table = same_indexes (all_bare table.indexes) table.indexes (heads-bare table.indexes)

  -- ---- a batch

  same_batch : (batch : RowMessages) → HaveSameContents (Some (Intact (after_batch (bared table) batch))) (Some (Intact (after_batch table batch)))
  same_batch batch = ap (λ (heads : List IndexHead). Some (Some (record (contents_of (after_batch table batch)) { indexes = heads }))) (each table.indexes)
    where
      each : (is : List Index) → map head_of (indexes_after table.rows batch (all_bare is)) ≡ map head_of (indexes_after table.rows batch is)
      each [] = refl
      each (i ∷ is) = ap (λ (heads : List IndexHead). head_of i ∷ heads) (each is)

  same_counts : (batch : RowMessages) → sent_counts (bared table) batch ≡ sent_counts table batch
  same_counts batch = each table.indexes
    where
      each : (is : List Index) → map (λ index. sent_count index (packet_of table.rows batch index)) (all_bare is) ≡ map (λ index. sent_count index (packet_of table.rows batch index)) is
      each [] = refl
      each (i ∷ is) = ap (λ counts. sent_count i (packet_of table.rows batch i) ∷ counts) (each is)

-- ---- the index of a name

abbrev bare_found : Option (ℕ × Index) → Option (ℕ × Index)
bare_found = option_map (λ (f : ℕ × Index). (f.0, bare f.1))

found-bare : (place : ℕ) (name : List ℕ) (is : List Index) → index_named_from place name (all_bare is) ≡ bare_found (index_named_from place name is)
found-bare place name [] = refl
found-bare place name (i ∷ is) =
    elim (is_name_of name i) as (λ (b : Bool). (if b then Some (place, bare i) else index_named_from (suc place) name (all_bare is))
    ≡ bare_found (if b then Some (place, i) else index_named_from (suc place) name is)) [
      | true ↦ refl
      | false ↦ found-bare (suc place) name is
    ]

is_some-bare : (o : Option (ℕ × Index)) → is_some (bare_found o) ≡ is_some o
is_some-bare None = refl
is_some-bare (Some f) = refl

length-bare : (is : List Index) → length (all_bare is) ≡ length is
length-bare is = length-map (map head_of is) bare_index ∙ length-map is head_of

same_names : (table : PlainTable) (name : List ℕ) → name_refusals (bared table) name ≡ name_refusals table name
same_names table name =
    ap (λ (b : Bool). one_if (is_primary name || b) NameTaken ++ one_if (nat_le most_indexes (length (all_bare table.indexes))) TooMany)
    (ap is_some (found-bare 0 name table.indexes) ∙ is_some-bare (index_named name table.indexes))
    ∙ ap (λ (n : ℕ). one_if (is_primary name || is_some (index_named name table.indexes)) NameTaken ++ one_if (nat_le most_indexes n) TooMany) (length-bare table.indexes)

-- ---- building, dropping, upkeep

heads-set : (is : List Index) (place : ℕ) (a b : Index) → head_of a ≡ head_of b → map head_of (set (all_bare is) place a) ≡ map head_of (set is place b)
heads-set [] place a b same = refl
heads-set (i ∷ is) zero a b same = ap (λ (head : IndexHead). head ∷ map head_of (all_bare is)) same ∙ ap (λ (heads : List IndexHead). head_of b ∷ heads) (heads-bare is)
heads-set (i ∷ is) (suc place) a b same = ap (λ (heads : List IndexHead). head_of i ∷ heads) (heads-set is place a b same)

same_at : (table : PlainTable) (place : ℕ) (a b : Index) → head_of a ≡ head_of b → HaveSameContents (Some (Intact (with_index_at (bared table) place a))) (Some (Intact (with_index_at table place b)))
same_at table place a b same = same_indexes table (set (all_bare table.indexes) place a) (set table.indexes place b) (heads-set table.indexes place a b same)

built_alike : (table : PlainTable) (name : List ℕ) (n : ℕ) (o : Option (ℕ × Index)) → AreAlikeSteps (built (bared table) name n (bare_found o)) (built table name n o)
built_alike table name n None = refl
built_alike table name n (Some f) =
    elim (is_complete f.1) as (λ (b : Bool). AreAlikeSteps (if b then Err AlreadyComplete else Ok (after_build (bared table) name n (f.0, bare f.1)))
    (if b then Err AlreadyComplete else Ok (after_build table name n f))) [
      | true ↦ refl
      | false ↦ (refl, same_at table f.0 (built_index n table.rows (bare f.1)) (built_index n table.rows f.1) refl)
    ]

heads-remove : (is : List Index) (place : ℕ) → map head_of (remove is place) ≡ take place (map head_of is) ++ drop (suc place) (map head_of is)
heads-remove is place =
    map-append head_of (take place is) (drop (suc place) is)
    ∙ ap (λ (heads : List IndexHead). heads ++ map head_of (drop (suc place) is)) (sym (take-map head_of place is))
    ∙ ap (λ (heads : List IndexHead). take place (map head_of is) ++ heads) (sym (drop-map head_of (suc place) is))

dropped_alike : (table : PlainTable) (name : List ℕ) (o : Option (ℕ × Index)) → AreAlikeSteps (dropped (bared table) name (bare_found o)) (dropped table name o)
dropped_alike table name None = refl
dropped_alike table name (Some f) = (
  refl,
  same_indexes table (remove (all_bare table.indexes) f.0) (remove table.indexes f.0) (heads-remove (all_bare table.indexes) f.0
      ∙ ap (λ (heads : List IndexHead). take f.0 heads ++ drop (suc f.0) heads) (heads-bare table.indexes) ∙ sym (heads-remove table.indexes f.0)),
)

abbrev with_reply : Reply → Result PlainTable Refusal → Result (TableState × Reply) Refusal
with_reply r after = map_ok (λ (t : PlainTable). (Intact t, r)) after

renewed_found : (upkeep : Upkeep) (table : PlainTable) (r : Reply) (o : Option (ℕ × Index)) →
    AreAlikeSteps (with_reply r (or_refused NoSuchTree (option_map (with_renewed_index upkeep (bared table)) (bare_found o))))
    (with_reply r (or_refused NoSuchTree (option_map (with_renewed_index upkeep table) o)))
renewed_found upkeep table r None = refl
renewed_found upkeep table r (Some f) = (refl, same_at table f.0 (renewed_index upkeep (bare f.1)) (renewed_index upkeep f.1) refl)

renewed_alike : (upkeep : Upkeep) (table : PlainTable) (name : List ℕ) (r : Reply)
    → AreAlikeSteps (with_reply r (with_renewed upkeep (bared table) name)) (with_reply r (with_renewed upkeep table name))
renewed_alike upkeep table name r =
    let found : Option (ℕ × Index) → Result PlainTable Refusal = λ o. or_refused NoSuchTree (option_map (with_renewed_index upkeep (bared table)) o) in
    let own : Result PlainTable Refusal = or_refused NoSuchTree (option_map (with_renewed_index upkeep table) (index_named name table.indexes)) in
    elim (is_primary name) as (λ (b : Bool). AreAlikeSteps (with_reply r (if b then Ok (with_renewed_rows upkeep (bared table)) else found (index_named name (all_bare table.indexes))))
    (with_reply r (if b then Ok (with_renewed_rows upkeep table) else own))) [
      | true ↦ (refl, same_table table)
      | false ↦ subst (λ (o : Option (ℕ × Index)). AreAlikeSteps (with_reply r (found o)) (with_reply r own)) (sym (found-bare 0 name table.indexes))
          (renewed_found upkeep table r (index_named name table.indexes))
    ]

-- ---- what is read

got_alike : (table : PlainTable) (key : Result (List Value) Refusal) → AreAlikeSteps (map_ok (λ (k : List Value). (Intact (bared table), reply.Row (find key_cmp (code_of k) table.rows))) key)
    (map_ok (λ (k : List Value). (Intact table, reply.Row (find key_cmp (code_of k) table.rows))) key)
got_alike table (Ok k) = (refl, same_table table)
got_alike table (Err r) = refl

read_itself : (table : PlainTable) (text : Result (List ℕ) Refusal) → AreAlike (read_outcome (Intact (bared table)) text) (read_outcome (Intact table) text)
read_itself table (Ok text) = (refl, same_table table)
read_itself table (Err r) = refl

read_alike : (table : PlainTable) (a b : Result (List ℕ) Refusal) → a ≡ b → AreAlike (read_outcome (Intact (bared table)) a) (read_outcome (Intact table) b)
read_alike table a b same = subst (λ (x : Result (List ℕ) Refusal). AreAlike (read_outcome (Intact (bared table)) x) (read_outcome (Intact table) b)) (sym same) (read_itself table b)

-- what is reported of a tree by its table and the head of its index
named_alike : {R : Type 0} (said : NamedTree → Result R Refusal) (table : PlainTable) → said (Primary (bared table)) ≡ said (Primary table)
    → ((i : Index) → said (Secondary (bared table) (bare i)) ≡ said (Secondary table i)) → (name : List ℕ)
    → and_then said (tree_named (Intact (bared table)) name) ≡ and_then said (tree_named (Intact table) name)
named_alike {R} said table rows index name =
    elim (is_primary name) as (λ (b : Bool). and_then said (if b then Ok (Primary (bared table)) else secondary (bared table) (index_named name (all_bare table.indexes)))
    ≡ and_then said (if b then Ok (Primary table) else secondary table (index_named name table.indexes))) [
      | true ↦ rows
      | false ↦ ap (λ (o : Option (ℕ × Index)). and_then said (secondary (bared table) o)) (found-bare 0 name table.indexes) ∙ second (index_named name table.indexes)
    ]
  where
    second : (o : Option (ℕ × Index)) → and_then said (secondary (bared table) (bare_found o)) ≡ and_then said (secondary table o)
    second None = refl
    second (Some f) = index f.1

-- ---- a new index

created_alike : (table : PlainTable) (name : List ℕ) (d : Result Definition Refusal) → AreAlike (creation_outcome (Intact (bared table)) name d) (creation_outcome (Intact table) name d)
created_alike table name (Err r) = refl
created_alike table name (Ok def) =
    let new : Index = empty_index table.shape name def in
    let bare_new : Index = empty_index no_shape name def in
    in_text (step (Intact (bared table)) (call.CreateIndex name def)) (step (Intact table) (call.CreateIndex name def))
    (unless_alike (lowest (name_refusals (bared table) name)) (lowest (name_refusals table name))
    (Intact (with_index (bared table) name def), reply.Created name) (Intact (with_index table name def), reply.Created name)
    (ap lowest (same_names table name)) refl
    (same_indexes table (all_bare table.indexes ++ bare_new ∷ []) (table.indexes ++ new ∷ [])
    (map-append head_of (all_bare table.indexes) (bare_new ∷ []) ∙ ap (λ (heads : List IndexHead). heads ++ head_of new ∷ []) (heads-bare table.indexes)
    ∙ sym (map-append head_of table.indexes (new ∷ [])))))

-- ---- one command

of_table : (table : PlainTable) (c : Command) → ShowsNoTree (Ok c) → AreAlike (outcome (Some (Intact (bared table))) c) (outcome (Some (Intact table)) c)
of_table table (Table form) shows = table_alike
  where
    table_alike : AreAlike (unless_any (form_refusals (Some (Intact (bared table))) form) (Some (table_of form), count_line (codes "table ") (length form.columns)))
        (unless_any (form_refusals (Some (Intact table)) form) (Some (table_of form), count_line (codes "table ") (length form.columns)))
    table_alike = alike_itself _
of_table table (Batch items) shows =
    let messages = messages_of table.schema items in
    let refusal = lowest (batch_refusals table.schema items) in
    in_text (step (Intact (bared table)) (call.Apply items)) (step (Intact table) (call.Apply items))
    (unless_alike refusal refusal (Intact (after_batch (bared table) messages), reply.Batch (length items) (sent_counts (bared table) messages))
    (Intact (after_batch table messages), reply.Batch (length items) (sent_counts table messages)) refl (ap (reply.Batch (length items)) (same_counts table messages)) (same_batch table messages))
of_table table (Get fields) shows = in_text (step (Intact (bared table)) (call.Get fields)) (step (Intact table) (call.Get fields)) (got_alike table (read_key table.schema 1 fields))
of_table table (Scan tree bounds) shows =
    read_alike table _ _ (ap (λ (r : Result (Rows (List Value)) Refusal). map_ok scan_reply (map_ok (map (λ (row : Key × List Value). row.1)) r))
    (named_alike (scan_with_keys_of bounds.from bounds.to) table refl (λ i. refl) tree))
of_table table (Sums form) shows =
    read_alike table _ _ (ap (map_ok sums_reply) (named_alike (sums_of form.columns form.column form.bounds.from form.bounds.to) table refl (λ i. refl) form.tree))
of_table table (Image tree) shows = absurd shows
of_table table (command.Index form) shows =
    subst (λ (d : Result Definition Refusal). AreAlike (creation_outcome (Intact (bared table)) form.name d) (creation_outcome (Intact table) form.name (definition_of (Intact table) form)))
    (sym (ap (λ (rs : List Refusal). definition_or_lowest (definition_as table.schema form.on form.include form.filter) (lowest rs))
    (same_names table form.name))) (created_alike table form.name (definition_of (Intact table) form))
of_table table (Build name count) shows =
    in_text (step (Intact (bared table)) (call.BuildStep name count)) (step (Intact table) (call.BuildStep name count))
    (subst (λ (o : Option (ℕ × Index)). AreAlikeSteps (built (bared table) name count o) (built table name count (index_named name table.indexes)))
    (sym (found-bare 0 name table.indexes)) (built_alike table name count (index_named name table.indexes)))
of_table table (Drop name) shows =
    in_text (step (Intact (bared table)) (call.DropIndex name)) (step (Intact table) (call.DropIndex name))
    (subst (λ (o : Option (ℕ × Index)). AreAlikeSteps (dropped (bared table) name o) (dropped table name (index_named name table.indexes)))
    (sym (found-bare 0 name table.indexes)) (dropped_alike table name (index_named name table.indexes)))
of_table table (Load text) shows = absurd shows
of_table table (Drain tree) shows = in_text (step (Intact (bared table)) (call.Drain tree)) (step (Intact table) (call.Drain tree)) (renewed_alike Draining table tree (reply.Drained tree))
of_table table (Rebuild tree) shows = in_text (step (Intact (bared table)) (call.Rebuild tree)) (step (Intact table) (call.Rebuild tree)) (renewed_alike Rebuilding table tree (reply.Rebuilt tree))

-- a state and the bare one of its contents, before and after a command
abbrev AreAlikeAfter : State → State → Answer → Type 0
AreAlikeAfter a b answer = ((turn a answer).1 ≡ (turn b answer).1) × HaveSameContents (turn a answer).0 (turn b answer).0

turn_bare : (state : State) (answer : Answer) → ShowsNoTree answer → AreAlikeAfter (bare_state (contents state)) state answer
turn_bare state (Err refusal) shows = (refl, contents-bare state)
turn_bare None (Ok command) shows = (refl, refl)
turn_bare (Some Lost) (Ok command) shows = (refl, refl)
turn_bare (Some (Intact table)) (Ok command) shows =
    told (Some (Intact (bared table))) (Some (Intact table)) (outcome (Some (Intact (bared table))) command) (outcome (Some (Intact table)) command) (same_table table) (of_table table command shows)

turns_alike : (a b : State) (answer : Answer) → HaveSameContents a b → ShowsNoTree answer → AreAlikeAfter a b answer
turns_alike a b answer same shows =
    let first = turn_bare a answer shows in
    let second = turn_bare b answer shows in
    let between = ap bare_state same in (
      sym first.0 ∙ ap (λ (s : State). (turn s answer).1) between ∙ second.0,
      sym first.1 ∙ ap (λ (s : State). contents (turn s answer).0) between ∙ second.1,
    )

-- ---- commands one after the other

pub no_tree_shows : NoTreeShows
unfolding replies after_commands
no_tree_shows a b [] same shows = (refl, same)
no_tree_shows a b (answer ∷ more) same shows =
    let next = turns_alike a b answer same shows.0 in
    let others = no_tree_shows (turn a answer).0 (turn b answer).0 more next.1 shows.1 in
    (ap (λ (text : List ℕ). text ++ replies (turn a answer).0 more) next.0 ∙ ap (λ (text : List ℕ). (turn b answer).1 ++ text) others.0, others.1)

-- ---- upkeep

-- an index that was found is at its place
abbrev StandsAt : ℕ → List Index → Option (ℕ × Index) → Type 0
StandsAt place is None = Unit {0}
StandsAt place is (Some found) = (k : ℕ) × (found.0 ≡ k + place) × (get_or is k found.1 ≡ found.1)

stands_later : (place : ℕ) (i : Index) (is : List Index) (o : Option (ℕ × Index)) → StandsAt (suc place) is o → StandsAt place (i ∷ is) o
stands_later place i is None at = tt
stands_later place i is (Some found) at = (suc at.0, omega (arith, at.1), at.2)

found_stands : (place : ℕ) (name : List ℕ) (is : List Index) → StandsAt place is (index_named_from place name is)
found_stands place name [] = tt
found_stands place name (i ∷ is) = elim (is_name_of name i) as (λ (b : Bool). StandsAt place (i ∷ is) (if b then Some (place, i) else index_named_from (suc place) name is)) [
  | true ↦ (0, omega arith, refl)
  | false ↦ stands_later place i is (index_named_from (suc place) name is) (found_stands (suc place) name is)
]

heads-renewed : (upkeep : Upkeep) (is : List Index) (place : ℕ) (index : Index) → get_or is place index ≡ index → map head_of (set is place (renewed_index upkeep index)) ≡ map head_of is
heads-renewed upkeep is place index at = map-set_same head_of is place (renewed_index upkeep index) index (ap head_of (sym at))

-- a call that is upkeep leaves a table that agrees, or is refused
abbrev LeavesSame : PlainTable → Result (TableState × Reply) Refusal → Type 0
LeavesSame table (Ok after) = HaveSameContents (Some after.0) (Some (Intact table))
LeavesSame table (Err refusal) = Unit {0}

renewed_keeps : (upkeep : Upkeep) (table : PlainTable) (name : List ℕ) (r : Reply) → LeavesSame table (with_reply r (with_renewed upkeep table name))
renewed_keeps upkeep table name r =
    elim (is_primary name) as (λ (b : Bool). LeavesSame table
    (with_reply r (if b then Ok (with_renewed_rows upkeep table) else or_refused NoSuchTree
    (option_map (with_renewed_index upkeep table) (index_named name table.indexes))))) [
      | true ↦ refl
      | false ↦ by_found (index_named name table.indexes) (found_stands 0 name table.indexes)
    ]
  where
    by_found : (o : Option (ℕ × Index)) → StandsAt 0 table.indexes o → LeavesSame table (with_reply r (or_refused NoSuchTree (option_map (with_renewed_index upkeep table) o)))
    by_found None at = tt
    by_found (Some found) at =
        let place : at.0 ≡ found.0 = omega (arith, at.1) in
        ap (λ (heads : List IndexHead). Some (Some (record (contents_of table) { indexes = heads })))
        (heads-renewed upkeep table.indexes found.0 found.1 (subst (λ (n : ℕ). get_or table.indexes n found.1 ≡ found.1) place at.2))

upkeep_keeps : (table : PlainTable) (after : Result (TableState × Reply) Refusal) → LeavesSame table after
    → HaveSameContents (done_or_refused (Some (Intact table)) (call_outcome after)).0 (Some (Intact table))
upkeep_keeps table (Ok after) same = same
upkeep_keeps table (Err refusal) same = refl

pub upkeep_keeps_contents : UpkeepKeepsContents
upkeep_keeps_contents None name = (refl, refl)
upkeep_keeps_contents (Some Lost) name = (refl, refl)
upkeep_keeps_contents (Some (Intact table)) name = (
  upkeep_keeps table (step (Intact table) (call.Drain name)) (renewed_keeps Draining table name (reply.Drained name)),
  upkeep_keeps table (step (Intact table) (call.Rebuild name)) (renewed_keeps Rebuilding table name (reply.Rebuilt name)),
)

-- ---- shapes

-- created in either shape, or refused alike
made_alike : (refusal : Option Refusal) (columns : List Column) (keys : ℕ) (text : List ℕ) (shape other : Shape) →
    AreAlike (unless refusal (Some (Intact (record { schema = record { columns = columns; keys = keys }; shape = shape; rows = []; tree = leaf []; indexes = [] })), text))
    (unless refusal (Some (Intact (record { schema = record { columns = columns; keys = keys }; shape = other; rows = []; tree = leaf []; indexes = [] })), text))
made_alike None columns keys text shape other = (refl, refl)
made_alike (Some refusal) columns keys text shape other = refl

pub shape_is_no_content : ShapeIsNoContent
shape_is_no_content state form other differ =
    let shape = shape_of form.fanout form.buffer form.leaf in
    let other_shape = shape_of other.fanout other.buffer other.leaf in
    let first = one_if (is_some state) TableExists in
    let refusals : List Column → ℕ → Bool → List Refusal = λ columns keys allowed. first ++ (one_if (not (is_schema columns keys)) BadSchema ++ one_if (not allowed) BadShape) in
    let Fact : List Column → ℕ → Bool → Bool → Type 0 = λ columns keys allowed other_allowed. AreAlike
    (unless_any (refusals form.columns form.keys allowed) (Some (table_of form), count_line (codes "table ") (length form.columns)))
    (unless_any (refusals columns keys other_allowed) (
      Some (Intact (record { schema = record { columns = columns; keys = keys }; shape = other_shape; rows = []; tree = leaf []; indexes = [] })),
      count_line (codes "table ") (length columns),
    )) in
    let same : Fact form.columns form.keys true true =
    made_alike (lowest (refusals form.columns form.keys true)) form.columns form.keys (count_line (codes "table ") (length form.columns)) shape other_shape
    in
    let allowed : Fact form.columns form.keys (is_allowed shape) (is_allowed other_shape) =
    subst (λ (b : Bool). Fact form.columns form.keys b (is_allowed other_shape)) (sym differ.2) (subst (λ (b : Bool). Fact form.columns form.keys true b) (sym differ.3) same) in
    let columns : Fact other.columns form.keys (is_allowed shape) (is_allowed other_shape) =
    subst (λ (columns : List Column). Fact columns form.keys (is_allowed shape) (is_allowed other_shape)) differ.0 allowed in
    let keys : Fact other.columns other.keys (is_allowed shape) (is_allowed other_shape) = subst (λ (keys : ℕ). Fact other.columns keys (is_allowed shape) (is_allowed other_shape)) differ.1 columns in
    told state state (outcome state (Table form)) (outcome state (Table other)) refl keys

-- ---- batches

pub batches_are_folded : BatchesAreFolded
batches_are_folded [] second rows = refl
batches_are_folded (m ∷ first) second rows = batches_are_folded first second (with_value m.0 (row_effect (find key_cmp m.0 rows) m.1) rows)

-- a batch that is accepted leaves the table after it
taken_leaves : (table : PlainTable) (items : List Item) (refusal : Option Refusal) (r : Reply) → refusal ≡ None
    → (done_or_refused (Some (Intact table)) (call_outcome (unless refusal (Intact (after_batch table (messages_of table.schema items)), r)))).0
    ≡ Some (Intact (after_batch table (messages_of table.schema items)))
taken_leaves table items None r none = refl
taken_leaves table items (Some refusal) r none = absurd cc

heads-after : (rows : Rows (List Value)) (batch : RowMessages) (is : List Index) → map head_of (indexes_after rows batch is) ≡ map head_of is
heads-after rows batch [] = refl
heads-after rows batch (i ∷ is) = ap (λ (heads : List IndexHead). head_of i ∷ heads) (heads-after rows batch is)

-- the contents of a table after messages
abbrev after_messages : PlainTable → RowMessages → Option (Option Contents)
after_messages table messages = Some (Some (record { schema = table.schema; rows = rows_after row_effect messages table.rows; indexes = map head_of table.indexes }))

after_cut : (table : PlainTable) (cut : List (List Item)) → AreAllTaken table.schema cut
    → contents (after_commands (Some (Intact table)) (batch_commands cut)) ≡ after_messages table (messages_of table.schema (concatenation cut))
unfolding after_commands
after_cut table [] taken = refl
after_cut table (items ∷ more) taken =
    let messages = messages_of table.schema items in
    let next = after_batch table messages in
    let others = messages_of table.schema (concatenation more) in
    ap (λ (state : State). contents (after_commands state (batch_commands more)))
    (taken_leaves table items (lowest (batch_refusals table.schema items)) (reply.Batch (length items) (sent_counts table messages)) taken.0)
    ∙ after_cut next more taken.1
    ∙ ap (λ (heads : List IndexHead). Some (Some (record {
      schema = table.schema;
      rows =
          rows_after row_effect others (rows_after row_effect messages table.rows);
      indexes = heads;
    }))) (heads-after table.rows messages table.indexes)
    ∙ ap (λ (rows : Rows (List Value)). Some (Some (record { schema = table.schema; rows = rows; indexes = map head_of table.indexes }))) (sym (batches_are_folded messages others table.rows))
    ∙ ap (after_messages table) (sym (messages_of-append table.schema items (concatenation more)))

pub cuts_do_not_show : CutsDoNotShow
cuts_do_not_show table cut other taken other_taken same =
    after_cut table cut taken ∙ ap (λ (items : List Item). after_messages table (messages_of table.schema items)) same ∙ sym (after_cut table other other_taken)
