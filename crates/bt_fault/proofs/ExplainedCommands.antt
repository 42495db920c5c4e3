-- A command with a reason is refused like its reason.
use Rattle.std.proofs.Common.{ℕ, ◌≡◌, ◌∙◌, ◌≤◌, List, Option, Some, None, Result, Ok, Err, refl, ap, subst, sym, length, take}
use Rattle.std.specs.Prelude.{IfOk, IfSome, map}
use Rattle.std.specs.Result.{result_err}
use Rattle.bt_value.specs.Refusals.{lowest}
use Rattle.bt_value.specs.Results.{and_then, map_ok}
use Rattle.bt_value.specs.declared.refusal.Refusal.{Refusal}
use Rattle.bt_value.specs.declared.value.Value.{Value}
use Rattle.bt_row.specs.Schemas.{Schema}
use Rattle.bt_rowtype.specs.declared.item.Item.{Item}
use Rattle.bt_keycode.specs.Keys.{Key}
use Rattle.bt_script.specs.declared.command.Bounds.{Bounds}
use Rattle.bt_script.specs.declared.command.Command.{Command}
use Rattle.bt_script.specs.declared.command.Command.TheVariants as command
use Rattle.bt_batch.specs.Batches.{batch_refusals, read_key}
use Rattle.bt_load.specs.Loads.{text_rows}
use Rattle.bt_show.specs.Ranges.{range_as}
use Rattle.bt_table.specs.Calls as call
use Rattle.bt_table.specs.Calls.{NamedTree, step, tree_named}
use Rattle.bt_table.specs.Standing.{HasSchema}
use Rattle.bt_table.specs.Tables.{Intact, Lost, PlainTable, TableState}
use Rattle.bt_view.specs.Groups.{sums_of}
use Rattle.bt_view.specs.Ranges.{range_of, scan_with_keys_of, schema_of}
use Rattle.bt_fault.specs.Batches.{batch_reason}
use Rattle.bt_fault.specs.Calls.{key_reason, range_reason, text_reason}
use Rattle.bt_fault.specs.Commands.{HasFewKeys, IsRefused, bounds_reason, command_reason}
use Rattle.bt_fault.specs.Reasons.{Explains, refusal_of}
use Rattle.bt_fault.specs.declared.reason.Reason.{Reason}
use Rattle.bt_fault.proofs.Explained.{row_explained}
use Rattle.bt_fault.proofs.ExplainedBounds.{range_explained}
use Rattle.bt_fault.proofs.ExplainedCalls.{batch_explained, text_explained}

-- the refusal of a result
refused : {T : Type 0} (answer : Result T Refusal) (e : Refusal) → Some e ≡ result_err answer → answer ≡ Err e
refused (Ok value) e is = absurd cc
refused (Err other) e is = cc

of_reason : {T : Type 0} (answer : Result T Refusal) (found : Option Reason) (reason : Reason) → Explains answer found → found ≡ Some reason → answer ≡ Err reason.refusal
of_reason answer found reason explains is = refused answer reason.refusal (sym (ap refusal_of is) ∙ explains)

-- ---- each command

batch_refused : (table : PlainTable) (items : List Item) (reason : Reason) → table.schema.keys ≤ length table.schema.columns → batch_reason table.schema items ≡ Some reason
    → step (Intact table) (call.Apply items) ≡ Err reason.refusal
batch_refused table items reason within is =
    let least : lowest (batch_refusals table.schema items) ≡ Some reason.refusal = sym (batch_explained table.schema items within) ∙ ap refusal_of is in
    rw least refl

get_refused : (table : PlainTable) (fields : List (List ℕ)) (reason : Reason) → key_reason table.schema 1 fields ≡ Some reason → step (Intact table) (call.Get fields) ≡ Err reason.refusal
get_refused table fields reason is =
    let explains = row_explained (take table.schema.keys table.schema.columns) 1 fields in
    let none : read_key table.schema 1 fields ≡ Err reason.refusal = of_reason (read_key table.schema 1 fields) (key_reason table.schema 1 fields) reason explains is in
    rw none refl

load_refused : (table : PlainTable) (text : List ℕ) (reason : Reason) → text_reason table.schema.columns text ≡ Some reason → step (Intact table) (call.Load text) ≡ Err reason.refusal
load_refused table text reason is =
    let columns = table.schema.columns in
    let none : text_rows columns text ≡ Err reason.refusal = of_reason (text_rows columns text) (text_reason columns text) reason (text_explained columns text) is in
    rw none refl

range_refused : (tree : NamedTree) (bounds : Bounds) (reason : Reason) → bounds_reason bounds (Ok (schema_of tree)) ≡ Some reason → range_of tree bounds.from bounds.to ≡ Err reason.refusal
range_refused tree bounds reason is =
    let columns = take (schema_of tree).keys (schema_of tree).columns in
    of_reason (range_as columns bounds.from bounds.to) (range_reason columns bounds.from bounds.to) reason (range_explained columns bounds.from bounds.to) is

scan_refused : (named : Result NamedTree Refusal) (bounds : Bounds) (reason : Reason) → bounds_reason bounds (map_ok schema_of named) ≡ Some reason
    → and_then (scan_with_keys_of bounds.from bounds.to) named ≡ Err reason.refusal
scan_refused (Err e) bounds reason is = absurd cc
scan_refused (Ok tree) bounds reason is = rw (range_refused tree bounds reason is) refl

sums_refused : (named : Result NamedTree Refusal) (grouping : ℕ) (column : List ℕ) (bounds : Bounds) (reason : Reason) → bounds_reason bounds (map_ok schema_of named) ≡ Some reason
    → and_then (sums_of grouping column bounds.from bounds.to) named ≡ Err reason.refusal
sums_refused (Err e) grouping column bounds reason is = absurd cc
sums_refused (Ok tree) grouping column bounds reason is = rw (range_refused tree bounds reason is) refl

-- ---- any command

refused_like : (state : TableState) (asked : Command) (reason : Reason) → HasFewKeys state → command_reason state asked ≡ Some reason → IsRefused state asked reason.refusal
refused_like Lost asked reason few is = absurd cc
refused_like (Intact table) (command.Batch items) reason few is = batch_refused table items reason few is
refused_like (Intact table) (command.Get fields) reason few is = get_refused table fields reason is
refused_like (Intact table) (command.Load text) reason few is = load_refused table text reason is
refused_like (Intact table) (command.Scan tree bounds) reason few is =
    ap (map_ok (map (λ (row : Key × List Value). row.1))) (scan_refused (tree_named (Intact table) tree) bounds reason is)
refused_like (Intact table) (command.Sums form) reason few is = sums_refused (tree_named (Intact table) form.tree) form.columns form.column form.bounds reason is
refused_like (Intact table) (command.Table form) reason few is = absurd cc
refused_like (Intact table) (command.Image tree) reason few is = absurd cc
refused_like (Intact table) (command.Index form) reason few is = absurd cc
refused_like (Intact table) (command.Build name count) reason few is = absurd cc
refused_like (Intact table) (command.Drop name) reason few is = absurd cc
refused_like (Intact table) (command.Drain tree) reason few is = absurd cc
refused_like (Intact table) (command.Rebuild tree) reason few is = absurd cc

if_found : (state : TableState) (asked : Command) (found : Option Reason) → HasFewKeys state → found ≡ command_reason state asked → IfSome found (λ reason. IsRefused state asked reason.refusal)
if_found state asked None few is = tt
if_found state asked (Some reason) few is = refused_like state asked reason few (sym is)

pub command_explained : {E : Type 0} (state : TableState) (asked : Command) (result : Result (Option Reason) E)
    → IfOk result (λ found. found ≡ command_reason state asked) → IfOk result (λ _. HasFewKeys state)
    → IfOk result (λ found. IfSome found (λ reason. IsRefused state asked reason.refusal))
command_explained state asked (Ok found) is few = if_found state asked found few is
command_explained state asked (Err error) is few = tt

-- ---- the columns of a table

pub few_keys : (state : TableState) (schema : Schema) → HasSchema state schema → schema.keys ≤ length schema.columns → HasFewKeys state
few_keys Lost schema has within = absurd has
few_keys (Intact table) schema has within = subst (λ (s : Schema). s.keys ≤ length s.columns) has within
