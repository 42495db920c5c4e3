-- A command that reads or is refused leaves the same table. Serves the laws of a run, and an engine that keeps its requests.
use Rattle.std.proofs.Common.{ℕ, ◌≡◌, ◌≢◌, List, refl, Some, None, IfOk, Result, Ok, Err}
use Rattle.bt_value.specs.declared.refusal.Refusal.{Refusal}
use Rattle.bt_value.specs.Results.{map_ok}
use Rattle.bt_script.specs.declared.command.Command.{Command}
use Rattle.bt_script.specs.declared.command.Command.TheVariants.{Batch, Build, Drain, Drop, Get, Image, Index, Load, Rebuild, Scan, Sums, Table}
use Rattle.bt_table.specs.Calls as call
use Rattle.bt_table.specs.Calls.{step}
use Rattle.bt_table.specs.Tables.{Intact, Lost, TableState}
use Rattle.bt_table.specs.declared.reply.Reply.{Reply}
use Rattle.bt_view.specs.Groups.{sums}
use Rattle.bt_view.specs.Images.{image}
use Rattle.bt_view.specs.Ranges.{scan}
use Rattle.bt_shell.specs.declared.log.ReplyKind.TheVariants.{Changed}
use Rattle.bt_shell.specs.Logs.{ReadsChangeNothing, kind_after, kind_of_done}
use Rattle.bt_shell.specs.Replies.{scan_reply, sums_reply}
use Rattle.bt_shell.specs.Steps.{Done, State, call_outcome, done_or_refused, outcome, read_outcome}

-- if a command is carried out, it leaves this table
abbrev Leaves : State → Result Done Refusal → Type 0
Leaves state after = IfOk after (λ (done : Done). done.0 ≡ state)

-- one that reads
read_leaves : (state : State) (after : Result Done Refusal) → Leaves state after → (done_or_refused state after).0 ≡ state
read_leaves state (Ok done) same = same
read_leaves state (Err refusal) same = refl

seen_same : (table : TableState) (text : Result (List ℕ) Refusal) → (done_or_refused (Some table) (read_outcome table text)).0 ≡ Some table
seen_same table (Ok text) = refl
seen_same table (Err refusal) = refl

row_leaves : {X : Type 0} (table : TableState) (reply : X → Reply) (found : Result X Refusal) → Leaves (Some table) (call_outcome (map_ok (λ x. (table, reply x)) found))
row_leaves table reply (Ok x) = refl
row_leaves table reply (Err refusal) = tt

get_leaves : (table : TableState) (fields : List (List ℕ)) → Leaves (Some table) (call_outcome (step table (call.Get fields)))
get_leaves Lost fields = tt
get_leaves (Intact table) fields = row_leaves (Intact table) _ _

-- one that can change the table is refused
other_leaves : (state : State) (command : Command) (after : Result Done Refusal) → kind_of_done command ≡ Changed → kind_after command after ≢ Changed
    → (done_or_refused state after).0 ≡ state
other_leaves state command (Ok done) is not = absurd (not is)
other_leaves state command (Err refusal) is not = refl

pub reads_change_nothing : ReadsChangeNothing
reads_change_nothing state (Err refusal) kind = refl
reads_change_nothing None (Ok (Get fields)) kind = refl
reads_change_nothing None (Ok (Scan tree bounds)) kind = refl
reads_change_nothing None (Ok (Sums form)) kind = refl
reads_change_nothing None (Ok (Image tree)) kind = refl
reads_change_nothing (Some table) (Ok (Get fields)) kind = read_leaves (Some table) (outcome (Some table) (Get fields)) (get_leaves table fields)
reads_change_nothing (Some table) (Ok (Scan tree bounds)) kind = seen_same table (map_ok scan_reply (scan table tree bounds.from bounds.to))
reads_change_nothing (Some table) (Ok (Sums form)) kind =
    seen_same table (map_ok sums_reply (sums table form.tree form.columns form.column form.bounds.from form.bounds.to))
reads_change_nothing (Some table) (Ok (Image tree)) kind = seen_same table (image table tree)
reads_change_nothing state (Ok (Table form)) kind = other_leaves state (Table form) (outcome state (Table form)) refl kind
reads_change_nothing state (Ok (Batch items)) kind = other_leaves state (Batch items) (outcome state (Batch items)) refl kind
reads_change_nothing state (Ok (Index form)) kind = other_leaves state (Index form) (outcome state (Index form)) refl kind
reads_change_nothing state (Ok (Build name count)) kind = other_leaves state (Build name count) (outcome state (Build name count)) refl kind
reads_change_nothing state (Ok (Drop name)) kind = other_leaves state (Drop name) (outcome state (Drop name)) refl kind
reads_change_nothing state (Ok (Load text)) kind = other_leaves state (Load text) (outcome state (Load text)) refl kind
reads_change_nothing state (Ok (Drain tree)) kind = other_leaves state (Drain tree) (outcome state (Drain tree)) refl kind
reads_change_nothing state (Ok (Rebuild tree)) kind = other_leaves state (Rebuild tree) (outcome state (Rebuild tree)) refl kind
