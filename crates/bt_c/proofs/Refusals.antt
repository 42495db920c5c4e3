-- A command with a reason is refused like its reason: its reply is the refusal, and the table stays as it is.
use Rattle.std.proofs.Common.{◌≡◌, ◌∷◌, List, [], Option, Some, None, Result, Ok, Err, ap}
use Rattle.std.specs.Prelude.{IfOk, IfSome}
use Rattle.bt_value.specs.Results.{map_ok}
use Rattle.bt_value.specs.declared.refusal.Refusal.{Refusal}
use Rattle.bt_script.specs.Commands.{Answer}
use Rattle.bt_script.specs.declared.command.Command.{Command}
use Rattle.bt_script.specs.declared.command.Command.TheVariants as command
use Rattle.bt_table.specs.Tables.{TableState}
use Rattle.bt_fault.specs.Commands as fault
use Rattle.bt_fault.specs.Commands.{IsRefused}
use Rattle.bt_fault.specs.declared.reason.Reason.{Reason}
use Rattle.bt_shell.specs.Replies.{refused_text, scan_reply, sums_reply}
use Rattle.bt_shell.specs.Steps.{State, call_outcome, done_or_refused, read_outcome, turn}
use Rattle.bt_c.specs.Reasons.{FirstIsRefused}

pub turn_refused : (table : TableState) (asked : Command) (refusal : Refusal) → IsRefused table asked refusal → turn (Some table) (Ok asked) ≡ (Some table, refused_text refusal)
turn_refused table (command.Batch items) refusal is = ap (λ after. done_or_refused (Some table) (call_outcome after)) is
turn_refused table (command.Get fields) refusal is = ap (λ after. done_or_refused (Some table) (call_outcome after)) is
turn_refused table (command.Load text) refusal is = ap (λ after. done_or_refused (Some table) (call_outcome after)) is
turn_refused table (command.Scan tree bounds) refusal is = ap (λ rows. done_or_refused (Some table) (read_outcome table (map_ok scan_reply rows))) is
turn_refused table (command.Sums form) refusal is = ap (λ groups. done_or_refused (Some table) (read_outcome table (map_ok sums_reply groups))) is
turn_refused table (command.Table form) refusal is = absurd is
turn_refused table (command.Image tree) refusal is = absurd is
turn_refused table (command.Index form) refusal is = absurd is
turn_refused table (command.Build name count) refusal is = absurd is
turn_refused table (command.Drop name) refusal is = absurd is
turn_refused table (command.Drain tree) refusal is = absurd is
turn_refused table (command.Rebuild tree) refusal is = absurd is

first_turn_refused : (state : State) (answers : List Answer) (refusal : Refusal) → fault.FirstIsRefused state answers refusal → FirstIsRefused state answers refusal
first_turn_refused None answers refusal is = absurd is
first_turn_refused (Some table) [] refusal is = absurd is
first_turn_refused (Some table) (Err other ∷ answers) refusal is = absurd is
first_turn_refused (Some table) (Ok asked ∷ answers) refusal is = turn_refused table asked refusal is

found_refused : (state : State) (answers : List Answer) (found : Option Reason) → IfSome found (λ reason. fault.FirstIsRefused state answers reason.refusal)
    → IfSome found (λ reason. FirstIsRefused state answers reason.refusal)
found_refused state answers None is = tt
found_refused state answers (Some reason) is = first_turn_refused state answers reason.refusal is

pub first_refused : {E : Type 0} (state : State) (answers : List Answer) (result : Result (Option Reason) E)
    → IfOk result (λ found. IfSome found (λ reason. fault.FirstIsRefused state answers reason.refusal)) → IfOk result (λ found. IfSome found (λ reason. FirstIsRefused state answers reason.refusal))
first_refused state answers (Ok found) is = found_refused state answers found is
first_refused state answers (Err error) is = tt
