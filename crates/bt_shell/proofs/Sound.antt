-- A table stays sound through the commands of a script. Serves the run.
use Rattle.std.proofs.Common.{ℕ, ◌≡◌, ◌≤◌, ◌+◌, arith, not, Bool, true, false, List, [], ◌∷◌, ◌++◌, refl, sym, subst, inl, inr, length, take, Option, Some, None, IfSome, IfOk, Result, Ok, Err, codes}
use Rattle.std.proofs.lemmas.Bool.Decides.{nat_tests}
use Rattle.bt_value.specs.Refusals.{lowest}
use Rattle.bt_row.specs.Schemas.{is_schema}
use Rattle.bt_value.specs.Results.{unless, one_if}
use Rattle.bt_row.specs.declared.rows.schema.Column.{Column}
use Rattle.bt_value.specs.declared.refusal.Refusal.{Refusal}
use Rattle.bt_value.specs.declared.refusal.Refusal.TheVariants.{BadSchema, BadShape, TableExists}
use Rattle.bt_script.specs.Commands.{Answer}
use Rattle.bt_script.specs.declared.command.Command.{Command}
use Rattle.bt_script.specs.declared.command.Command.TheVariants.{Batch, Build, Drain, Drop, Get, Image, Index, Load, Rebuild, Scan, Sums, Table}
use Rattle.bt_script.specs.declared.command.IndexForm.{IndexForm}
use Rattle.bt_script.specs.declared.command.TableForm.{TableForm}
use Rattle.bt_fanout.specs.Definitions.{definition_as}
use Rattle.bt_fanout.specs.Entries.{Definition}
use Rattle.bt_fanout.proofs.offered.Definitions.{definition_suits}
use Rattle.bt_shell.specs.Faults.{IsLeftAfter}
use Rattle.bt_shell.specs.Replies.{count_line}
use Rattle.bt_shell.specs.Runs.{after_commands}
use Rattle.bt_shell.specs.Steps.{Done, State, call_outcome, creation_outcome, definition_of, definition_or_lowest, done_or_refused}
use Rattle.bt_shell.specs.Steps.{form_refusals, is_allowed, outcome, read_outcome, shape_of, table_of, turn}
use Rattle.bt_shell.proofs.Faults.{stays_lost}
use Rattle.bt_table.specs.Calls as call
use Rattle.bt_table.specs.Calls.{name_refusals, step}
use Rattle.bt_table.specs.Standing.{CompleteIndexesHold, IsConsistent, IsSound, IsSoundUnlessLost}
use Rattle.bt_table.specs.Tables.{Intact, Lost, TableState}
use Rattle.bt_table.specs.declared.reply.Reply.{Reply}
use Rattle.bt_table.proofs.offered.Steps.{empty_is_sound, is_consistent, shape_is_roomy, sound_hold, step_keeps_sound}

-- a table that no refusal applies to has a schema and a shape
both_allowed : (exists schema shape : Bool) → lowest (one_if exists TableExists ++ (one_if (not schema) BadSchema ++ one_if (not shape) BadShape)) ≡ None → (schema ≡ true) × (shape ≡ true)
both_allowed exists true true none = (refl, refl)
both_allowed true true false none = absurd cc
both_allowed true false true none = absurd cc
both_allowed true false false none = absurd cc
both_allowed false true false none = absurd cc
both_allowed false false true none = absurd cc
both_allowed false false false none = absurd cc

few_keys : (columns : List Column) (keys : ℕ) → is_schema columns keys ≡ true → keys ≤ length columns
few_keys columns keys test = grind (arith, nat_tests)

-- if a command leaves a table, it is sound
abbrev IsSoundAfter : Result Done Refusal → Type 0
IsSoundAfter after = IfOk after (λ (done : Done). IfSome done.0 IsSound)

when_allowed : (refusal : Option Refusal) (done : Done) → (refusal ≡ None → IfSome done.0 IsSound) → IsSoundAfter (unless refusal done)
when_allowed (Some refusal) done sound = tt
when_allowed None done sound = sound refl

form_keeps_sound : (state : State) (form : TableForm) → IsSoundAfter (outcome state (Table form))
form_keeps_sound state form =
    when_allowed (lowest (form_refusals state form)) (Some (table_of form), count_line (codes "table ") (length form.columns)) (λ none.
    let shape = shape_of form.fanout form.buffer form.leaf in
    let allowed = both_allowed _ (is_schema form.columns form.keys) (is_allowed shape) none in
    empty_is_sound (record { columns = form.columns; keys = form.keys }) shape (few_keys form.columns form.keys allowed.0) (shape_is_roomy shape allowed.1))

told_keeps_sound : (after : Result (TableState × Reply) Refusal) → IfOk after (λ (step : TableState × Reply). IsSound step.0) → IsSoundAfter (call_outcome after)
told_keeps_sound (Ok step) sound = sound
told_keeps_sound (Err refusal) sound = tt

seen_keeps_sound : (table : TableState) (text : Result (List ℕ) Refusal) → IsSound table → IsSoundAfter (read_outcome table text)
seen_keeps_sound table (Ok text) sound = sound
seen_keeps_sound table (Err refusal) sound = tt

-- a definition that no refusal applies to is the one that was made
checked_is : (def : Result Definition Refusal) (other : Option Refusal) (one : Definition) → definition_or_lowest def other ≡ Ok one → def ≡ Ok one
checked_is (Ok def) None one is = is
checked_is (Ok def) (Some other) one is = cc
checked_is (Err refusal) None one is = cc
checked_is (Err refusal) (Some other) one is = cc

created_keeps_sound : (table : TableState) (form : IndexForm) → IsSound table → IsSoundAfter (creation_outcome table form.name (definition_of table form))
created_keeps_sound Lost form sound = tt
created_keeps_sound (Intact table) form sound = by_definition (definition_of (Intact table) form) refl
  where
    by_definition : (def : Result Definition Refusal) → definition_of (Intact table) form ≡ def → IsSoundAfter (creation_outcome (Intact table) form.name def)
    by_definition (Ok def) is =
        told_keeps_sound _ (step_keeps_sound (Intact table) (call.CreateIndex form.name def)
        (definition_suits table.schema form.on form.include form.filter def sound.keys
        (checked_is (definition_as table.schema form.on form.include form.filter) (lowest (name_refusals table form.name)) def is)) sound)
    by_definition (Err refusal) is = tt

command_keeps_sound : (state : State) (command : Command) → IfSome state IsSound → IsSoundAfter (outcome state command)
command_keeps_sound state (Table form) sound = form_keeps_sound state form
command_keeps_sound None (Batch items) sound = tt
command_keeps_sound None (Get fields) sound = tt
command_keeps_sound None (Scan tree bounds) sound = tt
command_keeps_sound None (Sums form) sound = tt
command_keeps_sound None (Image tree) sound = tt
command_keeps_sound None (Index form) sound = tt
command_keeps_sound None (Build name count) sound = tt
command_keeps_sound None (Drop name) sound = tt
command_keeps_sound None (Load text) sound = tt
command_keeps_sound None (Drain tree) sound = tt
command_keeps_sound None (Rebuild tree) sound = tt
command_keeps_sound (Some table) (Batch items) sound = told_keeps_sound _ (step_keeps_sound table (call.Apply items) tt sound)
command_keeps_sound (Some table) (Get fields) sound = told_keeps_sound _ (step_keeps_sound table (call.Get fields) tt sound)
command_keeps_sound (Some table) (Scan tree bounds) sound = seen_keeps_sound table _ sound
command_keeps_sound (Some table) (Sums form) sound = seen_keeps_sound table _ sound
command_keeps_sound (Some table) (Image tree) sound = seen_keeps_sound table _ sound
command_keeps_sound (Some table) (Index form) sound = created_keeps_sound table form sound
command_keeps_sound (Some table) (Build name count) sound = told_keeps_sound _ (step_keeps_sound table (call.BuildStep name count) tt sound)
command_keeps_sound (Some table) (Drop name) sound = told_keeps_sound _ (step_keeps_sound table (call.DropIndex name) tt sound)
command_keeps_sound (Some table) (Load text) sound = told_keeps_sound _ (step_keeps_sound table (call.Load text) tt sound)
command_keeps_sound (Some table) (Drain tree) sound = told_keeps_sound _ (step_keeps_sound table (call.Drain tree) tt sound)
command_keeps_sound (Some table) (Rebuild tree) sound = told_keeps_sound _ (step_keeps_sound table (call.Rebuild tree) tt sound)

refused_keeps_sound : (state : State) (after : Result Done Refusal) → IfSome state IsSound → IsSoundAfter after → IfSome (done_or_refused state after).0 IsSound
refused_keeps_sound state (Ok done) sound after = after
refused_keeps_sound state (Err refusal) sound after = sound

turn_keeps_sound : (state : State) (answer : Answer) → IfSome state IsSound → IfSome (turn state answer).0 IsSound
turn_keeps_sound state (Err refusal) sound = sound
turn_keeps_sound state (Ok command) sound = refused_keeps_sound state (outcome state command) sound (command_keeps_sound state command sound)

-- commands one after the other leave a sound table sound
pub commands_keep_sound : (state : State) (answers : List Answer) → IfSome state IsSound → IfSome (after_commands state answers) IsSound
unfolding after_commands
commands_keep_sound state [] sound = sound
commands_keep_sound state (answer ∷ more) sound = commands_keep_sound (turn state answer).0 more (turn_keeps_sound state answer sound)

-- complete indexes hold what they select, if there is a table and it is sound
pub hold_where_sound : (state : State) → IfSome state IsSound → IfSome state CompleteIndexesHold
hold_where_sound None sound = tt
hold_where_sound (Some table) sound = sound_hold table sound

-- ---- a table that may be lost

unless_lost : (state : State) → IfSome state IsSound → IfSome state IsSoundUnlessLost
unless_lost None sound = tt
unless_lost (Some (Intact table)) sound = sound
unless_lost (Some Lost) sound = absurd sound

commands_keep_sound_unless_lost : (state : State) (answers : List Answer) → IfSome state IsSoundUnlessLost → IfSome (after_commands state answers) IsSoundUnlessLost
commands_keep_sound_unless_lost None answers sound = unless_lost _ (commands_keep_sound None answers tt)
commands_keep_sound_unless_lost (Some (Intact table)) answers sound = unless_lost _ (commands_keep_sound (Some (Intact table)) answers sound)
commands_keep_sound_unless_lost (Some Lost) answers sound = subst (λ (state : State). IfSome state IsSoundUnlessLost) (sym (stays_lost answers).0) tt

-- any table that is left is sound unless it is lost
left_keeps_sound : (begin left : State) (answers : List Answer) (n : ℕ) → IfSome begin IsSoundUnlessLost → IsLeftAfter begin left answers n → IfSome left IsSoundUnlessLost
left_keeps_sound begin left answers n sound (inl first) =
    subst (λ (state : State). IfSome state IsSoundUnlessLost) (sym first) (commands_keep_sound_unless_lost begin (take n answers) sound)
left_keeps_sound begin left answers n sound (inr (inl more)) =
    subst (λ (state : State). IfSome state IsSoundUnlessLost) (sym more) (commands_keep_sound_unless_lost begin (take (n + 1) answers) sound)
left_keeps_sound begin left answers n sound (inr (inr lost)) = subst (λ (state : State). IfSome state IsSoundUnlessLost) (sym lost) tt

unless_lost_is_consistent : (state : State) → IfSome state IsSoundUnlessLost → IfSome state IsConsistent
unless_lost_is_consistent None sound = tt
unless_lost_is_consistent (Some table) sound = is_consistent table sound

consistent_is_sound : (state : State) → IfSome state IsConsistent → IfSome state IsSoundUnlessLost
consistent_is_sound None consistent = tt
consistent_is_sound (Some table) consistent = consistent.sound

pub left_stays_consistent : (begin left : State) (answers : List Answer) (n : ℕ) → IfSome begin IsConsistent → IsLeftAfter begin left answers n → IfSome left IsConsistent
left_stays_consistent begin left answers n consistent is = unless_lost_is_consistent left (left_keeps_sound begin left answers n (consistent_is_sound begin consistent) is)
