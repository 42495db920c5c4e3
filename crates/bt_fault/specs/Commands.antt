-- Why a command is refused because of its records.
use Rattle.std.specs.Prelude.{◌≡◌, ◌≤◌, List, [], ◌∷◌, Option, Some, None, Result, Ok, Err, length, take}
use Rattle.bt_value.specs.declared.refusal.Refusal.{Refusal}
use Rattle.bt_row.specs.Schemas.{Schema}
use Rattle.bt_script.specs.Commands.{Answer}
use Rattle.bt_script.specs.declared.command.Bounds.{Bounds}
use Rattle.bt_script.specs.declared.command.Command.{Command}
use Rattle.bt_script.specs.declared.command.Command.TheVariants.{Batch, Get, Load, Scan, Sums}
use Rattle.bt_table.specs.Calls as call
use Rattle.bt_table.specs.Calls.{step}
use Rattle.bt_table.specs.Tables.{Intact, Lost, TableState}
use Rattle.bt_view.specs.Groups.{sums}
use Rattle.bt_view.specs.Ranges.{scan, tree_columns}
use Rattle.bt_fault.specs.Batches.{batch_reason}
use Rattle.bt_fault.specs.Calls.{key_reason, range_reason, text_reason}
use Rattle.bt_fault.specs.declared.reason.Reason.{Reason}

-- why the bounds of a range of a tree are refused; none if there is no such tree
abbrev pub bounds_reason : Bounds → Result Schema Refusal → Option Reason
bounds_reason bounds (Err refusal) = None
bounds_reason bounds (Ok schema) = range_reason (take schema.keys schema.columns) bounds.from bounds.to

-- why a command is refused because of its records, if that is why
abbrev pub command_reason : TableState → Command → Option Reason
command_reason Lost command = None
command_reason (Intact table) (Batch items) = batch_reason table.schema items
command_reason (Intact table) (Get fields) = key_reason table.schema 1 fields
command_reason (Intact table) (Load text) = text_reason table.schema.columns text
command_reason (Intact table) (Scan tree bounds) = bounds_reason bounds (tree_columns (Intact table) tree)
command_reason (Intact table) (Sums form) = bounds_reason form.bounds (tree_columns (Intact table) form.tree)
command_reason (Intact table) other = None

-- a command that reads records is refused like this
abbrev pub IsRefused : TableState → Command → Refusal → Type 0
IsRefused state (Batch items) refusal = step state (call.Apply items) ≡ Err refusal
IsRefused state (Get fields) refusal = step state (call.Get fields) ≡ Err refusal
IsRefused state (Load text) refusal = step state (call.Load text) ≡ Err refusal
IsRefused state (Scan tree bounds) refusal = scan state tree bounds.from bounds.to ≡ Err refusal
IsRefused state (Sums form) refusal = sums state form.tree form.columns form.column form.bounds.from form.bounds.to ≡ Err refusal
IsRefused state other refusal = ⊥

-- a table has at most as many key columns as columns
abbrev pub HasFewKeys : TableState → Type 0
HasFewKeys Lost = Unit {0}
HasFewKeys (Intact table) = table.schema.keys ≤ length table.schema.columns

-- why the first command of a script is refused because of its records; none if there is no table, or no command
abbrev pub first_reason : Option TableState → List Answer → Option Reason
first_reason None answers = None
first_reason (Some table) [] = None
first_reason (Some table) (Err refusal ∷ answers) = None
first_reason (Some table) (Ok command ∷ answers) = command_reason table command

-- the first command of a script reads records, and is refused like this
abbrev pub FirstIsRefused : Option TableState → List Answer → Refusal → Type 0
FirstIsRefused None answers refusal = ⊥
FirstIsRefused (Some table) [] refusal = ⊥
FirstIsRefused (Some table) (Err other ∷ answers) refusal = ⊥
FirstIsRefused (Some table) (Ok command ∷ answers) refusal = IsRefused table command refusal
