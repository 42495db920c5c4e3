-- How a command changes the table, its reply, and why it is refused.
use Rattle.std.specs.Prelude.{ℕ, not, Bool, List, ◌++◌, length, Option, Some, None, is_some, Result, Ok, Err, codes}
use Rattle.bt_value.specs.Refusals.{lowest}
use Rattle.bt_row.specs.Schemas.{is_schema}
use Rattle.bt_value.specs.declared.refusal.Refusal.{Refusal}
use Rattle.bt_value.specs.declared.refusal.Refusal.TheVariants.{BadSchema, BadShape, Failed, NoTable, TableExists}
use Rattle.bt_message.specs.declared.measure.Measure.TheVariants as measure
use Rattle.bt_form.specs.Shapes.{is_shape}
use Rattle.bt_form.specs.Trees.{Shape}
use Rattle.bt_script.specs.Commands.{Answer}
use Rattle.bt_script.specs.declared.command.Capacity.{Capacity}
use Rattle.bt_script.specs.declared.command.Capacity.TheVariants.{Bytes, Messages}
use Rattle.bt_script.specs.declared.command.Command.{Command}
use Rattle.bt_script.specs.declared.command.Command.TheVariants.{Batch, Build, Drain, Drop, Get, Image, Index, Load, Rebuild, Scan, Sums, Table}
use Rattle.bt_script.specs.declared.command.IndexForm.{IndexForm}
use Rattle.bt_script.specs.declared.command.TableForm.{TableForm}
use Rattle.bt_fanout.specs.Definitions.{definition_as}
use Rattle.bt_fanout.specs.Entries.{Definition}
use Rattle.bt_view.specs.Groups.{sums}
use Rattle.bt_view.specs.Images.{image}
use Rattle.bt_view.specs.Ranges.{scan}
use Rattle.bt_shell.specs.Replies.{count_line, refused_text, reply_text, scan_reply, sums_reply}
use Rattle.bt_value.specs.Results.{both_read, map_ok, one_if, unless}
use Rattle.bt_table.specs.Calls as call
use Rattle.bt_table.specs.Calls.{name_refusals, step, unless_any}
use Rattle.bt_table.specs.Tables.{TableState, Intact, Lost, empty_table}
use Rattle.bt_table.specs.declared.reply.Reply.{Reply}

-- the state after the commands before one: no table so far, or the table
abbrev pub State : Type 0
State = Option TableState

-- the table after a command, and the reply
abbrev pub Done : Type 0
Done = State × List ℕ

-- the shape of nodes whose buffers have this capacity
abbrev pub shape_of : ℕ → Capacity → ℕ → Shape
shape_of fanout (Messages most) leaf = record { fanout = fanout; buffer = most; leaf = leaf; measure = measure.Messages }
shape_of fanout (Bytes most) leaf = record { fanout = fanout; buffer = most; leaf = leaf; measure = measure.Bytes }

-- whether a shape is within the limits
abbrev pub is_allowed : Shape → Bool
is_allowed shape = is_shape shape.measure shape.fanout shape.buffer shape.leaf

-- the refusals that apply to making a table
abbrev pub form_refusals : State → TableForm → List Refusal
form_refusals state form =
    one_if (is_some state) TableExists
    ++ (one_if (not (is_schema form.columns form.keys)) BadSchema ++ one_if (not (is_allowed (shape_of form.fanout form.buffer form.leaf))) BadShape)

-- the table that a form makes
abbrev pub table_of : TableForm → TableState
table_of form = Intact (empty_table (record { columns = form.columns; keys = form.keys }) (shape_of form.fanout form.buffer form.leaf))

-- the outcome of a call on the table, with its reply as text
abbrev pub call_outcome : Result (TableState × Reply) Refusal → Result Done Refusal
call_outcome after = map_ok (λ step. (Some step.0, reply_text step.1)) after

-- the outcome of reading a table, which does not change
abbrev pub read_outcome : TableState → Result (List ℕ) Refusal → Result Done Refusal
read_outcome state text = map_ok (λ text. (Some state, text)) text

-- a definition, or the lowest refusal of it and of its name
abbrev pub definition_or_lowest : Result Definition Refusal → Option Refusal → Result Definition Refusal
definition_or_lowest def refusal = map_ok (λ both. both.1) (both_read {S = Unit {0}} (unless refusal tt) def)

-- the definition of a new index of a table, or the lowest refusal of its name and of its parts
abbrev pub definition_of : TableState → IndexForm → Result Definition Refusal
definition_of Lost form = Err Failed
definition_of (Intact table) form = definition_or_lowest (definition_as table.schema form.on form.include form.filter) (lowest (name_refusals table form.name))

-- a new index of this definition
abbrev pub creation_outcome : TableState → List ℕ → Result Definition Refusal → Result Done Refusal
creation_outcome state name (Ok def) = call_outcome (step state (call.CreateIndex name def))
creation_outcome state name (Err refusal) = Err refusal

-- A command: the table after it and its reply, or the lowest refusal that applies. `NoTable` comes before any refusal of a table.
abbrev pub outcome : State → Command → Result Done Refusal
outcome state (Table form) = unless_any (form_refusals state form) (Some (table_of form), count_line (codes "table ") (length form.columns))
outcome None command = Err NoTable
outcome (Some table) (Batch items) = call_outcome (step table (call.Apply items))
outcome (Some table) (Get fields) = call_outcome (step table (call.Get fields))
outcome (Some table) (Scan tree bounds) = read_outcome table (map_ok scan_reply (scan table tree bounds.from bounds.to))
outcome (Some table) (Sums form) = read_outcome table (map_ok sums_reply (sums table form.tree form.columns form.column form.bounds.from form.bounds.to))
outcome (Some table) (Image tree) = read_outcome table (image table tree)
outcome (Some table) (Index form) = creation_outcome table form.name (definition_of table form)
outcome (Some table) (Build name count) = call_outcome (step table (call.BuildStep name count))
outcome (Some table) (Drop name) = call_outcome (step table (call.DropIndex name))
outcome (Some table) (Load text) = call_outcome (step table (call.Load text))
outcome (Some table) (Drain tree) = call_outcome (step table (call.Drain tree))
outcome (Some table) (Rebuild tree) = call_outcome (step table (call.Rebuild tree))

-- a command that is refused leaves the table as it is
abbrev pub done_or_refused : State → Result Done Refusal → Done
done_or_refused state (Ok done) = done
done_or_refused state (Err refusal) = (state, refused_text refusal)

-- a command, or the refusal of text that is none: the table after it, and the reply
abbrev pub turn : State → Answer → Done
turn state (Err refusal) = (state, refused_text refusal)
turn state (Ok command) = done_or_refused state (outcome state command)
