-- The contents of a table without its trees: they alone decide every reply except that to an image, and except whether a load is accepted.
use Rattle.std.specs.Prelude.{ℕ, ◌≡◌, true, List, [], ◌∷◌, ◌++◌, map, Option, Some, None, Ok, Err}
use Rattle.bt_value.specs.Lists.{concatenation}
use Rattle.bt_value.specs.Refusals.{lowest}
use Rattle.bt_row.specs.Schemas.{Schema}
use Rattle.bt_rowtype.specs.declared.item.Item.{Item}
use Rattle.bt_value.specs.declared.value.Value.{Value}
use Rattle.bt_message.specs.Effects.{Rows, rows_after}
use Rattle.bt_fanout.specs.Effects.{row_effect}
use Rattle.bt_batch.specs.Batches.{RowMessages, batch_refusals}
use Rattle.bt_script.specs.Commands.{Answer}
use Rattle.bt_script.specs.declared.command.Command.TheVariants.{Batch, Drain, Image, Load, Rebuild, Table}
use Rattle.bt_script.specs.declared.command.TableForm.{TableForm}
use Rattle.bt_table.specs.Indexes.{Index}
use Rattle.bt_table.specs.Tables.{PlainTable, Intact, Lost}
use Rattle.bt_table.specs.declared.index.IndexHead.{IndexHead}
use Rattle.bt_shell.specs.Runs.{after_commands, replies}
use Rattle.bt_shell.specs.Steps.{State, is_allowed, shape_of, turn}

-- an index without its tree: its name, its definition, and which rows it covers
abbrev pub head_of : Index → IndexHead
head_of index = record { name = index.name; def = index.def; cover = index.cover }

-- a table without its shape and its trees: its columns, its rows, and its indexes in order of creation
pub record Contents : Type 0 where
  pub schema : Schema
  pub rows : Rows (List Value)
  pub indexes : List IndexHead

abbrev pub contents_of : PlainTable → Contents
contents_of table = record { schema = table.schema; rows = table.rows; indexes = map head_of table.indexes }

-- the contents of a state: no table so far, a lost table, or a table
abbrev pub contents : State → Option (Option Contents)
contents None = None
contents (Some Lost) = Some None
contents (Some (Intact table)) = Some (Some (contents_of table))

-- two states agree except for trees and shapes
abbrev pub HaveSameContents : State → State → Type 0
HaveSameContents a b = contents a ≡ contents b

-- a command that neither prints a tree nor is refused by the form of one: any but an image and a load
abbrev pub ShowsNoTree : Answer → Type 0
ShowsNoTree (Err refusal) = Unit {0}
ShowsNoTree (Ok (Image tree)) = ⊥
ShowsNoTree (Ok (Load text)) = ⊥
ShowsNoTree (Ok other) = Unit {0}

-- all of some commands are such commands
abbrev pub ShowNoTree : List Answer → Type 0
ShowNoTree [] = Unit {0}
ShowNoTree (answer ∷ more) = ShowsNoTree answer × ShowNoTree more

-- commands have the same replies from two states on, and leave states that agree
abbrev pub AreAnsweredAlike : State → State → List Answer → Type 0
AreAnsweredAlike a b answers = (replies a answers ≡ replies b answers) × HaveSameContents (after_commands a answers) (after_commands b answers)

-- No tree shows: states that agree except for trees and shapes give the same replies to commands other than images and loads, and still agree after them.
abbrev pub NoTreeShows : Type 0
NoTreeShows = (a b : State) (answers : List Answer) → HaveSameContents a b → ShowNoTree answers → AreAnsweredAlike a b answers

-- Upkeep changes only trees: draining or rebuilding a tree leaves a state that agrees with the one before.
abbrev pub UpkeepKeepsContents : Type 0
UpkeepKeepsContents =
    (state : State) (name : List ℕ) → HaveSameContents (turn state (Ok (Drain name))).0 state × HaveSameContents (turn state (Ok (Rebuild name))).0 state

-- two forms of a table differ only in its shape, and both shapes are within the limits
abbrev pub DifferInShape : TableForm → TableForm → Type 0
DifferInShape form other =
    (form.columns ≡ other.columns) × (form.keys ≡ other.keys)
    × (is_allowed (shape_of form.fanout form.buffer form.leaf) ≡ true) × (is_allowed (shape_of other.fanout other.buffer other.leaf) ≡ true)

-- The shape is not part of the contents: a table is created with the same reply in any shape, and the states agree.
abbrev pub ShapeIsNoContent : Type 0
ShapeIsNoContent = (state : State) (form other : TableForm) → DifferInShape form other
    → ((turn state (Ok (Table form))).1 ≡ (turn state (Ok (Table other))).1) × HaveSameContents (turn state (Ok (Table form))).0 (turn state (Ok (Table other))).0

-- ---- batches

-- Batches are folded: the rows after some messages and then others are the rows after both, one after the other.
abbrev pub BatchesAreFolded : Type 0
BatchesAreFolded =
    (first second : RowMessages) (rows : Rows (List Value)) → rows_after row_effect (first ++ second) rows ≡ rows_after row_effect second (rows_after row_effect first rows)

-- batches that a table of these columns accepts: no refusal applies to any of them
abbrev pub AreAllTaken : Schema → List (List Item) → Type 0
AreAllTaken schema [] = Unit {0}
AreAllTaken schema (items ∷ more) = (lowest (batch_refusals schema items) ≡ None) × AreAllTaken schema more

-- batches as commands
abbrev pub batch_commands : List (List Item) → List Answer
batch_commands batches = map (λ items. Ok (Batch items)) batches

-- The cutting of messages into batches does not show: the same records in other batches leave states that agree.
abbrev pub CutsDoNotShow : Type 0
CutsDoNotShow = (table : PlainTable) (cut other : List (List Item)) → AreAllTaken table.schema cut → AreAllTaken table.schema other → concatenation cut ≡ concatenation other
    → HaveSameContents (after_commands (Some (Intact table)) (batch_commands cut)) (after_commands (Some (Intact table)) (batch_commands other))
