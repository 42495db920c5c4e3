-- When a command is carried out, refused, cut short, or replied to as the next of a script.
use Rattle.std.specs.Prelude.{ℕ, ◌≡◌, ◌≢◌, ◌⊎◌, Bool, List, [], ◌∷◌, Some, Result, Ok, Err}
use Rattle.bt_value.specs.declared.refusal.Refusal.{Refusal}
use Rattle.bt_value.specs.declared.refusal.Refusal.TheVariants.{OutOfMemory}
use Rattle.bt_script.specs.Commands.{Answer}
use Rattle.bt_script.specs.declared.command.Command.{Command}
use Rattle.bt_table.specs.Tables.{Lost}
use Rattle.bt_shell.specs.declared.log.ReplyKind.{ReplyKind}
use Rattle.bt_shell.specs.declared.log.ReplyKind.TheVariants.{Read}
use Rattle.bt_shell.specs.Logs.{has_refusal, kind_of}
use Rattle.bt_shell.specs.Steps.{State, outcome, turn}

-- A command leaves this table and gives this text as its reply, or it is refused like this and leaves the table as it was, unless memory ran out.
abbrev pub CarriesOut : State → State → Command → Result (List ℕ) Refusal → Type 0
CarriesOut old new command (Ok text) = outcome old command ≡ Ok (new, text)
CarriesOut old new command (Err refusal) = refusal ≢ OutOfMemory → (outcome old command ≡ Err refusal) × (new ≡ old)

-- A command that runs out of memory leaves the table as it was, as the command leaves it, or lost.
abbrev pub IsCutShort : State → State → Command → Type 0
IsCutShort old new command = (new ≡ old) ⊎ (new ≡ (turn old (Ok command)).0) ⊎ (new ≡ Some Lost)

-- one command: the first of these commands has a text as its reply, is refused or not, and leaves a table, and the others follow
pub record IsTurn (old new : State) (all others : List Answer) (text : List ℕ) (refused : Bool) : Type 0 where
  pub answer : Answer
  pub first : all ≡ answer ∷ others
  pub said : text ≡ (turn old answer).1
  pub left : new ≡ (turn old answer).0
  pub judged : refused ≡ has_refusal old answer

-- what the first of these commands does
abbrev pub first_kind : State → List Answer → ReplyKind
first_kind state [] = Read
first_kind state (answer ∷ more) = kind_of state answer

-- the first of these commands would do this to a table, and the others follow
abbrev pub IsChecked : State → List Answer → List Answer → ReplyKind → Type 0
IsChecked state all others kind = (answer : Answer) × (all ≡ answer ∷ others) × (kind ≡ kind_of state answer)
