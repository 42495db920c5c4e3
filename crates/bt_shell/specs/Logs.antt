-- What a log of a run is told of each command: where its reply ends, and what it did.
use Rattle.std.specs.Io.Iter.{u64_saturate}
use Rattle.std.specs.Prelude.{ℕ, ◌≡◌, ◌≢◌, ◌+◌, Bool, false, true, List, [], ◌∷◌, length, Result, Ok, Err}
use Rattle.bt_value.specs.declared.refusal.Refusal.{Refusal}
use Rattle.bt_value.specs.Results.{map_ok}
use Rattle.bt_script.specs.Commands.{Answer}
use Rattle.bt_script.specs.declared.command.Command.{Command}
use Rattle.bt_script.specs.declared.command.Command.TheVariants.{Get, Image, Scan, Sums}
use Rattle.bt_shell.specs.declared.log.ReplyKind.{ReplyKind}
use Rattle.bt_shell.specs.declared.log.ReplyKind.TheVariants.{Changed, Read, Refused}
use Rattle.bt_shell.specs.Steps.{Done, State, outcome, turn}

-- what a command does if it is carried out
abbrev pub kind_of_done : Command → ReplyKind
kind_of_done (Get fields) = Read
kind_of_done (Scan tree bounds) = Read
kind_of_done (Sums form) = Read
kind_of_done (Image tree) = Read
kind_of_done other = Changed

-- what a command with this outcome does
abbrev pub kind_after : Command → Result Done Refusal → ReplyKind
kind_after command (Ok done) = kind_of_done command
kind_after command (Err refusal) = Refused

-- what a command does, or text that is none: it reads, it can change the table, or it is refused
abbrev pub kind_of : State → Answer → ReplyKind
kind_of state (Err refusal) = Refused
kind_of state (Ok command) = kind_after command (outcome state command)

-- a command that does not change a table, because it reads or is refused, leaves the same one
abbrev pub ReadsChangeNothing : Type 0
ReadsChangeNothing = (state : State) (answer : Answer) → kind_of state answer ≢ Changed → (turn state answer).0 ≡ state

abbrev pub is_refusal : ReplyKind → Bool
is_refusal Refused = true
is_refusal other = false

-- whether it is refused
abbrev pub has_refusal : State → Answer → Bool
has_refusal state answer = is_refusal (kind_of state answer)

-- where a reply after this number of bytes ends; the number stops at the largest u64
abbrev pub end_of : ℕ → List ℕ → ℕ
end_of at text = u64_saturate (at + length text)

-- a log of commands carried out one after the other: of each, where its reply ends, after this number of bytes before them, and what it did
module _ {L : Type 0} (added : L → ℕ → ReplyKind → L) where
  unfoldable pub logged : L → ℕ → State → List Answer → L
  logged log at state [] = log
  logged log at state (answer ∷ more) =
      logged (added log (end_of at (turn state answer).1) (kind_of state answer)) (end_of at (turn state answer).1) (turn state answer).0 more

-- whether a command is carried out, or as what it is refused
abbrev pub permitted : Result Done Refusal → Result (Unit {0}) Refusal
permitted outcome = map_ok (λ _. tt) outcome

-- a log of commands that are not carried out: of each, what it would do to the same table, while no reply is written
module _ {L : Type 0} (added : L → ℕ → ReplyKind → L) where
  unfoldable pub checked : L → State → List Answer → L
  checked log state [] = log
  checked log state (answer ∷ more) = checked (added log 0 (kind_of state answer)) state more
