-- What a script writes, the table that its commands leave, and which part of the replies a run wrote.
use Rattle.std.specs.Prelude.{ℕ, ◌≡◌, ◌==◌, ◌+◌, Bool, true, if◌then◌else◌, List, [], ◌∷◌, ◌++◌, take, Option, None, IfSome}
use Rattle.bt_script.specs.Commands.{Answer, Outside, Place, commands, line_step}
use Rattle.bt_script.specs.Lines.{lines}
use Rattle.bt_script.specs.Streams.{Gave, Took, TookPrefix, source_of}
use Rattle.bt_script.specs.declared.counted.Counted.{Counted}
use Rattle.bt_shell.specs.Logs.{has_refusal}
use Rattle.bt_shell.specs.Steps.{State, turn}

-- the replies to commands one after the other, from a table on
unfoldable pub replies : State → List Answer → List ℕ
replies state [] = []
replies state (answer ∷ more) = (turn state answer).1 ++ replies (turn state answer).0 more

-- the table after commands one after the other
unfoldable pub after_commands : State → List Answer → State
after_commands state [] = state
after_commands state (answer ∷ more) = after_commands (turn state answer).0 more

-- one, if something applies
abbrev pub one_where : Bool → ℕ
one_where applies = if applies then 1 else 0

-- how many of the commands are refused, carried out one after the other
unfoldable pub refused_count : State → List Answer → ℕ
refused_count state [] = 0
refused_count state (answer ∷ more) = one_where (has_refusal state answer) + refused_count (turn state answer).0 more

-- what a script writes: the replies to its commands, which begin with no table
abbrev pub run : List ℕ → List ℕ
run script = replies None (commands script)

-- the state after n commands of a script
abbrev pub state_after_commands : List ℕ → ℕ → State
state_after_commands script n = after_commands None (take n (commands script))

-- whether a script is empty or ends with a line feed
abbrev pub ends_with_line : List ℕ → Bool
ends_with_line [] = true
ends_with_line (b ∷ []) = b == 10
ends_with_line (b ∷ c ∷ more) = ends_with_line (c ∷ more)

-- where the line after some lines is: outside of blocks, or in one
unfoldable pub place_following : Place → List (List ℕ) → Place
place_following place [] = place
place_following place (line ∷ more) = place_following (line_step place line).0 more

-- a script that ends between two commands: with a whole line, after which no block is open
abbrev pub EndsBetweenCommands : List ℕ → Type 0
EndsBetweenCommands script = (ends_with_line script ≡ true) × (place_following Outside (lines script) ≡ Outside)

-- two scripts one after the other, from a table on, have the same replies as the script of both, and leave the same table
abbrev pub AreOneRun : State → List ℕ → List ℕ → Type 0
AreOneRun state first second =
    (replies state (commands (first ++ second)) ≡ replies state (commands first) ++ replies (after_commands state (commands first)) (commands second))
    × (after_commands state (commands (first ++ second)) ≡ after_commands (after_commands state (commands first)) (commands second))

-- a script that a reader may have had: its bytes, if they are known
abbrev pub IsScriptOf : Option (List ℕ) → List ℕ → Type 0
IsScriptOf known script = IfSome known (λ bytes. bytes ≡ script)

module _ {W : Type 0} (contents : W → Option (List ℕ)) where
  -- a writer took the whole replies to the first commands of a script, some number of them, from a table on
  abbrev pub TookReplies : State → Counted W → Counted W → List ℕ → Type 0
  TookReplies state old new script = (n : ℕ) × Took contents old new (replies state (take n (commands script)))

  -- a writer took all replies to a script, a prefix of them, or whole replies to its first commands; the script is one that the reader may have had
  abbrev pub WritesRun : Option (List ℕ) → Counted W → Counted W → Type 0
  WritesRun known old new = (script : List ℕ) × IsScriptOf known script × Took contents old new (run script)

  abbrev pub WritesPrefix : Option (List ℕ) → Counted W → Counted W → Type 0
  WritesPrefix known old new = (script : List ℕ) × IsScriptOf known script × TookPrefix contents old new (run script)

  abbrev pub WritesReplies : Option (List ℕ) → Counted W → Counted W → Type 0
  WritesReplies known old new = (script : List ℕ) × IsScriptOf known script × TookReplies None old new script

-- a reader gave a script, all that it had, and a writer took all replies to it
abbrev pub IsWholeRun : {R W : Type 0} → (R → Option (List ℕ)) → (W → Option (List ℕ)) → Counted R → Counted R → Counted W → Counted W → Type 0
IsWholeRun remaining contents reader read writer written =
    (script : List ℕ) × Gave remaining reader read script × IsScriptOf (remaining (source_of reader)) script × Took contents writer written (run script)
