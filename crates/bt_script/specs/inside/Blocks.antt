-- The results of the parts of the parser, in terms of the commands.
use Rattle.std.specs.Prelude.{ℕ, ◌<◌, ◌≡◌, ◌&&◌, Bool, true, false, List, [], ◌∷◌, ◌++◌, Option, Some, None, if◌then◌else◌, codes, drop, is_none, is_some, option_map}
use Rattle.bt_script.specs.Commands.{Answer, Finds, Inside, NextPast, after_prefix, bounds_between, closing_of, command_of, commands}
use Rattle.bt_script.specs.Commands.{commands_from, if_some, item_from, lower_bound, opened, or_syntax, unfinished, upper_bound}
use Rattle.bt_script.specs.Lines.{is_blank, lines, without_spaces, words}
use Rattle.bt_script.specs.declared.blocks.BlockEnd.{BlockEnd}
use Rattle.bt_script.specs.declared.blocks.BlockEnd.TheVariants.{Closed, CutOff}
use Rattle.bt_script.specs.declared.command.Bounds.{Bounds}
use Rattle.bt_script.specs.declared.command.Command.{Command}
use Rattle.bt_rowtype.specs.declared.item.Item.{Item}
use Rattle.bt_script.specs.declared.command.Parsed.{Parsed}

-- some messages and one more, if all exist
abbrev pub with_last : {A : Type 0} → Option (List A) → Option A → Option (List A)
with_last None last = None
with_last (Some xs) None = None
with_last (Some xs) (Some x) = Some (xs ++ x ∷ [])

-- the messages of some lines, and the message of one more line, which has no carriage return at its end
abbrev pub and_line : Option (List Item) → List ℕ → Option (List Item)
and_line items line = if is_blank line then items else with_last items (item_from (without_spaces line))

-- bounds and the bound of one more line: the lower one comes first, and each occurs once
abbrev pub with_bound : Bounds → List ℕ → Option Bounds
with_bound bounds line =
    if is_some (after_prefix (codes "from ") line)
    then (if is_none bounds.from && is_none bounds.to then option_map (λ from. bounds_between (Some from) None) (lower_bound line) else None)
    else (if is_none bounds.to then option_map (λ to. bounds_between bounds.from (Some to)) (upper_bound line) else None)

-- bounds and the bound of one more line, which has no carriage return at its end
abbrev pub and_bound : Option Bounds → List ℕ → Option Bounds
and_bound bounds line = if is_blank line then bounds else if_some bounds (λ own. with_bound own (without_spaces line))

-- whether a block has its closing line
abbrev pub is_closed : BlockEnd → Bool
is_closed (Closed next) = true
is_closed (CutOff next) = false

-- the place after a block
abbrev pub place_after : BlockEnd → ℕ
place_after (Closed next) = next
place_after (CutOff next) = next

-- the command of a block that is closed, or that the end of the script cuts off
abbrev pub block_answer : BlockEnd → Option Command → Answer
block_answer (Closed next) command = or_syntax command
block_answer (CutOff next) command = unfinished command

-- a block of these lines is at a place and ends like this; the script continues after it
abbrev pub IsBlock : List ℕ → ℕ → List ℕ → List (List ℕ) → BlockEnd → Type 0
IsBlock script at closing block end = (head : List ℕ)
    → commands_from (Inside head closing []) (lines (drop at script)) ≡ block_answer end (command_of head block) ∷ commands (drop (place_after end) script)

-- the commands of a head line and the lines after it
abbrev pub headed : List ℕ → List (List ℕ) → List Answer
headed head more = (opened head (closing_of (words head))).1 ++ commands_from (opened head (closing_of (words head))).0 more

-- what was found is the command of a head line and of the script from a place on, after the head line
abbrev pub FindsHeaded : Parsed → List ℕ → List ℕ → ℕ → Type 0
FindsHeaded parsed script head at = Finds parsed script (headed head (lines (drop at script)))

-- the next place is after each place before this one, and in the script or at its end
abbrev pub NextFollowing : Parsed → List ℕ → ℕ → Type 0
NextFollowing parsed script at = (before : ℕ) → before < at → NextPast parsed before script
