-- The head line of a get.
use Rattle.std.proofs.Common.{◌≡◌, ℕ, List, [], ◌∷◌, None, refl}
use Rattle.bt_script.specs.Commands.{closing_of, command_of, get_command}
use Rattle.bt_script.specs.Lines.{words}

-- it has no block
pub closes_none : (rest : List ℕ) → closing_of (words (103 ∷ 101 ∷ 116 ∷ 32 ∷ rest)) ≡ None
unfolding closing_of
closes_none rest = refl

-- its command is that of the line
pub command_of_line : (rest : List ℕ) → command_of (103 ∷ 101 ∷ 116 ∷ 32 ∷ rest) [] ≡ get_command (103 ∷ 101 ∷ 116 ∷ 32 ∷ rest)
unfolding command_of
command_of_line rest = refl
