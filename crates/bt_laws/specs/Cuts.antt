-- The commands of a script whose end is cut off.
use Rattle.std.specs.Prelude.{◌≡◌, ◌≤◌, ◌++◌, ℕ, List, is_err, length, take, true}
use Rattle.std.specs.List.{list_all}
use Rattle.bt_script.specs.Commands.{Answer}
use Rattle.bt_shell.specs.Runs.{after_commands}
use Rattle.bt_shell.specs.Steps.{State}

-- the first of the commands of the whole, `count` of them, followed by at most one other
pub record AreFirstAndOneMore (part whole : List Answer) : Type 0 where
  pub count : ℕ
  pub within : count ≤ length whole
  pub more : List Answer
  pub one : length more ≤ 1
  pub are : part ≡ take count whole ++ more

-- The same, and the other one, if there is one, is refused. So the part changes any table as the first commands of the whole do.
pub record AreFirstAndOneRefused (part whole : List Answer) : Type 0 where
  pub first : AreFirstAndOneMore part whole
  pub refused : list_all is_err first.more ≡ true
  pub left : (state : State) → after_commands state part ≡ after_commands state (take first.count whole)
