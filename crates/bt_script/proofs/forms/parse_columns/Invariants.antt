use Rattle.std.proofs.Common.{◌≡◌, map, drop}
use Rattle.bt_script.specs.Commands.{all_some, column_of}
use Rattle.bt_script.proofs.Joined.{following}
use Rattle.bt_script.proofs.forms.parse_columns.Given as goal

-- the columns so far come before those of the words from here on
abbrev pub invariant-loop-word : goal.invariant-loop-word
invariant-loop-word l = all_some (map column_of (map (λ w. w.now) l.words)) ≡ following l.columns (all_some (map column_of (map (λ w. w.now) (drop l.word-index l.words))))
