use Rattle.std.proofs.Common.{◌≡◌, map, drop}
use Rattle.bt_script.specs.Commands.{all_some, names_of}
use Rattle.bt_script.specs.Lines.{name_of_word}
use Rattle.bt_script.proofs.Joined.{following}
use Rattle.bt_script.proofs.lines.parse_names.Given as goal

-- the names so far come before those of the parts from here on
abbrev pub invariant-loop-part : goal.invariant-loop-part
invariant-loop-part l = names_of l.word ≡ following l.names (all_some (map name_of_word (map (λ p. p.now) (drop l.part-index l.part-items))))
