-- Parts of commands that are read together.
use Rattle.std.specs.Prelude.{ℕ, ◌==◌, List, length, Option, None, if◌then◌else◌, option_map}
use Rattle.bt_script.specs.Commands.{if_some, word_at}
use Rattle.bt_script.specs.Lines.{name_of_word, number_of_word}

-- the tree, the number of columns and the column of sums
abbrev pub summed_of : List (List ℕ) → Option (List ℕ × ℕ × List ℕ)
summed_of ws =
    if length ws == 4 then
    if_some (name_of_word (word_at ws 1)) (λ tree.
    if_some (number_of_word (word_at ws 2)) (λ columns.
    option_map (λ column. (tree, columns, column)) (name_of_word (word_at ws 3))))
    else None
