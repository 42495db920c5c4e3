-- The lines of a script, the words of a line, and the numbers and names that words write.
use Rattle.std.specs.Prelude.{ℕ, ◌==◌, ◌&&◌, ◌||◌, ◌-◌, not, Bool, List, [], ◌∷◌, ◌++◌, length, take, drop, get_or, filter, Option, Some, None, if◌then◌else◌, nat_le, zero, suc}
use Rattle.std.specs.List.{list_all, onto_first, slice_split, take_while}
use Rattle.bt_value.specs.Ints.{is_digit, number_written}

-- the lines: a line feed ends each, and a last one without it counts if it has bytes
abbrev pub lines : List ℕ → List (List ℕ)
lines [] = []
lines (b ∷ bs) = if b == 10 then [] ∷ lines bs else onto_first b (lines bs)

-- the bytes of some lines, with a line feed after each of them
unfoldable pub text_of_lines : List (List ℕ) → List ℕ
text_of_lines [] = []
text_of_lines (line ∷ more) = line ++ 10 ∷ text_of_lines more

-- a line without the one carriage return at its end
abbrev pub without_return : List ℕ → List ℕ
without_return line = if get_or line (length line - 1) 0 == 13 then take (length line - 1) line else line

-- the words: the parts between spaces
abbrev pub words : List ℕ → List (List ℕ)
words line = filter (λ w. not (length w == 0)) (slice_split (λ b. b == 32) line)

-- no bytes, or spaces only
abbrev pub is_blank : List ℕ → Bool
is_blank line = list_all (λ b. b == 32) line

-- a line without the spaces before its first word
abbrev pub without_spaces : List ℕ → List ℕ
without_spaces line = drop (length (take_while (λ b. b == 32) line)) line

-- the number that a word of 1 to 9 digits writes
abbrev pub number_of_word : List ℕ → Option ℕ
number_of_word word = if nat_le 1 (length word) && nat_le (length word) 9 && list_all is_digit word then Some (number_written word) else None

-- a to z
abbrev pub is_letter : ℕ → Bool
is_letter b = nat_le 97 b && nat_le b 122

-- a to z, 0 to 9 or _
abbrev pub is_name_byte : ℕ → Bool
is_name_byte b = is_letter b || is_digit b || (b == 95)

-- a name: 1 to 32 such bytes, the first one a letter
abbrev pub is_name : List ℕ → Bool
is_name word = nat_le 1 (length word) && nat_le (length word) 32 && is_letter (get_or word 0 0) && list_all is_name_byte word

-- the name that a word is
abbrev pub name_of_word : List ℕ → Option (List ℕ)
name_of_word word = if is_name word then Some word else None

-- what follows the first word of a line
abbrev pub after_word : List ℕ → List ℕ
after_word line = drop (length (take_while (λ b. not (b == 32)) (without_spaces line))) (without_spaces line)

-- what follows the first n words of a line
unfoldable pub after_words : ℕ → List ℕ → List ℕ
after_words zero line = line
after_words (suc count) line = after_words count (after_word line)
