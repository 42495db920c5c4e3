-- Worked lines and scripts, computed by the definitions themselves. Serves as a test of the definitions.
use Rattle.std.proofs.Common.{[], ◌∷◌, ◌≡◌, refl, codes}
use Rattle.std.specs.Prelude.{Err, None, Ok, Some}
use Rattle.bt_value.specs.declared.refusal.Refusal.TheVariants.{Syntax, Unfinished}
use Rattle.bt_row.specs.declared.rows.filter.Test.TheVariants as test
use Rattle.bt_value.specs.declared.value.Kind.TheVariants as kind
use Rattle.bt_value.proofs.offered.OnLiterals.{values_on_literals}
use Rattle.bt_script.specs.Commands.{build_command, closing_of, command_of, commands, commands_from, column_of, filter_of, table_from, index_command, index_from, line_step, names_of, table_command}
use Rattle.bt_script.specs.Lines.{after_words, text_of_lines}
use Rattle.bt_script.specs.declared.command.Capacity.TheVariants.{Bytes, Messages}
use Rattle.bt_script.specs.declared.command.Command.TheVariants.{Build, Drain, Drop, Load, Rebuild}

-- buffers of three messages, of 60 bytes, and of the largest number that is read as one
pub buffer_of_messages : command_of (codes "table 4 3 2 1 id:int") [] ≡ Some (table_from 4 (Messages 3) 2 1 (record { name = codes "id"; kind = kind.Int } ∷ []))
unfolding command_of table_command column_of values_on_literals
buffer_of_messages = refl

pub buffer_of_bytes : command_of (codes "table 4 60b 2 1 id:int") [] ≡ Some (table_from 4 (Bytes 60) 2 1 (record { name = codes "id"; kind = kind.Int } ∷ []))
unfolding command_of table_command column_of values_on_literals
buffer_of_bytes = refl

pub most_bytes : command_of (codes "table 4 999999999b 2 1 id:int") [] ≡ Some (table_from 4 (Bytes 999999999) 2 1 (record { name = codes "id"; kind = kind.Int } ∷ []))
unfolding command_of table_command column_of values_on_literals
most_bytes = refl

-- no number before the `b`, ten digits, a capital letter, two letters, a letter before the number, and a number of bytes for another limit
pub letter_alone : command_of (codes "table 4 b 2 1 id:int") [] ≡ None
unfolding command_of table_command column_of values_on_literals
letter_alone = refl

pub ten_digits_of_bytes : command_of (codes "table 4 1234567890b 2 1 id:int") [] ≡ None
unfolding command_of table_command column_of values_on_literals
ten_digits_of_bytes = refl

pub great_letter : command_of (codes "table 4 60B 2 1 id:int") [] ≡ None
unfolding command_of table_command column_of values_on_literals
great_letter = refl

pub two_letters : command_of (codes "table 4 60bb 2 1 id:int") [] ≡ None
unfolding command_of table_command column_of values_on_literals
two_letters = refl

pub letter_first : command_of (codes "table 4 b60 2 1 id:int") [] ≡ None
unfolding command_of table_command column_of values_on_literals
letter_first = refl

pub leaf_of_bytes : command_of (codes "table 4 3 60b 1 id:int") [] ≡ None
unfolding command_of table_command column_of values_on_literals
leaf_of_bytes = refl

-- all parts of an index
pub whole_index : command_of (codes "index c on city include qty where qty >= 15") []
    ≡ Some (index_from (codes "c") (codes "city" ∷ []) (codes "qty" ∷ []) (Some (record { column = codes "qty"; test = test.AtLeast; constant = codes "15" })))
unfolding command_of index_command names_of filter_of after_words values_on_literals
whole_index = refl

-- a constant in quotes, with a comma and a space, in a line with more spaces than it needs
pub quoted_constant : command_of (codes " index  c on city   where  city  = \"Oslo, west\"") []
    ≡ Some (index_from (codes "c") (codes "city" ∷ []) [] (Some (record { column = codes "city"; test = test.Equal; constant = codes "Oslo, west" })))
unfolding command_of index_command names_of filter_of after_words values_on_literals
quoted_constant = refl

-- the spaces after the first one belong to the constant
pub spaces_in_constant : command_of (codes "index c on city where qty <  a ") []
    ≡ Some (index_from (codes "c") (codes "city" ∷ []) [] (Some (record { column = codes "qty"; test = test.Less; constant = codes " a " })))
unfolding command_of index_command names_of filter_of after_words values_on_literals
spaces_in_constant = refl

-- no columns to include, no filter, and spaces at the end
pub spaces_at_end : command_of (codes "index c on city,qty  ") [] ≡ Some (index_from (codes "c") (codes "city" ∷ codes "qty" ∷ []) [] None)
unfolding command_of index_command names_of after_words values_on_literals
spaces_at_end = refl

-- two fields after the test, no space, and no field
pub two_fields : command_of (codes "index c on city where qty = 1,2") [] ≡ None
unfolding command_of index_command names_of filter_of after_words values_on_literals
two_fields = refl

pub no_space : command_of (codes "index c on city where qty =") [] ≡ None
unfolding command_of index_command names_of filter_of after_words values_on_literals
no_space = refl

pub no_field : command_of (codes "index c on city where qty = ") [] ≡ None
unfolding command_of index_command names_of filter_of after_words values_on_literals
no_field = refl

-- a filter without its column, and a test other than the three
pub no_column : command_of (codes "index c on city where >= 15") [] ≡ None
unfolding command_of index_command names_of filter_of after_words values_on_literals
no_column = refl

pub other_test : command_of (codes "index c on city where qty > 15") [] ≡ None
unfolding command_of index_command names_of filter_of after_words values_on_literals
other_test = refl

-- a list of names with a space, and with an empty name
pub spaced_names : command_of (codes "index c on city, qty") [] ≡ None
unfolding command_of index_command names_of after_words values_on_literals
spaced_names = refl

pub empty_name : command_of (codes "index c on city include qty,") [] ≡ None
unfolding command_of index_command names_of after_words values_on_literals
empty_name = refl

-- an index is dropped; more than one name is refused
pub dropped : command_of (codes "drop c ") [] ≡ Some (Drop (codes "c"))
unfolding command_of values_on_literals
dropped = refl

pub two_names : command_of (codes "drop c d") [] ≡ None
unfolding command_of values_on_literals
two_names = refl

-- a step of building, and its words with more spaces than it needs
pub built : command_of (codes "build q 2") [] ≡ Some (Build (codes "q") 2)
unfolding command_of build_command values_on_literals
built = refl

pub most_rows : command_of (codes " build  by_city 999999999 ") [] ≡ Some (Build (codes "by_city") 999999999)
unfolding command_of build_command values_on_literals
most_rows = refl

pub no_rows : command_of (codes "build q 000") [] ≡ Some (Build (codes "q") 0)
unfolding command_of build_command values_on_literals
no_rows = refl

-- no number, ten digits, a word that is no number, a word that is no name, the two in the other order, and an extra word
pub no_number : command_of (codes "build q") [] ≡ None
unfolding command_of build_command values_on_literals
no_number = refl

pub ten_digits : command_of (codes "build q 1234567890") [] ≡ None
unfolding command_of build_command values_on_literals
ten_digits = refl

pub letter_for_number : command_of (codes "build q x") [] ≡ None
unfolding command_of build_command values_on_literals
letter_for_number = refl

pub digit_before_name : command_of (codes "build 1q 1") [] ≡ None
unfolding command_of build_command values_on_literals
digit_before_name = refl

pub number_before_name : command_of (codes "build 2 q") [] ≡ None
unfolding command_of build_command values_on_literals
number_before_name = refl

pub two_numbers : command_of (codes "build q 1 2") [] ≡ None
unfolding command_of build_command values_on_literals
two_numbers = refl

-- a build has no block, so that a refused one is its line alone
pub build_lines : commands (codes "build q 2\nbuild q\ngo\ndrop q\n") ≡ Ok (Build (codes "q") 2) ∷ Err Syntax ∷ Err Syntax ∷ Ok (Drop (codes "q")) ∷ []
unfolding commands_from line_step closing_of command_of build_command values_on_literals
build_lines = refl

-- commands on one tree, and words other than one name after them
pub drained : command_of (codes " drain  q ") [] ≡ Some (Drain (codes "q"))
unfolding command_of values_on_literals
drained = refl

pub rebuilt : command_of (codes "rebuild primary") [] ≡ Some (Rebuild (codes "primary"))
unfolding command_of values_on_literals
rebuilt = refl

pub no_tree : command_of (codes "rebuild") [] ≡ None
unfolding command_of values_on_literals
no_tree = refl

pub two_trees : command_of (codes "drain primary x") [] ≡ None
unfolding command_of values_on_literals
two_trees = refl

pub no_name : command_of (codes "drain Q") [] ≡ None
unfolding command_of values_on_literals
no_name = refl

-- a load keeps its line breaks, blank lines and spaces; here its closing line has a carriage return, and a command follows it
pub loaded : commands (codes "load \r\nid,name\r\n\r\n 1,a\n  \n.\r\ndrain q\n") ≡ Ok (Load (codes "id,name\r\n\r\n 1,a\n  \n")) ∷ Ok (Drain (codes "q")) ∷ []
unfolding commands_from line_step closing_of command_of text_of_lines values_on_literals
loaded = refl

-- a load closes at the end of the script too, and inside quotes
pub closed_in_quotes : commands (codes "load\na\n\"1\n.") ≡ Ok (Load (codes "a\n\"1\n")) ∷ []
unfolding commands_from line_step closing_of command_of text_of_lines values_on_literals
closed_in_quotes = refl

pub closed_at_end : commands (codes "load\na\n.\r") ≡ Ok (Load (codes "a\n")) ∷ []
unfolding commands_from line_step closing_of command_of text_of_lines values_on_literals
closed_at_end = refl

-- no line in the block
pub empty_block : commands (codes "load\n.\n") ≡ Ok (Load []) ∷ []
unfolding commands_from line_step closing_of command_of text_of_lines values_on_literals
empty_block = refl

-- lines that do not close a load
pub other_points : commands (codes "load\n..\n .\n. \n.\r\r\n.a\n.\n") ≡ Ok (Load (codes "..\n .\n. \n.\r\r\n.a\n")) ∷ []
unfolding commands_from line_step closing_of command_of text_of_lines values_on_literals
other_points = refl

-- a load that the end of the script cuts off, also with a wrong head line
pub cut_off : commands (codes "load\nid,name\n1,a\ndrain q\n") ≡ Err Unfinished ∷ []
unfolding commands_from line_step closing_of command_of text_of_lines values_on_literals
cut_off = refl

pub without_block : commands (codes "load") ≡ Err Unfinished ∷ []
unfolding commands_from line_step closing_of command_of text_of_lines values_on_literals
without_block = refl

pub wrong_and_cut_off : commands (codes "load x\nid,name\n") ≡ Err Syntax ∷ []
unfolding commands_from line_step closing_of command_of text_of_lines values_on_literals
wrong_and_cut_off = refl

-- a wrong head line is refused once, with its block
pub wrong_load : commands (codes "load x\nid,name\ndrain q\n.\nrebuild q\n") ≡ Err Syntax ∷ Ok (Rebuild (codes "q")) ∷ []
unfolding commands_from line_step closing_of command_of text_of_lines values_on_literals
wrong_load = refl
