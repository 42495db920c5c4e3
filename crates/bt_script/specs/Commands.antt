-- The commands of a script.
use Rattle.std.specs.Prelude.{ℕ, ◌≡◌, ◌==◌, ◌&&◌, ◌<◌, ◌≤◌, ◌-◌, not, Bool, List, [], ◌∷◌, ◌++◌, length, map, filter, take, drop, get_or, nat_le}
use Rattle.std.specs.Prelude.{Option, Some, None, Result, Ok, Err, if◌then◌else◌, codes, option_and_then, option_map, is_some, unwrap_or, ⊤}
use Rattle.std.specs.List.{slice_split}
use Rattle.std.specs.Cmp.Lexicographic.{pointwise}
use Rattle.bt_value.specs.Kinds.{kind_of_word}
use Rattle.bt_record.specs.Records.{record_of}
use Rattle.bt_row.specs.declared.rows.filter.Filter.{Filter}
use Rattle.bt_row.specs.declared.rows.filter.Test.{Test}
use Rattle.bt_row.specs.declared.rows.filter.Test.TheVariants as test
use Rattle.bt_value.specs.declared.refusal.Refusal.{Refusal}
use Rattle.bt_value.specs.declared.refusal.Refusal.TheVariants.{Syntax, Unfinished}
use Rattle.bt_row.specs.declared.rows.schema.Column.{Column}
use Rattle.bt_script.specs.Lines.{after_words, is_blank, is_name, lines, name_of_word, number_of_word, text_of_lines, without_return, without_spaces, words}
use Rattle.bt_script.specs.declared.command.Capacity.{Capacity}
use Rattle.bt_script.specs.declared.command.Capacity.TheVariants.{Bytes, Messages}
use Rattle.bt_script.specs.declared.command.Command.{Command}
use Rattle.bt_script.specs.declared.command.Command.TheVariants.{Batch, Build, Drain, Drop, Get, Image, Index, Load, Rebuild, Scan, Sums, Table}
use Rattle.bt_script.specs.declared.command.Bounds.{Bounds}
use Rattle.bt_rowtype.specs.declared.item.Item.{Item}
use Rattle.bt_rowtype.specs.declared.item.Item.TheVariants.{Put, Del, Ups}
use Rattle.bt_script.specs.declared.command.Parsed.{Parsed}
use Rattle.bt_script.specs.declared.command.Parsed.TheVariants.{End, Bad, Good}

-- whether a text is this word
abbrev pub is_word : List ℕ → List ℕ → Bool
is_word text word = pointwise ◌==◌ text word

-- the word at a place, counted from 0
abbrev pub word_at : List (List ℕ) → ℕ → List ℕ
word_at ws place = get_or ws place []

-- whether the first of the words is this one
abbrev pub begins : List (List ℕ) → List ℕ → Bool
begins ws word = is_word (word_at ws 0) word

-- all of them, if each exists
abbrev pub all_some : {A : Type 0} → List (Option A) → Option (List A)
all_some [] = Some []
all_some (None ∷ rest) = None
all_some (Some x ∷ rest) = option_map (λ xs. x ∷ xs) (all_some rest)

-- what follows from a part of a line, if it has that part
abbrev pub if_some : {A B : Type 0} → Option A → (A → Option B) → Option B
if_some part rest = option_and_then rest part

-- what follows a prefix, if a line begins with it
abbrev pub after_prefix : List ℕ → List ℕ → Option (List ℕ)
after_prefix prefix line = if is_word (take (length prefix) line) prefix then Some (drop (length prefix) line) else None

-- the record that follows a prefix
abbrev pub record_after : List ℕ → List ℕ → Option (List (List ℕ))
record_after prefix line = if_some (after_prefix prefix line) record_of

-- a message of a batch: put, del or ups, one space and a record
abbrev pub item_from : List ℕ → Option Item
item_from line =
    if is_some (after_prefix (codes "put ") line) then option_map Put (record_after (codes "put ") line)
    else (if is_some (after_prefix (codes "del ") line) then option_map Del (record_after (codes "del ") line)
    else option_map Ups (record_after (codes "ups ") line))

-- a line without the carriage return at its end and the spaces before its first word
abbrev pub text_of_line : List ℕ → List ℕ
text_of_line line = without_spaces (without_return line)

unfoldable pub item_of_line : List ℕ → Option Item
item_of_line line = item_from (text_of_line line)

abbrev pub is_blank_line : List ℕ → Bool
is_blank_line line = is_blank (without_return line)

-- the lines that are not blank
abbrev pub filled_lines : List (List ℕ) → List (List ℕ)
filled_lines block = filter (λ line. not (is_blank_line line)) block

-- the messages of a batch: one of each line that is not blank
unfoldable pub items_of : List (List ℕ) → Option (List Item)
items_of block = all_some (map item_of_line (filled_lines block))

-- a column: its name, a colon and its kind
abbrev pub column_from : List (List ℕ) → Option Column
column_from parts =
    if (length parts == 2) && is_name (word_at parts 0) then option_map (λ k. record { name = word_at parts 0; kind = k }) (kind_of_word (word_at parts 1)) else None

unfoldable pub column_of : List ℕ → Option Column
column_of word = column_from (slice_split (λ b. b == 58) word)

-- the last byte of a word, or 0 if the word is empty
abbrev pub last_byte : List ℕ → ℕ
last_byte word = get_or word (length word - 1) 0

-- the capacity of a buffer that a word writes: a number of messages, or a number of bytes if a `b` follows it
abbrev pub capacity_of_word : List ℕ → Option Capacity
capacity_of_word word = if last_byte word == 98 then option_map Bytes (number_of_word (take (length word - 1) word)) else option_map Messages (number_of_word word)

abbrev pub table_from : ℕ → Capacity → ℕ → ℕ → List Column → Command
table_from fanout buffer leaf keys columns = Table (record { fanout = fanout; buffer = buffer; leaf = leaf; keys = keys; columns = columns })

-- table, four numbers and one column or more; a `b` may follow the second number
unfoldable pub table_command : List (List ℕ) → Option Command
table_command ws =
    if nat_le 6 (length ws) then
    if_some (number_of_word (word_at ws 1)) (λ fanout.
    if_some (capacity_of_word (word_at ws 2)) (λ buffer.
    if_some (number_of_word (word_at ws 3)) (λ leaf.
    if_some (number_of_word (word_at ws 4)) (λ keys.
    option_map (table_from fanout buffer leaf keys) (all_some (map column_of (drop 5 ws)))))))
    else None

-- batch, with its messages
abbrev pub batch_command : List (List ℕ) → Option (List Item) → Option Command
batch_command ws items = if length ws == 1 then option_map Batch items else None

-- load, with the unchanged text of its block
abbrev pub load_command : List (List ℕ) → List ℕ → Option Command
load_command ws text = if length ws == 1 then Some (Load text) else None

-- the bounds with this lower and this upper one, if they are given
abbrev pub bounds_between : Option (List (List ℕ)) → Option (List (List ℕ)) → Bounds
bounds_between from to = record { from = from; to = to }

-- the lower bound that a line writes, if it begins with `from`, and the upper one, if it begins with `to`
abbrev pub lower_bound : List ℕ → Option (List (List ℕ))
lower_bound line = record_after (codes "from ") line

abbrev pub upper_bound : List ℕ → Option (List (List ℕ))
upper_bound line = record_after (codes "to ") line

-- the bounds that these lines write: none, the lower one, the upper one, or the lower one and then the upper one
abbrev pub bounds_from : List (List ℕ) → Option Bounds
bounds_from [] = Some (bounds_between None None)
bounds_from (line ∷ []) =
    if is_some (after_prefix (codes "from ") line) then option_map (λ from. bounds_between (Some from) None) (lower_bound line)
    else option_map (λ to. bounds_between None (Some to)) (upper_bound line)
bounds_from (first ∷ second ∷ []) = if_some (lower_bound first) (λ from. option_map (λ to. bounds_between (Some from) (Some to)) (upper_bound second))
bounds_from (first ∷ second ∷ third ∷ others) = None

-- the bounds of a block: those of its lines that are not blank
unfoldable pub bounds_of : List (List ℕ) → Option Bounds
bounds_of block = bounds_from (map text_of_line (filled_lines block))

-- the name after the first word, if no other word follows
abbrev pub only_name : List (List ℕ) → Option (List ℕ)
only_name ws = if length ws == 2 then name_of_word (word_at ws 1) else None

-- scan and the name of a tree, with its bounds
abbrev pub scan_command : List (List ℕ) → Option Bounds → Option Command
scan_command ws bounds = if_some (only_name ws) (λ tree. option_map (Scan tree) bounds)

abbrev pub sums_from : List ℕ → ℕ → List ℕ → Bounds → Command
sums_from tree columns column bounds = Sums (record { tree = tree; columns = columns; column = column; bounds = bounds })

-- sums, the name of a tree, a number and the name of a column, with its bounds
unfoldable pub sums_command : List (List ℕ) → Option Bounds → Option Command
sums_command ws bounds =
    if length ws == 4 then
    if_some (name_of_word (word_at ws 1)) (λ tree.
    if_some (number_of_word (word_at ws 2)) (λ columns.
    if_some (name_of_word (word_at ws 3)) (λ column.
    option_map (sums_from tree columns column) bounds)))
    else None

-- get, one space and a record
abbrev pub get_command : List ℕ → Option Command
get_command head = option_map Get (record_after (codes "get ") (without_spaces head))

-- the names that commas join
unfoldable pub names_of : List ℕ → Option (List (List ℕ))
names_of word = all_some (map name_of_word (slice_split (λ b. b == 44) word))

-- the test that a word writes
abbrev pub test_of : List ℕ → Option Test
test_of word =
    if is_word word (codes "=") then Some test.Equal
    else (if is_word word (codes "<") then Some test.Less else (if is_word word (codes ">=") then Some test.AtLeast else None))

-- the field of a record of one field
abbrev pub only_field : List (List ℕ) → Option (List ℕ)
only_field [] = None
only_field (field ∷ []) = Some field
only_field (field ∷ other ∷ fields) = None

-- the constant of a filter: one space and a record of one field
abbrev pub constant_of : List ℕ → Option (List ℕ)
constant_of rest = if_some (record_after (codes " ") rest) only_field

-- the filter that a text of these words writes: `where`, a column, a test and a constant
unfoldable pub filter_of : List ℕ → List (List ℕ) → Option Filter
filter_of text ws =
    if begins ws (codes "where") then
    if_some (name_of_word (word_at ws 1)) (λ column.
    if_some (test_of (word_at ws 2)) (λ t.
    option_map (λ constant. record { column = column; test = t; constant = constant }) (constant_of (after_words 3 text))))
    else None

-- the filter of an index, or none if the text has no word
abbrev pub filter_from : List ℕ → Option (Option Filter)
filter_from text = if length (words text) == 0 then Some None else option_map Some (filter_of text (words text))

-- whether the words after the columns of an index name columns to include
abbrev pub includes : List (List ℕ) → Bool
includes ws = begins ws (codes "include")

-- the columns to include, if the text of these words names them, and the text after them
abbrev pub included_of : List (List ℕ) → Option (List (List ℕ))
included_of ws = if includes ws then names_of (word_at ws 1) else Some []

abbrev pub after_included : List ℕ → List (List ℕ) → List ℕ
after_included text ws = if includes ws then after_words 2 text else text

abbrev pub index_from : List ℕ → List (List ℕ) → List (List ℕ) → Option Filter → Command
index_from name on include filter = Index (record { name = name; on = on; include = include; filter = filter })

-- the index of a name and columns, and of the text after these: the columns to include and then the filter, if it has them
abbrev pub index_with : List ℕ → List (List ℕ) → List ℕ → Option Command
index_with name on text =
    if_some (included_of (words text)) (λ include.
    option_map (index_from name on include) (filter_from (after_included text (words text))))

-- index, its name, `on` and the names of columns, and the text after these
unfoldable pub index_command : List ℕ → List (List ℕ) → Option Command
index_command head ws =
    if is_word (word_at ws 2) (codes "on") then
    if_some (name_of_word (word_at ws 1)) (λ name.
    if_some (names_of (word_at ws 3)) (λ on. index_with name on (after_words 4 head)))
    else None

-- build, the name of an index and a number
unfoldable pub build_command : List (List ℕ) → Option Command
build_command ws =
    if length ws == 3 then
    if_some (name_of_word (word_at ws 1)) (λ name.
    option_map (Build name) (number_of_word (word_at ws 2)))
    else None

-- the command that a name makes with the word before it
abbrev pub command_on : List (List ℕ) → List ℕ → Option Command
command_on ws name =
    if begins ws (codes "image") then Some (Image name)
    else (if begins ws (codes "drop") then Some (Drop name)
    else (if begins ws (codes "drain") then Some (Drain name)
    else (if begins ws (codes "rebuild") then Some (Rebuild name) else None)))

-- image, drop, drain or rebuild, and one name
abbrev pub named_command : List (List ℕ) → Option Command
named_command ws = if_some (only_name ws) (command_on ws)

-- the line that closes the block of a command, and the command with the lines of its block, if it has a block
abbrev pub block_of : List (List ℕ) → Option (List ℕ × (List (List ℕ) → Option Command))
block_of ws =
    if begins ws (codes "batch") then Some (codes "end", λ block. batch_command ws (items_of block))
    else (if begins ws (codes "scan") then Some (codes "go", λ block. scan_command ws (bounds_of block))
    else (if begins ws (codes "sums") then Some (codes "go", λ block. sums_command ws (bounds_of block))
    else (if begins ws (codes "load") then Some (codes ".", λ block. load_command ws (text_of_lines block)) else None)))

-- the line that closes the block of a command, if it has one
unfoldable pub closing_of : List (List ℕ) → Option (List ℕ)
closing_of ws = option_map (λ form. form.0) (block_of ws)

-- the command of a head line without a block
abbrev pub line_command : List ℕ → List (List ℕ) → Option Command
line_command head ws =
    if begins ws (codes "table") then table_command ws
    else (if begins ws (codes "get") then get_command head
    else (if begins ws (codes "index") then index_command head ws
    else (if begins ws (codes "build") then build_command ws else named_command ws)))

-- the command of its head line, which has these words, and of the lines of its block, if it is one
abbrev pub command_from : List ℕ → List (List ℕ) → List (List ℕ) → Option Command
command_from head ws block = unwrap_or (option_map (λ form. form.1 block) (block_of ws)) (line_command head ws)

-- the command of its head line and the lines of its block, if it is one
unfoldable pub command_of : List ℕ → List (List ℕ) → Option Command
command_of head block = command_from head (words head) block

-- a command, or why there is none
abbrev pub Answer : Type 0
Answer = Result Command Refusal

abbrev pub or_syntax : Option Command → Answer
or_syntax None = Err Syntax
or_syntax (Some command) = Ok command

-- a command whose block the end of the script cuts off
abbrev pub unfinished : Option Command → Answer
unfinished None = Err Syntax
unfinished (Some command) = Err Unfinished

-- where a line is: outside of blocks, or in the block of this head line, with this closing line and these lines before it
pub data Place : Type 0 where
  Outside : Place
  Inside : (head : List ℕ) → (closing : List ℕ) → (block : List (List ℕ)) → Place

-- a head line: the command itself if it has no block, or the start of its block
abbrev pub opened : List ℕ → Option (List ℕ) → Place × List Answer
opened head None = (Outside, or_syntax (command_of head []) ∷ [])
opened head (Some closing) = (Inside head closing [], [])

abbrev pub head_step : List ℕ → Place × List Answer
head_step head = opened head (closing_of (words head))

-- one line: where the next one is, and the command that ends here, if one does
unfoldable pub line_step : Place → List ℕ → Place × List Answer
line_step Outside line = if is_blank_line line then (Outside, []) else head_step (without_return line)
line_step (Inside head closing block) line =
    if is_word (without_return line) closing then (Outside, or_syntax (command_of head block) ∷ [])
    else (Inside head closing (block ++ line ∷ []), [])

-- the end of the script
abbrev pub ending : Place → List Answer
ending Outside = []
ending (Inside head closing block) = unfinished (command_of head block) ∷ []

-- the commands of lines, from a place on
unfoldable pub commands_from : Place → List (List ℕ) → List Answer
commands_from place [] = ending place
commands_from place (line ∷ more) = (line_step place line).1 ++ commands_from (line_step place line).0 more

-- the commands of a script
abbrev pub commands : List ℕ → List Answer
commands script = commands_from Outside (lines script)

-- what was found is the first of these commands, and the others are those of the script from the next place on
abbrev pub Finds : Parsed → List ℕ → List Answer → Type 0
Finds End script all = all ≡ []
Finds (Bad refusal next) script all = all ≡ Err refusal ∷ commands (drop next script)
Finds (Good command next) script all = all ≡ Ok command ∷ commands (drop next script)

-- the next place is after a place, and in the script or at its end
abbrev pub NextPast : Parsed → ℕ → List ℕ → Type 0
NextPast End at script = ⊤
NextPast (Bad refusal next) at script = (at < next) × (next ≤ length script)
NextPast (Good command next) at script = (at < next) × (next ≤ length script)
