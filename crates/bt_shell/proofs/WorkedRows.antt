-- Worked lines and scripts, computed by the definitions themselves. Serves as a test of the definitions.
use Rattle.std.proofs.Common.{ℕ, List, [], ◌∷◌, ◌++◌, ◌≡◌, refl, codes}
use Rattle.std.specs.Prelude.{Ok, Some, None, pos}
use Rattle.std.specs.Char.{encode_utf8}
use Rattle.std.specs.Str.{chars, is_utf8}
use Rattle.bt_row.specs.Schemas.{Schema}
use Rattle.bt_row.specs.declared.operations.op.Op.TheVariants as op
use Rattle.bt_value.specs.declared.value.Kind.TheVariants as kind
use Rattle.bt_value.specs.declared.value.Value.TheVariants as value
use Rattle.bt_value.proofs.offered.OnLiterals.{values_on_literals}
use Rattle.bt_message.specs.declared.message.Message.TheVariants as message
use Rattle.bt_script.specs.declared.command.Capacity.TheVariants.{Messages}
use Rattle.bt_script.specs.Lines.{after_words}
use Rattle.bt_script.specs.Commands.{bounds_of, closing_of, column_of, command_of, commands, commands_from, index_command, item_of_line, items_of, line_step}
use Rattle.bt_script.specs.Commands.{names_of, sums_command, table_command, table_from}
use Rattle.bt_keycode.specs.Codes.{eight_bytes}
use Rattle.bt_form.specs.Trees.{inner, leaf, node, none}
use Rattle.bt_view.specs.Images.{change_text, entry_image, entry_text, leaf_row_line, message_line, row_text}
use Rattle.bt_shell.specs.Logs.{logged}
use Rattle.bt_shell.specs.Runs.{replies, run}
use Rattle.bt_shell.specs.declared.log.ReplyKind.{ReplyKind}
use Rattle.bt_shell.specs.declared.log.ReplyKind.TheVariants.{Changed, Read, Refused}
use Rattle.bt_batch.specs.Batches.{read_message}
use Rattle.bt_rowtype.specs.declared.item.Item.TheVariants as line

-- a line of a batch that changes the row of a key
pub ups_line : item_of_line (codes "ups 1,add,qty,5") ≡ Some (line.Ups (codes "1" ∷ codes "add" ∷ codes "qty" ∷ codes "5" ∷ []))
unfolding item_of_line values_on_literals
ups_line = refl

-- columns of the other kinds, and a kind that does not exist
pub text_column : column_of (codes "name:text") ≡ Some (record { name = codes "name"; kind = kind.Text })
unfolding column_of
text_column = refl

pub flag_column : column_of (codes "ok:flag") ≡ Some (record { name = codes "ok"; kind = kind.Flag })
unfolding column_of
flag_column = refl

pub date_column : column_of (codes "name:date") ≡ None
unfolding column_of
date_column = refl

-- a table with two key columns
pub two_key_columns : command_of (codes "table 4 3 2 2 id:int ok:flag") []
    ≡ Some (table_from 4 (Messages 3) 2 2 (record { name = codes "id"; kind = kind.Int } ∷ record { name = codes "ok"; kind = kind.Flag } ∷ []))
unfolding command_of table_command column_of values_on_literals
two_key_columns = refl

-- no key column, more than there are columns, more than 4, and a word that is no number
pub key_counts : run (codes "table 4 3 2 0 id:int ok:flag\ntable 4 3 2 3 id:int ok:flag\ntable 4 3 2 5 a:int b:int c:int d:int e:int\ntable 4 3 2 x id:int\ntable 4 3 2 2 id:int ok:flag\n")
    ≡ codes "refused 5 BadSchema\nrefused 5 BadSchema\nrefused 5 BadSchema\nrefused 1 Syntax\ntable 2\n"
unfolding replies commands_from line_step closing_of command_of bounds_of items_of item_of_line column_of table_command eight_bytes values_on_literals
key_counts = refl

-- an empty script writes nothing
pub empty_script : run [] ≡ []
unfolding replies commands_from
empty_script = refl

-- puts and deletes of one batch in order
pub sorted_list : run (codes "table 4 3 2 1 id:int qty:int\nbatch\nput 3,30\nput 1,10\nput 3,31\ndel 1\ndel 7\nend\nscan primary\ngo\n") ≡ codes "table 2\nbatch 5\nrow 3,31\nrows 1\n"
unfolding replies commands_from line_step closing_of command_of bounds_of items_of item_of_line column_of table_command eight_bytes values_on_literals
sorted_list = refl

-- a bad field in the third message, and a block without its end: the table does not change
pub faulty_batches : run (codes "table 4 3 2 1 id:int qty:int\nbatch\nput 1,10\nend\nbatch\nput 5,50\nput 6,60\nput 7,x\nend\nscan primary\ngo\nbatch\nput 5,50\n")
    ≡ codes "table 2\nbatch 1\nrefused 6 BadField 3\nrow 1,10\nrows 1\nrefused 2 Unfinished\n"
unfolding replies commands_from line_step closing_of command_of bounds_of items_of item_of_line column_of table_command eight_bytes values_on_literals
faulty_batches = refl

-- an unknown command, a repeated name, a fanout of 3, and a scan before the table
pub refusals_without_table : run (codes "tabel\ntable 4 3 2 1 id:int id:int\ntable 3 3 2 1 id:int\nscan primary\ngo\n")
    ≡ codes "refused 1 Syntax\nrefused 5 BadSchema\nrefused 20 BadShape\nrefused 3 NoTable\n"
unfolding replies commands_from line_step closing_of command_of bounds_of items_of item_of_line column_of table_command eight_bytes values_on_literals
refusals_without_table = refl

-- lines that end with a carriage return, a quoted field, a field that is longer than its number, and a last line without a line end
pub spellings : run (codes "table 4 3 2 1 id:int qty:int\r\nbatch\r\n put \"-0\",007\r\nend\r\n\n  scan   primary  \ngo")
    ≡ codes "table 2\nbatch 1\nrow 0,7\nrows 1\n"
unfolding replies commands_from line_step closing_of command_of bounds_of items_of item_of_line column_of table_command eight_bytes values_on_literals
spellings = refl

-- a get before the table, and the image of an empty one
pub before_the_table : run (codes "get 1\ntable 4 3 2 1 id:int qty:int\nimage primary\n")
    ≡ codes "refused 3 NoTable\ntable 2\nimage primary height 1\nleaf 0\nend\n"
unfolding replies commands_from line_step closing_of command_of bounds_of items_of item_of_line column_of table_command eight_bytes values_on_literals
before_the_table = refl

-- of two counts of 2 the left child is flushed, and the messages for the right one stay pending
pub tie_flushes_left : run (codes "table 4 3 2 1 id:int qty:int\nbatch\nput 1,10\nput 2,20\nput 3,30\nput 4,40\nend\nbatch\nput 1,11\nput 2,21\nput 3,31\nput 4,41\nend\nimage primary\nget 4\n")
    ≡ codes "table 2\nbatch 4\nbatch 4\nimage primary height 2\ninner 2 2\n  + 8000000000000003 3,31\n  + 8000000000000004 4,41\n  leaf 2\n    = 8000000000000001 1,11\n    = 8000000000000002 2,21\n  | 8000000000000003\n  leaf 2\n    = 8000000000000003 3,30\n    = 8000000000000004 4,40\nend\nrow 4,41\n"
unfolding replies commands_from line_step closing_of command_of bounds_of items_of item_of_line column_of table_command eight_bytes values_on_literals
tie_flushes_left = refl

-- the first child is flushed and splits; the root becomes two nodes under a new one
pub first_child_splits : run (codes "table 4 3 2 1 id:int qty:int\nbatch\nput 1,10\nput 2,20\nput 3,30\nput 4,40\nend\nbatch\nput 5,50\nput 6,60\nput 1,11\nend\nbatch\nput 7,70\nend\nbatch\nput 8,80\nput 0,0\nput -1,-10\nput 4,44\nend\nimage primary\n")
    ≡ codes "table 2\nbatch 4\nbatch 3\nbatch 1\nbatch 4\nimage primary height 3\ninner 2 0\n  inner 3 1\n    + 8000000000000004 4,44\n    leaf 2\n      = 7fffffffffffffff -1,-10\n      = 8000000000000000 0,0\n    | 8000000000000001\n    leaf 2\n      = 8000000000000001 1,11\n      = 8000000000000002 2,20\n    | 8000000000000003\n    leaf 2\n      = 8000000000000003 3,30\n      = 8000000000000004 4,40\n  | 8000000000000005\n  inner 2 1\n    + 8000000000000008 8,80\n    leaf 2\n      = 8000000000000005 5,50\n      = 8000000000000006 6,60\n    | 8000000000000007\n    leaf 1\n      = 8000000000000007 7,70\nend\n"
unfolding replies commands_from line_step closing_of command_of bounds_of items_of item_of_line column_of table_command eight_bytes values_on_literals
first_child_splits = refl

-- lines that are not a get or an image, a key that no row has, and rows in one leaf
pub gets_and_images : run (codes "table 4 3 2 1 id:int qty:int\nget\nget \nget  1\nget 1,2\n get 1\nimage  primary \nimage second\nimage\nbatch\nput 1,10\nput 2,20\nput 3,30\ndel 1\nend\nget 1\nget 2\nimage primary\n")
    ≡ codes "table 2\nrefused 1 Syntax\nrefused 1 Syntax\nrefused 6 BadField 1\nrefused 7 BadLength 1\nnone\nimage primary height 1\nleaf 0\nend\nrefused 8 NoSuchTree\nrefused 1 Syntax\nbatch 4\nnone\nrow 2,20\nimage primary height 1\nleaf 2\n  = 8000000000000002 2,20\n  = 8000000000000003 3,30\nend\n"
unfolding replies commands_from line_step closing_of command_of bounds_of items_of item_of_line column_of table_command eight_bytes values_on_literals
gets_and_images = refl

-- a key, and a number of each
abbrev stock : Schema
stock = record { columns = record { name = codes "id"; kind = kind.Int } ∷ record { name = codes "qty"; kind = kind.Int } ∷ []; keys = 1 }

-- the code of the key 1
abbrev key_of_one : List ℕ
key_of_one = 128 ∷ 0 ∷ 0 ∷ 0 ∷ 0 ∷ 0 ∷ 0 ∷ 1 ∷ []

-- the line of an upsert
pub upsert_line : item_of_line (codes " ups 1,add,qty,5\r") ≡ Some (line.Ups (codes "1" ∷ codes "add" ∷ codes "qty" ∷ codes "5" ∷ []))
unfolding item_of_line values_on_literals
upsert_line = refl

-- its message, to the code of the key, carries the default row of the key
pub upsert_message : read_message stock 1 (line.Ups (codes "1" ∷ codes "add" ∷ codes "qty" ∷ codes "5" ∷ []))
    ≡ Ok (key_of_one, message.Ups (record { base = value.Int (pos 1) ∷ value.Int (pos 0) ∷ []; ops = op.Add 1 (pos 5) ∷ [] }))
unfolding eight_bytes values_on_literals
upsert_message = refl

-- the line of an image for it, with one operation, with two, and with one on no column
pub upsert_waits : message_line row_text (change_text stock.columns) [] (key_of_one, message.Ups (record { base = value.Int (pos 1) ∷ value.Int (pos 0) ∷ []; ops = op.Add 1 (pos 5) ∷ [] }))
    ≡ codes "~ 8000000000000001 add,qty,5\n"
unfolding values_on_literals
upsert_waits = refl

pub operations_wait : message_line row_text (change_text stock.columns) (codes "  ") (key_of_one, message.Ups (record { base = []; ops = op.Set 1 (value.Int (pos 7)) ∷ op.Add 1 (pos 5) ∷ [] }))
    ≡ codes "  ~ 8000000000000001 set,qty,7,add,qty,5\n"
unfolding values_on_literals
operations_wait = refl

pub no_column : message_line row_text (change_text stock.columns) [] (key_of_one, message.Ups (record { base = []; ops = op.Add 2 (pos 5) ∷ [] })) ≡ codes "~ 8000000000000001 add,,5\n"
unfolding values_on_literals
no_column = refl

-- a buffer that is exactly full stays: two upserts of one key are two messages
pub capacity_is_not_over : run (codes "table 4 3 2 1 id:int qty:int\nbatch\nput 1,10\nput 2,20\nput 3,30\nput 4,40\nend\nbatch\nups 1,add,qty,5\nups 1,add,qty,5\nput 4,0\nend\nimage primary\nget 1\n")
    ≡ codes "table 2\nbatch 4\nbatch 3\nimage primary height 2\ninner 2 3\n  ~ 8000000000000001 add,qty,5\n  ~ 8000000000000001 add,qty,5\n  + 8000000000000004 4,0\n  leaf 2\n    = 8000000000000001 1,10\n    = 8000000000000002 2,20\n  | 8000000000000003\n  leaf 2\n    = 8000000000000003 3,30\n    = 8000000000000004 4,40\nend\nrow 1,20\n"
unfolding replies commands_from line_step closing_of command_of bounds_of items_of item_of_line column_of table_command eight_bytes values_on_literals
capacity_is_not_over = refl

-- buffers in bytes: 25 and 25 stay; for 25 and 44 the right child is flushed; for 50 and 27 the left one, though three messages are pending for the right one
pub buffer_in_bytes : run (codes "table 4 60b 2 1 id:int qty:int\nbatch\nput 1,10\nput 2,20\nput 3,30\nput 4,40\nend\nbatch\nput 1,11\nput 4,41\nend\nimage primary\nbatch\nups 3,add,qty,1\nend\nimage primary\nbatch\nput 2,21\ndel 3\ndel 4\ndel 3\nend\nimage primary\n")
    ≡ codes "table 2\nbatch 4\nbatch 2\nimage primary height 2\ninner 2 2\n  + 8000000000000001 1,11\n  + 8000000000000004 4,41\n  leaf 2\n    = 8000000000000001 1,10\n    = 8000000000000002 2,20\n  | 8000000000000003\n  leaf 2\n    = 8000000000000003 3,30\n    = 8000000000000004 4,40\nend\nbatch 1\nimage primary height 2\ninner 2 1\n  + 8000000000000001 1,11\n  leaf 2\n    = 8000000000000001 1,10\n    = 8000000000000002 2,20\n  | 8000000000000003\n  leaf 2\n    = 8000000000000003 3,31\n    = 8000000000000004 4,41\nend\nbatch 4\nimage primary height 2\ninner 2 3\n  - 8000000000000003\n  - 8000000000000003\n  - 8000000000000004\n  leaf 2\n    = 8000000000000001 1,11\n    = 8000000000000002 2,21\n  | 8000000000000003\n  leaf 2\n    = 8000000000000003 3,31\n    = 8000000000000004 4,41\nend\n"
unfolding replies commands_from line_step closing_of command_of bounds_of items_of item_of_line column_of table_command eight_bytes values_on_literals
buffer_in_bytes = refl

-- for equal weights the left child is flushed
pub bytes_over_capacity : run (codes "table 4 49b 2 1 id:int qty:int\nbatch\nput 1,10\nput 2,20\nput 3,30\nput 4,40\nend\nbatch\nput 1,12\nput 4,42\nend\nimage primary\n")
    ≡ codes "table 2\nbatch 4\nbatch 2\nimage primary height 2\ninner 2 1\n  + 8000000000000004 4,42\n  leaf 2\n    = 8000000000000001 1,12\n    = 8000000000000002 2,20\n  | 8000000000000003\n  leaf 2\n    = 8000000000000003 3,30\n    = 8000000000000004 4,40\nend\n"
unfolding replies commands_from line_step closing_of command_of bounds_of items_of item_of_line column_of table_command eight_bytes values_on_literals
bytes_over_capacity = refl

-- words that are no capacity of a buffer, and capacities outside the limits
pub refusals_of_buffers : run (codes "table 4 b 2 1 id:int\ntable 4 60B 2 1 id:int\ntable 4 60bb 2 1 id:int\ntable 4 b60 2 1 id:int\ntable 4 -60b 2 1 id:int\ntable 4 1234567890b 2 1 id:int\ntable 4 60 b 2 1 id:int\ntable 4b 3 2 1 id:int\ntable 4 3 2b 1 id:int\ntable 4 3 2 1b id:int\ntable 4 0b 2 1 id:int\ntable 4 000000000b 2 1 id:int\ntable 4 1048577b 2 1 id:int\ntable 4 999999999b 2 1 id:int\ntable 4 4097 2 1 id:int\ntable 3 60b 2 1 id:int\ntable 4 60b 1 1 id:int\ntable 4 0b 2 1 id:int id:int\ntable 4 001048576b 2 1 id:int\ntable 4 60b 2 1 id:int\ntable 4 60bb 2 1 id:int\n")
    ≡ codes "refused 1 Syntax\nrefused 1 Syntax\nrefused 1 Syntax\nrefused 1 Syntax\nrefused 1 Syntax\nrefused 1 Syntax\nrefused 1 Syntax\nrefused 1 Syntax\nrefused 1 Syntax\nrefused 1 Syntax\nrefused 20 BadShape\nrefused 20 BadShape\nrefused 20 BadShape\nrefused 20 BadShape\nrefused 20 BadShape\nrefused 20 BadShape\nrefused 20 BadShape\nrefused 5 BadSchema\ntable 1\nrefused 4 TableExists\nrefused 1 Syntax\n"
unfolding replies commands_from line_step closing_of command_of bounds_of items_of item_of_line column_of table_command eight_bytes values_on_literals
refusals_of_buffers = refl

-- an addition stops at both ends of 64 bits, and a new key begins with its default row
pub adds_saturate : run (codes "table 4 3 2 1 id:int qty:int\nbatch\nput 1,9223372036854775807\nput 2,-9223372036854775808\nend\nbatch\nups 1,add,qty,1\nups 2,add,qty,-1\nups 9,add,qty,1\nend\nscan primary\ngo\n")
    ≡ codes "table 2\nbatch 2\nbatch 3\nrow 1,9223372036854775807\nrow 2,-9223372036854775808\nrow 9,1\nrows 3\n"
unfolding replies commands_from line_step closing_of command_of bounds_of items_of item_of_line column_of table_command eight_bytes values_on_literals
adds_saturate = refl

-- the operations of one upsert, one after the other
pub operations_in_turn : run (codes "table 4 3 2 1 id:int qty:int\nbatch\nups 9,set,qty,5,add,qty,-2\nend\nget 9\n")
    ≡ codes "table 2\nbatch 1\nrow 9,3\n"
unfolding replies commands_from line_step closing_of command_of bounds_of items_of item_of_line column_of table_command eight_bytes values_on_literals
operations_in_turn = refl

-- faults of messages: their length, a field, the kind for add, a column of the key, the word; and a batch without messages
pub refusals_of_batches : run (codes "table 4 3 2 1 id:int city:text qty:int\ntable 4 3 2 1 a:int\nbatch\nput 1,a\nend\nbatch\nput 1,a\nput x,a,1\nend\nbatch\nups 1,add,city,2\nend\nbatch\nups 1,set,id,2\nend\nbatch\nups 1,mul,qty,2\nend\nbatch\nend\n")
    ≡ codes "table 3\nrefused 4 TableExists\nrefused 7 BadLength 1\nrefused 6 BadField 2\nrefused 16 NotInt\nrefused 15 NoSuchColumn\nrefused 6 BadField 1\nbatch 0\n"
unfolding replies commands_from line_step closing_of command_of bounds_of items_of item_of_line column_of table_command eight_bytes values_on_literals
refusals_of_batches = refl

-- a flag and a text as the key, in letters of either case; an upsert makes a row
pub compound_key : run (codes "table 4 3 2 2 f:flag t:text n:int\nbatch\nput TRUE,,1\nput false,b,2\nput false,,3\nend\nscan primary\ngo\nbatch\nups true,x,add,n,4\nend\nget true,x\n")
    ≡ codes "table 3\nbatch 3\nrow false,,3\nrow false,b,2\nrow true,,1\nrows 3\nbatch 1\nrow true,x,4\n"
unfolding replies commands_from line_step closing_of command_of bounds_of items_of item_of_line column_of table_command eight_bytes values_on_literals chars encode_utf8 is_utf8
compound_key = refl

-- a text with a zero byte and empty texts as keys, and the codes of the keys
pub text_key_order : run (codes "table 4 3 8 2 name:text n:int\nbatch\nput a,1\nput a" ++ (0 ∷ codes ",0\nput ,-1\nput ,-9223372036854775808\nend\nscan primary\ngo\nimage primary\n"))
    ≡ codes "table 2\nbatch 4\nrow ,-9223372036854775808\nrow ,-1\nrow a,1\nrow a" ++
    (0 ∷ codes ",0\nrows 4\nimage primary height 1\nleaf 4\n  = 00010000000000000000 ,-9223372036854775808\n  = 00017fffffffffffffff ,-1\n  = 6100018000000000000001 a,1\n  = 6100ff00018000000000000000 a" ++ (0 ∷ codes ",0\nend\n"))
unfolding replies commands_from line_step closing_of command_of bounds_of items_of item_of_line column_of table_command eight_bytes values_on_literals chars encode_utf8 is_utf8
text_key_order = refl

-- ---- ranges and sums

-- rows of a range whose first columns are equal to its lower bound are in it, and those equal to its upper bound are not; groups by one column, of all rows and
-- of a range, and a sum beyond 64 bits
pub grouped_sums : run (codes "table 4 3 2 2 g:int id:int qty:int\nbatch\nput 1,1,5\nput 1,2,6\nput 1,3,7\nput 1,4,8\nput 2,1,1\nput 3,1,9223372036854775807\nput 3,2,9223372036854775807\nend\nsums primary 1 qty\ngo\nsums primary 1 qty\nfrom 1,2\nto 1,4\ngo\nscan primary\nfrom 1\nto 2\ngo\n")
    ≡ codes "table 3\nbatch 7\nsum 4 26 1\nsum 1 1 2\nsum 2 18446744073709551614 3\nsums 3\nsum 2 13 1\nsums 1\nrow 1,1,5\nrow 1,2,6\nrow 1,3,7\nrow 1,4,8\nrows 4\n"
unfolding replies commands_from line_step closing_of command_of bounds_of sums_command items_of item_of_line column_of table_command eight_bytes values_on_literals
grouped_sums = refl

-- refusals of ranges and sums: the lowest refusal of the bounds comes first; for the columns, `NoSuchColumn` comes before `NotInt`
pub refusals_of_ranges : run (codes "table 4 3 2 1 id:int city:text qty:int\nsums primary 1 city\ngo\nsums primary 2 qty\ngo\nsums primary 0 city\ngo\nsums primary 1 nope\ngo\nsums primary 9 nope\nto x\ngo\nscan primary\nfrom 1,2\ngo\nscan primary\nto x\ngo\nscan primary\nfrom 1,2\nto x\ngo\nscan nope\nto x\ngo\nscan primary\nto 1\nfrom 1\ngo\n")
    ≡ codes "table 3\nrefused 16 NotInt\nrefused 15 NoSuchColumn\nrefused 15 NoSuchColumn\nrefused 15 NoSuchColumn\nrefused 6 BadField 2\nrefused 7 BadLength 1\nrefused 6 BadField 2\nrefused 6 BadField 2\nrefused 8 NoSuchTree\nrefused 1 Syntax\n"
unfolding replies commands_from line_step closing_of command_of bounds_of sums_command items_of item_of_line column_of table_command eight_bytes values_on_literals
refusals_of_ranges = refl

-- a range whose bounds are in the wrong order is empty, and an index has neither rows nor sums to show
pub empty_ranges : run (codes "table 4 3 2 1 id:int qty:int\nbatch\nput 1,10\nput 2,20\nput 3,30\nput 4,40\nend\nscan primary\nfrom 4\nto 2\ngo\nindex q on qty\nscan q\nfrom 1,2,3\ngo\nscan q\nfrom 1,2\ngo\nsums q 9 nope\ngo\n")
    ≡ codes "table 2\nbatch 4\nrows 0\nindex q\nrefused 7 BadLength 1\nrefused 11 Building\nrefused 11 Building\n"
unfolding replies commands_from line_step closing_of command_of bounds_of sums_command index_command names_of after_words items_of item_of_line column_of table_command eight_bytes values_on_literals
empty_ranges = refl

-- ---- logs

-- replies of 8, 17 and 5 bytes: a table, a refusal and a row that there is not
pub ends_of_replies : logged (λ (log : List (ℕ × ReplyKind)) end kind. log ++ (end, kind) ∷ []) [] 0 None (commands (codes "table 4 3 2 1 id:int\nnope\nget 1\n"))
    ≡ (8, Changed) ∷ (25, Refused) ∷ (30, Read) ∷ []
unfolding logged commands_from line_step closing_of command_of bounds_of items_of item_of_line column_of table_command eight_bytes values_on_literals
ends_of_replies = refl

-- ---- images of indexes

-- the line of an index value with included columns, and without
pub entry_line : leaf_row_line entry_text [] (key_of_one, value.Text (codes "oslo") ∷ value.Int (pos 7) ∷ []) ≡ codes "= 8000000000000001 oslo,7\n"
unfolding values_on_literals
entry_line = refl

pub key_alone : leaf_row_line entry_text (codes "  ") (key_of_one, []) ≡ codes "  = 8000000000000001\n"
unfolding values_on_literals
key_alone = refl

-- an upsert of an index value, which is printed like a put
pub entry_upsert : message_line entry_text entry_text [] (key_of_one, message.Ups (value.Int (pos 7) ∷ [])) ≡ codes "~ 8000000000000001 7\n"
unfolding values_on_literals
entry_upsert = refl

-- an index of two leaves, with a put of no included column and a del that are pending
pub index_image : entry_image (codes "by_city")
    (inner (node [] (leaf ((key_of_one, value.Int (pos 7) ∷ []) ∷ [])) (node (2 ∷ []) (leaf ((2 ∷ [], []) ∷ [])) none)) ((key_of_one, message.Put []) ∷ (2 ∷ [], message.Del) ∷ []))
    ≡ codes "image by_city height 2\ninner 2 2\n  + 8000000000000001\n  - 02\n  leaf 1\n    = 8000000000000001 7\n  | 02\n  leaf 1\n    = 02\nend\n"
unfolding values_on_literals
index_image = refl
