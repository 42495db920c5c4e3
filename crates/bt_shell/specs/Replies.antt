-- The texts of replies.
use Rattle.std.specs.Prelude.{ℕ, Bool, true, false, List, [], ◌++◌, length, map, flat_map, Option, Some, None, codes, decimal}
use Rattle.std.specs.Fmt.{signed_decimal}
use Rattle.bt_row.specs.RecordTexts.{record_text}
use Rattle.bt_value.specs.Refusals.{item_of, name_of, number_of}
use Rattle.bt_value.specs.Values.{text_of}
use Rattle.bt_value.specs.declared.refusal.Refusal.{Refusal}
use Rattle.bt_value.specs.declared.value.Value.{Value}
use Rattle.bt_table.specs.declared.reply.Reply.{Reply}
use Rattle.bt_table.specs.declared.reply.Reply.TheVariants.{Batch, Built, Created, Drained, Dropped, Loaded, Rebuilt, Row}
use Rattle.bt_table.specs.declared.reply.SentCount.{SentCount}
use Rattle.bt_show.specs.declared.groups.Sum.{Sum}

-- a word, a number and a line end
abbrev pub count_line : List ℕ → ℕ → List ℕ
count_line word count = word ++ (decimal count ++ codes "\n")

-- the line of a row
abbrev pub row_line : List Value → List ℕ
row_line row = codes "row " ++ (record_text (map text_of row) ++ codes "\n")

-- the line of a group: the number of its rows, the sum, and the columns that rows are grouped by
abbrev pub sum_line : Sum → List ℕ
sum_line sum = codes "sum " ++ (decimal sum.count ++ (codes " " ++ (signed_decimal sum.total ++ (codes " " ++ (record_text (map text_of sum.group) ++ codes "\n")))))

-- the lines of all rows, followed by their number
abbrev pub scan_reply : List (List Value) → List ℕ
scan_reply rows = flat_map row_line rows ++ count_line (codes "rows ") (length rows)

-- the lines of all groups, followed by their number
abbrev pub sums_reply : List Sum → List ℕ
sums_reply sums = flat_map sum_line sums ++ count_line (codes "sums ") (length sums)

-- the row of a key, if there is one
abbrev pub row_reply : Option (List Value) → List ℕ
row_reply None = codes "none\n"
row_reply (Some row) = row_line row

-- a space, the name of an index and the number of messages that it was sent
abbrev pub sent_text : SentCount → List ℕ
sent_text sent = codes " " ++ (sent.name ++ (codes ":" ++ decimal sent.count))

-- the number of messages of a batch, and the number that each index was sent
abbrev pub batch_reply : ℕ → List SentCount → List ℕ
batch_reply count sent = codes "batch " ++ (decimal count ++ (flat_map sent_text sent ++ codes "\n"))

-- a word, a name and a line end
abbrev pub name_line : List ℕ → List ℕ → List ℕ
name_line word name = word ++ (name ++ codes "\n")

-- a space and whether an index is complete
abbrev pub progress_text : Bool → List ℕ
progress_text true = codes " complete\n"
progress_text false = codes " building\n"

-- the name of an index, the number of rows that a step of its building read, and whether it is complete
abbrev pub build_line : List ℕ → ℕ → Bool → List ℕ
build_line name read complete = codes "build " ++ (name ++ (codes " " ++ (decimal read ++ progress_text complete)))

-- the text of the reply to a call on a table
abbrev pub reply_text : Reply → List ℕ
reply_text (Batch count sent) = batch_reply count sent
reply_text (Row row) = row_reply row
reply_text (Created name) = name_line (codes "index ") name
reply_text (Built name read complete) = build_line name read complete
reply_text (Dropped name) = name_line (codes "dropped ") name
reply_text (Loaded count) = count_line (codes "loaded ") count
reply_text (Drained name) = name_line (codes "drained ") name
reply_text (Rebuilt name) = name_line (codes "rebuilt ") name

-- a space and the item of a refusal, if it has one
abbrev pub item_text : Option ℕ → List ℕ
item_text None = []
item_text (Some item) = codes " " ++ decimal item

-- the reply to a refused command
abbrev pub refused_text : Refusal → List ℕ
refused_text refusal = codes "refused " ++ (decimal (number_of refusal) ++ (codes " " ++ (name_of refusal ++ (item_text (item_of refusal) ++ codes "\n"))))
