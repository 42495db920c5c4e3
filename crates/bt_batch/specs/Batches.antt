-- The messages that the records of a batch encode.
use Rattle.std.specs.Prelude.{ℕ, ◌+◌, nat_lt, List, [], ◌∷◌, ◌++◌, length, take, Result}
use Rattle.std.specs.List.{filter_map}
use Rattle.std.specs.Result.{result_err, result_ok}
use Rattle.bt_value.specs.Results.{map_ok, one_if}
use Rattle.bt_row.specs.Ops.{Change, default_row, upsert_as}
use Rattle.bt_row.specs.Schemas.{Schema, read_as}
use Rattle.bt_row.specs.declared.operations.op.Op.{Op}
use Rattle.bt_value.specs.declared.refusal.Refusal.{Refusal}
use Rattle.bt_value.specs.declared.refusal.Refusal.TheVariants.{TooMany}
use Rattle.bt_value.specs.declared.value.Value.{Value}
use Rattle.bt_keycode.specs.Codes.{code_of}
use Rattle.bt_keycode.specs.Keys.{Key}
use Rattle.bt_message.specs.declared.message.Message.{Message}
use Rattle.bt_message.specs.declared.message.Message.TheVariants as message
use Rattle.bt_rowtype.specs.declared.item.Item.{Item}
use Rattle.bt_rowtype.specs.declared.item.Item.TheVariants.{Put, Del, Ups}

-- a message to the key of a row, and messages
abbrev pub KeyedMessage : Type 0
KeyedMessage = Key × Message (List Value) Change

abbrev pub RowMessages : Type 0
RowMessages = List KeyedMessage

-- the values of the key that fields encode in a table, or their refusal as this item
abbrev pub read_key : Schema → ℕ → List (List ℕ) → Result (List Value) Refusal
read_key schema item fields = read_as (take schema.keys schema.columns) item fields

-- the message to put a row, which goes to the code of its key
abbrev pub put_of : ℕ → List Value → KeyedMessage
put_of keys row = (code_of (take keys row), message.Put row)

-- the message to remove the row of a key
abbrev pub del_of : List Value → KeyedMessage
del_of key = (code_of key, message.Del)

-- the message to change the row of a key, which carries the default row of the key
abbrev pub ups_of : Schema → List Value × List Op → KeyedMessage
ups_of schema upsert = (code_of upsert.0, message.Ups (record { base = default_row schema upsert.0; ops = upsert.1 }))

-- the message that a record encodes in a table, or its refusal as this item
abbrev pub read_message : Schema → ℕ → Item → Result KeyedMessage Refusal
read_message schema item (Put fields) = map_ok (put_of schema.keys) (read_as schema.columns item fields)
read_message schema item (Del fields) = map_ok del_of (read_key schema item fields)
read_message schema item (Ups fields) = map_ok (ups_of schema) (upsert_as schema item fields)

-- the messages that the records of a batch encode, or their refusals, counted from an item on
abbrev pub read_batch : Schema → ℕ → List Item → List (Result KeyedMessage Refusal)
read_batch schema item [] = []
read_batch schema item (line ∷ lines) = read_message schema item line ∷ read_batch schema (item + 1) lines

-- the messages of a batch
abbrev pub messages_of : Schema → List Item → RowMessages
messages_of schema items = filter_map result_ok (read_batch schema 1 items)

-- the largest number of messages in a batch
abbrev pub most_messages : ℕ
most_messages = 65536

-- the refusals of records, the first of which is item 1
abbrev pub record_refusals : Schema → List Item → List Refusal
record_refusals schema items = filter_map result_err (read_batch schema 1 items)

-- the refusals that apply to a batch: those of its records, and that of too many messages
abbrev pub batch_refusals : Schema → List Item → List Refusal
batch_refusals schema items = record_refusals schema items ++ one_if (nat_lt most_messages (length items)) TooMany
