-- The rows of the tests of indexes: two ints, an id, which is the key, and a quantity.
use Rattle.std.specs.Prelude.{ℤ, pos, List, [], ◌∷◌}
use Rattle.bt_value.specs.declared.value.Kind.{Kind}
use Rattle.bt_value.specs.declared.value.Kind.TheVariants as kind
use Rattle.bt_value.specs.declared.value.Value.{Value}
use Rattle.bt_value.specs.declared.value.Value.TheVariants as value
use Rattle.bt_keycode.specs.Codes.{code_of}
use Rattle.bt_keycode.specs.Keys.{Key}
use Rattle.bt_message.specs.Effects.{Rows, rows_after}
use Rattle.bt_message.specs.Messages.{Messages}
use Rattle.bt_message.specs.declared.message.Message.TheVariants.{Put, Del}
use Rattle.bt_fanout.specs.Effects.{RowMessage, row_effect}

-- the kinds of the columns
abbrev pub kinds : List Kind
kinds = kind.Int ∷ kind.Int ∷ []

-- the key of an id
abbrev pub key_of : ℤ → Key
key_of id = code_of (value.Int id ∷ [])

-- the row of an id and a quantity
abbrev pub row_of : ℤ → ℤ → List Value
row_of id quantity = value.Int id ∷ value.Int quantity ∷ []

-- a put of a row under its key
abbrev pub put_of : ℤ → ℤ → Key × RowMessage
put_of id quantity = (key_of id, Put (row_of id quantity))

-- a del of an id
abbrev pub del_of : ℤ → Key × RowMessage
del_of id = (key_of id, Del)

-- the batch that puts the rows 1,10 2,20 3,30
abbrev pub three_puts : Messages RowMessage
three_puts = put_of (pos 1) (pos 10) ∷ put_of (pos 2) (pos 20) ∷ put_of (pos 3) (pos 30) ∷ []

-- the rows after it
abbrev pub three_rows : Rows (List Value)
three_rows = rows_after row_effect three_puts []

-- a batch on them: put 1,11, del 2, put 3,30, put 4,40
abbrev pub batch : Messages RowMessage
batch = put_of (pos 1) (pos 11) ∷ del_of (pos 2) ∷ put_of (pos 3) (pos 30) ∷ put_of (pos 4) (pos 40) ∷ []
