-- A tree as text.
use Rattle.std.specs.Prelude.{ℕ, ◌-◌, ◌^◌, min, List, [], ◌∷◌, ◌++◌, length, map, flat_map, get_or, codes, decimal}
use Rattle.bt_row.specs.RecordTexts.{record_text}
use Rattle.bt_value.specs.Values.{text_of}
use Rattle.bt_row.specs.Arithmetic.{action_of}
use Rattle.bt_row.specs.Ops.{Change, argument_of, place_in, word_in}
use Rattle.bt_row.specs.declared.operations.op.Op.{Op}
use Rattle.bt_row.specs.declared.rows.schema.Column.{Column}
use Rattle.bt_value.specs.declared.value.Value.{Value}
use Rattle.bt_value.specs.declared.value.Value.TheVariants as value
use Rattle.bt_value.specs.Hex.{hex_text}
use Rattle.bt_message.specs.declared.message.Message.{Message}
use Rattle.bt_message.specs.declared.message.Message.TheVariants as message
use Rattle.bt_keycode.specs.Keys.{Key}
use Rattle.bt_form.specs.Trees.{Tree, leaf, inner, Nodes, none, node, children, height}

-- the indent one level deeper: two more spaces
abbrev pub deeper : List ℕ → List ℕ
deeper indent = indent ++ codes "  "

-- the start of a line: the indent, a mark and a key in hexadecimal
abbrev pub key_start : List ℕ → List ℕ → Key → List ℕ
key_start indent mark key = indent ++ (mark ++ (codes " " ++ hex_text key))

-- a line with a mark, a key, and the text after the key
abbrev pub key_line : List ℕ → List ℕ → Key → List ℕ → List ℕ
key_line indent mark key text = key_start indent mark key ++ (text ++ codes "\n")

-- the line of a pivot
abbrev pub pivot_line : List ℕ → Key → List ℕ
pivot_line indent pivot = key_line indent (codes "|") pivot []

-- the first line of a leaf, and of an inner node
abbrev pub leaf_line : List ℕ → ℕ → List ℕ
leaf_line indent rows = indent ++ (codes "leaf " ++ (decimal rows ++ codes "\n"))

abbrev pub inner_line : List ℕ → ℕ → ℕ → List ℕ
inner_line indent children messages = indent ++ (codes "inner " ++ (decimal children ++ (codes " " ++ (decimal messages ++ codes "\n"))))

-- the first line; the height is at most the largest number of 64 bits
abbrev pub first_line : List ℕ → ℕ → List ℕ
first_line name high = codes "image " ++ (name ++ (codes " height " ++ (decimal (min high (2 ^ 64 - 1)) ++ codes "\n")))

-- ---- a tree of any values, by the text after the key of a value, with the space before it

module _ {V : Type 0} (value_text : V → List ℕ) where
  -- the line of a row of a leaf
  abbrev pub leaf_row_line : List ℕ → Key × V → List ℕ
  leaf_row_line indent row = key_line indent (codes "=") row.0 (value_text row.1)

  -- and by the text after the key of an upsert, with the space before it
  module _ {D : Type 0} (delta_text : D → List ℕ) where
    -- the line of a message
    abbrev pub message_line : List ℕ → Key × Message V D → List ℕ
    message_line indent (key, message.Put value) = key_line indent (codes "+") key (value_text value)
    message_line indent (key, message.Del) = key_line indent (codes "-") key []
    message_line indent (key, message.Ups delta) = key_line indent (codes "~") key (delta_text delta)

    -- The lines of a node after its indent, and of what is below it: its rows, or its messages and then its children. A pivot precedes each child except the
    -- first.
    abbrev mutual
      pub node_text : List ℕ → Tree V (Message V D) → List ℕ
      node_text indent (leaf rows) = leaf_line indent (length rows) ++ flat_map (leaf_row_line (deeper indent)) rows
      node_text indent (inner ns buffer) =
          inner_line indent (length (children ns)) (length buffer) ++ (flat_map (message_line (deeper indent)) buffer ++ children_text (deeper indent) ns)

      pub children_text : List ℕ → Nodes V (Message V D) → List ℕ
      children_text indent none = []
      children_text indent (node pivot tree ns) = node_text indent tree ++ others_text indent ns

      pub others_text : List ℕ → Nodes V (Message V D) → List ℕ
      others_text indent none = []
      others_text indent (node pivot tree ns) = pivot_line indent pivot ++ (node_text indent tree ++ others_text indent ns)

    -- a tree under its name
    abbrev pub image_text : List ℕ → Tree V (Message V D) → List ℕ
    image_text name tree = first_line name (height tree) ++ (node_text [] tree ++ codes "end\n")

-- ---- a tree of rows

-- a space and the record of values
abbrev pub row_text : List Value → List ℕ
row_text values = codes " " ++ record_text (map text_of values)

-- an operation as values: its word, the name of its column among these, its argument
abbrev pub values_of_op : List Column → Op → List Value
values_of_op columns op = value.Text (word_in (action_of op)) ∷ value.Text (get_or (map (λ c. c.name) columns) (place_in (action_of op)) []) ∷ argument_of op ∷ []

-- the operations of a change of a row with these columns, as one record
abbrev pub change_text : List Column → Change → List ℕ
change_text columns change = row_text (flat_map (values_of_op columns) change.ops)

-- ---- a tree of an index

-- a space and the record of the included columns, if there are any
abbrev pub entry_text : List Value → List ℕ
entry_text [] = []
entry_text (first ∷ others) = row_text (first ∷ others)
