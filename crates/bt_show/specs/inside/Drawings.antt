-- The lines of a node by its parts, as they are written.
use Rattle.std.specs.Prelude.{ℕ, zero, suc, max, List, [], ◌∷◌, ◌++◌, length, flat_map, Option, Some, None, if◌then◌else◌}
use Rattle.bt_keycode.specs.Keys.{Key}
use Rattle.bt_message.specs.declared.message.Message.{Message}
use Rattle.bt_form.specs.Trees.{Siblings, Tree, height}
use Rattle.bt_form.specs.Walks.{children_of, is_leaf, messages_of, rows_of}
use Rattle.bt_show.specs.Images.{inner_line, leaf_line, leaf_row_line, message_line, node_text, pivot_line}

-- the line of the pivot before a child at a place, except before the first
abbrev pub pivot_text : {X : Type 0} → List ℕ → ℕ → Option (Key × X) → List ℕ
pivot_text indent place None = []
pivot_text indent zero (Some child) = []
pivot_text indent (suc place) (Some child) = pivot_line indent child.0

-- for the text after the key of a value, and after that of an upsert
module _ {V D : Type 0} (value_text : V → List ℕ) (delta_text : D → List ℕ) where
  -- the lines of a node without those of its children
  abbrev pub own_text : List ℕ → List ℕ → Tree V (Message V D) → List ℕ
  own_text indent below t =
      if is_leaf t then leaf_line indent (length (rows_of t)) ++ flat_map (leaf_row_line value_text below) (rows_of t)
      else inner_line indent (length (children_of t)) (length (messages_of t)) ++ flat_map (message_line value_text delta_text below) (messages_of t)

  -- the lines of a child at a place
  abbrev pub child_text : List ℕ → ℕ → Key × Tree V (Message V D) → List ℕ
  child_text indent place child = pivot_text indent place (Some child) ++ node_text value_text delta_text indent child.1

  -- the lines of children from a place on
  abbrev pub siblings_text : List ℕ → ℕ → Siblings V (Message V D) → List ℕ
  siblings_text indent place [] = []
  siblings_text indent place (x ∷ xs) = child_text indent place x ++ siblings_text indent (suc place) xs

-- the height of the highest
abbrev pub highest : {V M : Type 0} → Siblings V M → ℕ
highest [] = 0
highest (x ∷ xs) = max (height x.1) (highest xs)
