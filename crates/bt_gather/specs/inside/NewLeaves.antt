-- Messages that put new rows, and leaves that are made part by part.
use Rattle.std.specs.Prelude.{ℕ, ◌+◌, ◌*◌, ◌/◌, ◌%◌, min, Bool, ◌&&◌, ◌==◌, false, true, List, [], ◌∷◌, ◌++◌, length}
use Rattle.std.specs.declared.option.Option.{Option}
use Rattle.std.specs.declared.option.Option.TheVariants.{None, Some}
use Rattle.bt_keycode.specs.Keys.{Key, is_before}
use Rattle.bt_message.specs.declared.message.Message.{Message}
use Rattle.bt_message.specs.declared.message.Message.TheVariants.{Put, Del, Ups}
use Rattle.bt_form.specs.Flushes.{pivot_first}
use Rattle.bt_form.specs.Messages.{Messages}
use Rattle.bt_form.specs.Trees.{Siblings, Tree}
use Rattle.bt_form.specs.Walks.{is_leaf, rows_of}
use Rattle.bt_plan.specs.Pieces.{Pieces}

-- whether a key comes after another one, if there is one
abbrev pub is_after : Option Key → Key → Bool
is_after None k = true
is_after (Some last) k = is_before last k

module _ {V D : Type 0} where
  abbrev pub is_put : Message V D → Bool
  is_put (Put v) = true
  is_put Del = false
  is_put (Ups d) = false

  -- whether a message is a put of a key after this one
  abbrev pub is_new_row : Option Key → Key × Message V D → Bool
  is_new_row last m = is_put m.1 && is_after last m.0

  -- whether messages are puts with strictly rising keys, all of them after this key
  abbrev pub are_new_rows : Option Key → Messages (Message V D) → Bool
  are_new_rows last [] = true
  are_new_rows last (m ∷ ms) = is_new_row last m && are_new_rows (Some m.0) ms

-- whether a tree is one leaf without rows
abbrev pub is_bare : {V M : Type 0} → Tree V M → Bool
is_bare tree = is_leaf tree && (length (rows_of tree) == 0)

-- the number of items in the first m of k even parts of n items
abbrev pub first_items : ℕ → ℕ → ℕ → ℕ
first_items n k m = m * (n / k) + min m (n % k)

-- the siblings of each piece, side by side, with this key before the first of them
abbrev pub led_pieces : {V M : Type 0} → List Key → Pieces V M → Siblings V M
led_pieces [] pieces = []
led_pieces (k ∷ ks) [] = []
led_pieces (k ∷ ks) (p ∷ pieces) = pivot_first k p.1 ++ led_pieces ks pieces
