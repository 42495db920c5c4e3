-- The effects of messages on rows.
use Rattle.std.specs.Prelude.{◌≡◌, cond, not, IsTrue, List, [], ◌∷◌, Option, Some, None}
use Rattle.std.specs.FinMap.{find, is_sorted, put}
use Rattle.std.specs.FinMap.Entries.{where_key}
use Rattle.std.specs.Ordering.{eq_by_cmp}
use Rattle.bt_keycode.specs.Keys.{Key, key_cmp}
use Rattle.bt_message.specs.Messages.{Messages}
use Rattle.bt_message.specs.declared.message.Message.{Message}
use Rattle.bt_message.specs.declared.message.Message.TheVariants.{Put, Del, Ups}

-- the effect of a message on the value at its key: put gives its own, del none, an upsert the result of its change on the old one or on none
abbrev pub effect_of : {V D : Type 0} → (Option V → D → V) → Option V → Message V D → Option V
effect_of merged old (Put value) = Some value
effect_of merged old Del = None
effect_of merged old (Ups delta) = Some (merged old delta)

-- what an upsert of an index value gives: the new value, with or without an old one
abbrev pub merged_entry : {E : Type 0} → Option E → E → E
merged_entry old new = new

-- a map: keys, in rising order, with their values
abbrev pub Rows : Type 0 → Type 0
Rows V = List (Key × V)

-- the rows with this value at a key, or with none there
abbrev pub with_value : {V : Type 0} → Key → Option V → Rows V → Rows V
with_value k None rows = where_key key_cmp (λ x. not (eq_by_cmp key_cmp k x)) rows
with_value k (Some v) rows = put key_cmp k v rows

-- A message gives a new value, or none, for the old one of its key: that is its effect.
module _ {V M : Type 0} (effect : Option V → M → Option V) where
  -- the rows after the messages in order, each replacing the value of its key
  abbrev pub rows_after : Messages M → Rows V → Rows V
  rows_after [] rows = rows
  rows_after (m ∷ ms) rows = rows_after ms (with_value m.0 (effect (find key_cmp m.0 rows) m.1) rows)

  -- the value at a key after the messages: those to other keys leave it as it is
  abbrev pub value_after : Key → Messages M → Option V → Option V
  value_after k [] old = old
  value_after k (m ∷ ms) old = value_after k ms (cond (eq_by_cmp key_cmp k m.0) (effect old m.1) old)

  -- one order of messages does the same to every map, sorted by key, as another one
  abbrev pub DoTheSame : Messages M → Messages M → Type 0
  DoTheSame messages others = (rows : Rows V) → IsTrue (is_sorted key_cmp rows) → rows_after messages rows ≡ rows_after others rows
