-- What an index selects of a map, and the messages that keep it equal to that.
use Rattle.std.specs.Prelude.{◌≡◌, Bool, [], ◌∷◌, ◌++◌, Option, Some, None, if◌then◌else◌}
use Rattle.std.specs.FinMap.{find, put}
use Rattle.std.specs.FinMap.Entries.{where_key}
use Rattle.std.specs.Ordering.{eq_by_cmp}
use Rattle.bt_keycode.specs.Keys.{Key, key_cmp}
use Rattle.bt_message.specs.Effects.{Rows, rows_after}
use Rattle.bt_message.specs.Messages.{Messages}
use Rattle.bt_message.specs.declared.message.Message.{Message}
use Rattle.bt_message.specs.declared.message.Message.TheVariants.{Put, Del}

-- the rows of a map whose keys are covered
abbrev pub covered : {X : Type 0} → (Key → Bool) → Rows X → Rows X
covered covers = where_key key_cmp covers

-- the keys that messages name, each once and in order
abbrev pub named : {M : Type 0} → Messages M → Rows (Unit {0})
named [] = []
named (m ∷ ms) = put key_cmp m.0 tt (named ms)

-- the keys of rows
abbrev pub keys_of : {X : Type 0} → Rows X → Rows (Unit {0})
keys_of [] = []
keys_of (r ∷ rows) = (r.0, tt) ∷ keys_of rows

-- An entry is a key of the index and the value there; a row may have none.
module _ {E : Type 0} where
  -- the index with this entry too
  abbrev pub with_entry : Option (Key × E) → Rows E → Rows E
  with_entry None index = index
  with_entry (Some e) index = put key_cmp e.0 e.1 index

  -- the messages that change an index from the entry that a row had to the one that it has: none if the entries are equal, a put if they have the same key,
  -- otherwise a del of the old one and a put of the new one, as far as they exist
  abbrev pub between : {D : Type 0} → (E → E → Bool) → Option (Key × E) → Option (Key × E) → Messages (Message E D)
  between same None None = []
  between same None (Some new) = (new.0, Put new.1) ∷ []
  between same (Some old) None = (old.0, Del) ∷ []
  between same (Some old) (Some new) =
      if eq_by_cmp key_cmp old.0 new.0 then (if same old.1 new.1 then [] else (new.0, Put new.1) ∷ [])
      else (old.0, Del) ∷ (new.0, Put new.1) ∷ []

-- An index has one entry or none for a row under its key.
module _ {X E : Type 0} (entry : Key → X → Option (Key × E)) where
  -- the entry of the row that a key has, if it has one
  abbrev pub entry_in : Key → Option X → Option (Key × E)
  entry_in k None = None
  entry_in k (Some row) = entry k row

  -- the map of the entries of rows
  abbrev pub select : Rows X → Rows E
  select [] = []
  select (r ∷ rows) = with_entry (entry r.0 r.1) (select rows)

  module _ {D : Type 0} (same : E → E → Bool) where
    -- what is sent to the index for keys, with the row before and the row after of each
    abbrev pub entry_changes : (Key → Option X) → (Key → Option X) → Rows (Unit {0}) → Messages (Message E D)
    entry_changes before after [] = []
    entry_changes before after (k ∷ ks) = between same (entry_in k.0 (before k.0)) (entry_in k.0 (after k.0)) ++ entry_changes before after ks

    -- the messages of the index for a batch: for each key that the batch names and the cover covers, in key order
    abbrev pub index_messages : {M : Type 0} → (Option X → M → Option X) → (Key → Bool) → Messages M → Rows X → Messages (Message E D)
    index_messages effect covers batch map =
        entry_changes (λ k. find key_cmp k map) (λ k. find key_cmp k (rows_after effect batch map)) (covered covers (named batch))

-- ---- rows whose entries have different keys

module _ {X : Type 0} (Stands : Key → X → Type 0) where
  -- each row and its key meet a condition
  abbrev pub EachStands : Rows X → Type 0
  EachStands [] = Unit {0}
  EachStands (r ∷ rows) = Stands r.0 r.1 × EachStands rows

  -- rows that meet it under two keys have entries with two keys
  abbrev pub AreApart : {E : Type 0} → (Key → X → Option (Key × E)) → Type 0
  AreApart {E} entry = (j k : Key) (x y : X) (a b : Key × E) → Stands j x → Stands k y → entry j x ≡ Some a → entry k y ≡ Some b → a.0 ≡ b.0 → j ≡ k
