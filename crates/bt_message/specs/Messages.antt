-- Messages with their keys, sorted by key and by arrival.
use Rattle.std.specs.Prelude.{not, List, [], ◌∷◌, Option, if◌then◌else◌}
use Rattle.std.specs.List.{filter}
use Rattle.bt_keycode.specs.Keys.{Key, is_before, is_between}

-- messages with their keys, older ones first
abbrev pub Messages : Type 0 → Type 0
Messages M = List (Key × M)

-- a message placed among sorted ones, after those of its key
abbrev pub with_message : {M : Type 0} → (Key × M) → Messages M → Messages M
with_message m [] = m ∷ []
with_message m (e ∷ es) = if is_before m.0 e.0 then m ∷ e ∷ es else e ∷ with_message m es

-- sorted messages with newer ones, placed one by one after those of their keys
abbrev pub with_messages : {M : Type 0} → Messages M → Messages M → Messages M
with_messages [] older = older
with_messages (m ∷ ms) older = with_messages ms (with_message m older)

-- a batch sorted by key, the messages of a key in the order of the batch
abbrev pub sorted_batch : {M : Type 0} → Messages M → Messages M
sorted_batch batch = with_messages batch []

-- the messages with a key before this one, and those with a key at or past it
abbrev pub messages_before : {M : Type 0} → Key → Messages M → Messages M
messages_before k = filter (λ m. is_before m.0 k)

abbrev pub messages_from : {M : Type 0} → Key → Messages M → Messages M
messages_from k = filter (λ m. not (is_before m.0 k))

-- the messages with a key between two bounds, and the others
abbrev pub messages_between : {M : Type 0} → Option Key → Option Key → Messages M → Messages M
messages_between from to = filter (λ m. is_between from to m.0)

abbrev pub messages_outside : {M : Type 0} → Option Key → Option Key → Messages M → Messages M
messages_outside from to = filter (λ m. not (is_between from to m.0))

-- the messages at the front with keys at or before this one
abbrev pub messages_up_to : {M : Type 0} → Key → Messages M → Messages M
messages_up_to k [] = []
messages_up_to k (m ∷ ms) = if is_before k m.0 then [] else m ∷ messages_up_to k ms

-- the messages after those
abbrev pub messages_past : {M : Type 0} → Key → Messages M → Messages M
messages_past k [] = []
messages_past k (m ∷ ms) = if is_before k m.0 then m ∷ ms else messages_past k ms
