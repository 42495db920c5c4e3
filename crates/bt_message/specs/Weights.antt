-- The weights of messages, and their load.
use Rattle.std.specs.Prelude.{ℕ, ◌≡◌, ◌+◌, List, [], ◌∷◌, Option, Some, None, length, min}
use Rattle.bt_keycode.specs.Keys.{Key}
use Rattle.bt_keycode.specs.Lengths.{most_weight}
use Rattle.bt_message.specs.Terms.{Terms}
use Rattle.bt_message.specs.declared.measure.Measure.{Measure}
use Rattle.bt_message.specs.declared.measure.Measure.TheVariants.{Messages, Bytes}
use Rattle.bt_message.specs.declared.message.Message.{Message}
use Rattle.bt_message.specs.declared.message.Message.TheVariants.{Put, Del, Ups}

-- the bytes that a message carries besides its key: none for a del
abbrev pub payload_of : {V D : Type 0} → Terms V D → Message V D → ℕ
payload_of terms (Put value) = terms.payload value
payload_of terms Del = 0
payload_of terms (Ups delta) = terms.delta_payload delta

-- a message weighs one, plus the bytes of its key, plus its payload, but no more than the largest weight
abbrev pub weigh_of : {V D : Type 0} → Terms V D → Key × Message V D → ℕ
weigh_of terms m = min most_weight (1 + length m.0 + payload_of terms m.1)

-- the total weight of messages
abbrev pub weight : {X : Type 0} → (X → ℕ) → List X → ℕ
weight weigh [] = 0
weight weigh (x ∷ xs) = weigh x + weight weigh xs

-- the load of messages: their number or their weight
abbrev pub load : {X : Type 0} → (X → ℕ) → Measure → List X → ℕ
load weigh Messages xs = length xs
load weigh Bytes xs = weight weigh xs

-- a stored sum, if there is one, is the total weight of the messages
abbrev pub IsSum : {X : Type 0} → (X → ℕ) → List X → Option ℕ → Type 0
IsSum weigh xs None = Unit {0}
IsSum weigh xs (Some sum) = sum ≡ weight weigh xs
