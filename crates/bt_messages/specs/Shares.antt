-- Shares of messages: some of the first, then some of the next, and so on.
use Rattle.std.specs.Prelude.{ℕ, ◌≤◌, List, [], ◌∷◌, Some, None, drop, length, map, take}
use Rattle.std.specs.Option.{unwrap_or}
use Rattle.bt_message.specs.Weights.{IsSum, weight}
use Rattle.bt_message.specs.declared.measure.Measure.{Measure}
use Rattle.bt_message.specs.declared.measure.Measure.TheVariants.{Messages, Bytes}
use Rattle.bt_messages.specs.declared.share.Share.{Share}

-- the numbers of messages of shares
abbrev pub counts : List Share → List ℕ
counts = map (λ s. s.count)

-- the load of a share: one for each message, or their weight, 0 if that isn't known
abbrev pub load_of : Measure → Share → ℕ
load_of Messages s = s.count
load_of Bytes s = unwrap_or s.weight 0

-- the share of these messages, with their weight if bytes are measured
abbrev pub share_of : {X : Type 0} → (X → ℕ) → Measure → List X → Share
share_of weigh Messages ms = record { count = length ms; weight = None }
share_of weigh Bytes ms = record { count = length ms; weight = Some (weight weigh ms) }

-- there are that many messages, and this is their weight, if that is known
abbrev pub IsShare : {X : Type 0} → (X → ℕ) → List X → Share → Type 0
IsShare weigh ms s = (s.count ≤ length ms) × IsSum weigh (take s.count ms) s.weight

-- each is a share of what the ones before it leave
abbrev pub AreShares : {X : Type 0} → (X → ℕ) → List X → List Share → Type 0
AreShares weigh ms [] = Unit {0}
AreShares weigh ms (s ∷ ss) = IsShare weigh ms s × AreShares weigh (drop s.count ms) ss
