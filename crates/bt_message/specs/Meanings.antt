-- The meaning of messages to values: their effects and their weights.
use Rattle.std.specs.Prelude.{ℕ, Option}
use Rattle.bt_keycode.specs.Keys.{Key}
use Rattle.bt_message.specs.Effects.{effect_of}
use Rattle.bt_message.specs.Terms.{Terms}
use Rattle.bt_message.specs.Weights.{weigh_of}
use Rattle.bt_message.specs.declared.message.Message.{Message}

-- the effect of a message on the value at its key, or on none, and its weight with its key
pub record Meaning (V M : Type 0) : Type 0 where
  pub effect : Option V → M → Option V
  pub weigh : Key × M → ℕ

-- the meaning of messages to values of a kind
abbrev pub meaning_of : {V D : Type 0} → Terms V D → Meaning V (Message V D)
meaning_of terms = record { effect = effect_of terms.merged; weigh = weigh_of terms }
