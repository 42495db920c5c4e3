-- What a buffer stores, and shares that are only counted.
use Rattle.std.specs.Prelude.{ℕ, Option, None}
use Rattle.bt_keycode.specs.Keys.{IsSorted, Key}
use Rattle.bt_message.specs.Messages.{Messages}
use Rattle.bt_message.specs.Weights.{IsSum}
use Rattle.bt_messages.specs.declared.share.Share.{Share}

-- messages sorted by key, and their total weight, if that is stored
pub record IsBuffer {M : Type 0} (weigh : Key × M → ℕ) (ms : Messages M) (sum : Option ℕ) : Type 0 where
  pub sorted : IsSorted ms
  pub kept : IsSum weigh ms sum

-- the share of that many messages, which aren't weighed
abbrev pub counted : ℕ → Share
counted n = record { count = n; weight = None }
