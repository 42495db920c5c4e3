-- What a search for a key among sorted messages knows on its way.
use Rattle.std.specs.Prelude.{ℕ, ◌≤◌, drop, length, take}
use Rattle.bt_keycode.specs.Keys.{AllFrom, Key}
use Rattle.bt_messages.specs.Bins.{AllBefore}
use Rattle.bt_message.specs.Messages.{Messages}

-- the messages before the first place are before a key, and those from the second place on are not
pub record IsBracket {M : Type 0} (k : Key) (low high : ℕ) (ms : Messages M) : Type 0 where
  pub order : low ≤ high
  pub within : high ≤ length ms
  pub before : AllBefore k (take low ms)
  pub from : AllFrom k (drop high ms)
