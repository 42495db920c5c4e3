-- What a kind of values defines for the messages to them.
use Rattle.std.specs.Prelude.{ℕ, Option}

-- the value after an upsert, from the one at its key or from none, and how many bytes a put and an upsert carry besides their key
pub record Terms (V D : Type 0) : Type 0 where
  pub merged : Option V → D → V
  pub payload : V → ℕ
  pub delta_payload : D → ℕ
