-- An open journal between two calls.
use Rattle.std.specs.Prelude.{◌≡◌, ℕ, ◌+◌, Bool, IsTrue, List, Some}
use Rattle.bt_journal.specs.Disks.{Only}
use Rattle.bt_journal.specs.Frames.{IsFramed, seed_after, extent}
use Rattle.bt_journal.specs.Heads.{head_at, body_of, head_size}
use Rattle.bt_journal.specs.Files.{recovered}
use Rattle.bt_journal.specs.declared.journal.Journal.{Journal}

-- The file is a head, frames and zeros, all of it on the disk, and the numbers of the journal are those of its end.
pub record IsSettled {D : Type 0} (contents : D → List ℕ) (outcome : D → List ℕ → Type 0) (is_healthy : D → Bool) (journal : Journal D) : Type 0 where
  pub head : head_at (contents journal.disk) ≡ Some journal.head
  pub framed : IsFramed journal.head.salt (recovered (contents journal.disk)) (body_of (contents journal.disk))
  pub end : journal.end ≡ head_size + extent (recovered (contents journal.disk))
  pub seed : journal.seed ≡ seed_after journal.head.salt (recovered (contents journal.disk))
  pub durable : Only (contents journal.disk) (outcome journal.disk)
  pub healthy : IsTrue (is_healthy journal.disk)
