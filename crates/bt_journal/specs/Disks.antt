-- What the calls of a disk do to a file, and what a crash may leave of it.
use Rattle.std.specs.Prelude.{◌<◌, ◌≡◌, ◌⊎◌, ℕ, ◌+◌, ◌≤◌, max, Bool, List, [], ◌++◌, length, take, drop, OnErr, Result}

-- the new bytes are the old ones with these bytes from an offset on
abbrev pub Holds : List ℕ → ℕ → List ℕ → List ℕ → Type 0
Holds old at bytes new = new ≡ take at old ++ bytes ++ drop (at + length bytes) old

-- A write of n bytes that a crash interrupts: any bytes in its range and after the old end, and the same bytes elsewhere.
pub record Torn (at n : ℕ) (old new : List ℕ) : Type 0 where
  pub before : take at new ≡ take at old
  pub after : drop (at + n) new ≡ drop (at + n) old
  pub no_shorter : length old ≤ length new
  pub no_longer : length new ≤ max (length old) (at + n)

-- a cut to a length that a crash interrupts: some length between the new and the old one
pub record Cut (len : ℕ) (old new : List ℕ) : Type 0 where
  pub no_shorter : len ≤ length new
  pub front : take (length new) old ≡ new

-- a swap of all bytes that a crash interrupts: all of the old ones, or all of the new ones
abbrev pub Swapped : List ℕ → List ℕ → List ℕ → Type 0
Swapped bytes old new = (new ≡ old) ⊎ (new ≡ bytes)

-- each new outcome of a crash is an old outcome after a step
abbrev pub Follows : (List ℕ → List ℕ → Type 0) → (List ℕ → Type 0) → (List ℕ → Type 0) → Type 0
Follows step old new = (c : List ℕ) → new c → (d : List ℕ) × old d × step d c

-- a crash leaves these bytes and no others
abbrev pub Only : List ℕ → (List ℕ → Type 0) → Type 0
Only file outcome = (c : List ℕ) → outcome c → c ≡ file

-- Time goes on: a crash since t may have left what it could leave before, or what it can leave now.
pub record Elapses (before now : ℕ) (past since : ℕ → List ℕ → Type 0) (outcome : List ℕ → Type 0) : Type 0 where
  pub later : before ≤ now
  pub nothing_else : (t : ℕ) (c : List ℕ) → t ≤ before → since t c → past t c ⊎ outcome c
  pub remains : (t : ℕ) (c : List ℕ) → t ≤ before → past t c → since t c

-- A crash at any moment between old and new leaves a file that has P.
pub record LeavesOnly {D : Type 0} (moment : D → ℕ) (outcome_since : D → ℕ → List ℕ → Type 0) (old new : D) (P : List ℕ → Type 0) : Type 0 where
  pub later : moment old ≤ moment new
  pub each : (c : List ℕ) → outcome_since new (moment old) c → P c
  -- for a run of calls that began earlier
  pub before : (t : ℕ) (c : List ℕ) → t ≤ moment old → outcome_since new t c → outcome_since old t c ⊎ P c

-- An error is returned only if the disk has failed in the call.
pub record HasCause {T E : Type 0} (before now : ℕ) (result : Result T E) : Type 0 where
  pub later : before ≤ now
  pub failed : OnErr result (before < now)

-- The next bytes of a file were read. None are left after no bytes, and then all that were read are on the disk. Reading is no step of the clock.
pub record HasRead
    {D : Type 0} (contents original : D → List ℕ) (outcome : D → List ℕ → Type 0) (is_healthy : D → Bool) (moment : D → ℕ) (outcome_since : D → ℕ → List ℕ → Type 0)
    (old new : D) (piece : List ℕ) : Type 0 where
  pub more : original new ≡ original old ++ piece
  pub front : (c : List ℕ) → outcome new c → (rest : List ℕ) × (c ≡ original new ++ rest)
  pub whole : piece ≡ [] → contents new ≡ original new
  pub durable : piece ≡ [] → Only (original new) (outcome new)
  pub health : is_healthy new ≡ is_healthy old
  pub no_step : moment new ≡ moment old
  pub since : (t : ℕ) (c : List ℕ) → outcome_since new t c → outcome new c
  pub fewer : (c : List ℕ) → outcome new c → outcome old c
