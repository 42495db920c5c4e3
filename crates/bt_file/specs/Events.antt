-- What a file has after the calls that were made of it, and what a crash may leave of it.
use Rattle.std.specs.Prelude.{◌≡◌, ◌⊎◌, ⊤, ℕ, suc, ◌+◌, ◌≤◌, Bool, true, false, ◌&&◌, if◌then◌else◌, IsTrue, List, [], ◌∷◌, ◌++◌, length, take, drop}
use Rattle.std.proofs.Common.{inl, inr, arith}
use Rattle.bt_journal.specs.Disks.{Torn, Cut as CutTo, Swapped}
use Rattle.bt_file.specs.Calls.{Event}
use Rattle.bt_file.specs.declared.calls.Call.{Call}
use Rattle.bt_file.specs.declared.calls.Call.TheVariants.{Read, Written, Cut, Replaced, Synced, Taken}

-- the bytes that were read when the file was opened, after one more call with these bytes
abbrev pub original_after : Call → List ℕ → List ℕ → List ℕ
original_after (Read is_ok) bytes old = if is_ok then old ++ bytes else old
original_after (Written at is_ok) bytes old = old
original_after (Cut len is_ok) bytes old = old
original_after (Replaced is_ok) bytes old = old
original_after (Synced is_ok) bytes old = old
original_after Taken bytes old = old

-- the bytes that were read when the file was opened, by these calls, the latest one first
abbrev pub original_of : List Event → List ℕ
original_of [] = []
original_of (e ∷ earlier) = original_after e.0 e.1.items (original_of earlier)

-- The bytes that a read returns after a call with these bytes. After a call that failed they are not known, and the disk is not healthy.
abbrev pub contents_after : Call → List ℕ → List ℕ → List ℕ → List ℕ
contents_after (Read is_ok) bytes original old = if is_ok then original ++ bytes else old
contents_after (Written at is_ok) bytes original old = if is_ok then take at old ++ bytes ++ drop (at + length bytes) old else old
contents_after (Cut len is_ok) bytes original old = if is_ok then take len old else old
contents_after (Replaced is_ok) bytes original old = if is_ok then bytes else old
contents_after (Synced is_ok) bytes original old = old
contents_after Taken bytes original old = old

-- the bytes that a read returns after these calls, the latest one first, if the disk is healthy
abbrev pub contents_of : List Event → List ℕ
contents_of [] = []
contents_of (e ∷ earlier) = contents_after e.0 e.1.items (original_of earlier) (contents_of earlier)

-- whether no call has failed, after one more
abbrev pub still_healthy : Call → Bool → Bool
still_healthy (Read is_ok) old = old && is_ok
still_healthy (Written at is_ok) old = old && is_ok
still_healthy (Cut len is_ok) old = old && is_ok
still_healthy (Replaced is_ok) old = is_ok
still_healthy (Synced is_ok) old = old && is_ok
still_healthy Taken old = old

-- whether no call has failed since the file was opened or replaced
abbrev pub is_healthy_after : List Event → Bool
is_healthy_after [] = true
is_healthy_after (e ∷ earlier) = still_healthy e.0 (is_healthy_after earlier)

-- one of the outcomes before, after a step
abbrev pub After : (List ℕ → List ℕ → Type 0) → (List ℕ → Type 0) → List ℕ → Type 0
After step old c = (d : List ℕ) × old d × step d c

-- a file that begins with these bytes, and has no others if the last read returned none
pub record BeginsWith (original bytes c : List ℕ) : Type 0 where
  pub front : (rest : List ℕ) × (c ≡ original ++ bytes ++ rest)
  pub whole : bytes ≡ [] → c ≡ original ++ bytes

-- The outcomes of a crash after a call. If no call has failed before, a sync that succeeds leaves a single outcome.
abbrev pub outcome_after : Call → List ℕ → List ℕ → List ℕ → Bool → (List ℕ → Type 0) → List ℕ → Type 0
outcome_after (Read is_ok) bytes original contents healthy old c = old c × (IsTrue is_ok → BeginsWith original bytes c)
outcome_after (Written at is_ok) bytes original contents healthy old c = After (Torn at (length bytes)) old c
outcome_after (Cut len is_ok) bytes original contents healthy old c = After (CutTo len) old c
outcome_after (Replaced is_ok) bytes original contents healthy old c = After (Swapped bytes) old c × (IsTrue is_ok → c ≡ bytes)
outcome_after (Synced is_ok) bytes original contents healthy old c = old c × (IsTrue (healthy && is_ok) → c ≡ contents)
outcome_after Taken bytes original contents healthy old c = old c

-- What a crash at this moment may leave. Before the first call, which reads the file, nothing is known of it.
abbrev pub outcome_of : List Event → List ℕ → Type 0
outcome_of [] c = ⊤
outcome_of (e ∷ earlier) c = outcome_after e.0 e.1.items (original_of earlier) (contents_of earlier) (is_healthy_after earlier) (outcome_of earlier) c

-- whether a call succeeded
abbrev pub has_succeeded : Call → Bool
has_succeeded (Read is_ok) = is_ok
has_succeeded (Written at is_ok) = is_ok
has_succeeded (Cut len is_ok) = is_ok
has_succeeded (Replaced is_ok) = is_ok
has_succeeded (Synced is_ok) = is_ok
has_succeeded Taken = true

-- how many calls have failed
abbrev pub fault_count_of : List Event → ℕ
fault_count_of [] = 0
fault_count_of (e ∷ earlier) = if has_succeeded e.0 then fault_count_of earlier else suc (fault_count_of earlier)

-- whether a call is a step of the clock: one that does not read
abbrev pub is_step : Call → Bool
is_step (Read is_ok) = false
is_step (Written at is_ok) = true
is_step (Cut len is_ok) = true
is_step (Replaced is_ok) = true
is_step (Synced is_ok) = true
is_step Taken = true

-- the moment: the number of steps
abbrev pub moment_of : List Event → ℕ
moment_of [] = 0
moment_of (e ∷ earlier) = if is_step e.0 then suc (moment_of earlier) else moment_of earlier

-- What a crash at some moment from this one on may have left. Before the file was read there is no other moment.
abbrev pub outcome_since_of : List Event → ℕ → List ℕ → Type 0
outcome_since_of [] t c = outcome_of [] c
outcome_since_of (e ∷ earlier) t c = outcome_of (e ∷ earlier) c ⊎ (IsTrue (is_step e.0) × (t ≤ moment_of earlier) × outcome_since_of earlier t c)

pub counts_now_of : (events : List Event) (t : ℕ) (c : List ℕ) → outcome_of events c → outcome_since_of events t c
counts_now_of [] t c now = now
counts_now_of (e ∷ earlier) t c now = inl now

-- a step comes after those before it
step_later : (call : Call) (n : ℕ) → IsTrue (is_step call) → n + 1 ≤ (if is_step call then suc n else n)
step_later (Read is_ok) n step = absurd (cc step)
step_later (Written at is_ok) n step = omega arith
step_later (Cut len is_ok) n step = omega arith
step_later (Replaced is_ok) n step = omega arith
step_later (Synced is_ok) n step = omega arith
step_later Taken n step = omega arith

pub only_now_of : (events : List Event) (c : List ℕ) → outcome_since_of events (moment_of events) c → outcome_of events c
only_now_of [] c left = left
only_now_of (e ∷ earlier) c (inl now) = now
only_now_of (e ∷ earlier) c (inr before) = absurd (omega (arith, before.1, step_later e.0 (moment_of earlier) before.0))
