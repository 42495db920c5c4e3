-- The calls that a host is to make.
use Rattle.std.specs.Prelude.{ℕ, suc, ◌≡◌, Bool, true, not, if◌then◌else◌, List, [], ◌∷◌, ◌++◌, ⊤}
use Rattle.std.proofs.Common.{◌∙◌, ap, subst}
use Rattle.bt_journal.specs.declared.disk.HostCall.{HostCall}
use Rattle.bt_journal.specs.declared.disk.HostCall.TheVariants as host
use Rattle.bt_file.specs.Calls.{Event}
use Rattle.bt_file.specs.Events.{contents_of, original_of, outcome_of, is_healthy_after, contents_after, outcome_after, is_step, still_healthy}
use Rattle.bt_file.specs.declared.calls.Call.{Call}
use Rattle.bt_file.specs.declared.calls.Call.TheVariants.{Read, Written, Cut, Replaced, Synced, Taken}

-- whether a host has no calls to make after this one: it took its calls, or the call failed, and then it opens the file again
abbrev pub is_none_due : Call → Bool
is_none_due (Read is_ok) = not is_ok
is_none_due Taken = true
is_none_due (Written at is_ok) = not is_ok
is_none_due (Cut len is_ok) = not is_ok
is_none_due (Replaced is_ok) = not is_ok
is_none_due (Synced is_ok) = not is_ok

-- The calls of a list, the latest one first, that a host is to make, the first one first. It has read what it says that it has.
abbrev pub due_in : List Event → List Event
due_in [] = []
due_in (e ∷ earlier) = if is_none_due e.0 then [] else if is_step e.0 then due_in earlier ++ e ∷ [] else due_in earlier

-- how many times a host took its calls, after one more call of the list
abbrev pub takes_after : Call → ℕ → ℕ
takes_after Taken count = suc count
takes_after (Read is_ok) count = count
takes_after (Written at is_ok) count = count
takes_after (Cut len is_ok) count = count
takes_after (Replaced is_ok) count = count
takes_after (Synced is_ok) count = count

-- how many times a host took its calls
abbrev pub take_count_of : List Event → ℕ
take_count_of [] = 0
take_count_of (e ∷ earlier) = takes_after e.0 (take_count_of earlier)

-- a call of a list is this one of a host, and succeeded
abbrev pub IsMade : HostCall → Event → Type 0
IsMade (host.Write at bytes) event = (event.0 ≡ Written at true) × (event.1.items ≡ bytes.items)
IsMade (host.Cut len) event = event.0 ≡ Cut len true
IsMade (host.Replace bytes) event = (event.0 ≡ Replaced true) × (event.1.items ≡ bytes.items)
IsMade host.Sync event = event.0 ≡ Synced true

-- these calls of a host are those of a list
abbrev pub AreMade : List HostCall → List Event → Type 0
AreMade [] [] = ⊤
AreMade [] (event ∷ events) = ⊥
AreMade (call ∷ calls) [] = ⊥
AreMade (call ∷ calls) (event ∷ events) = IsMade call event × AreMade calls events

-- a host is to make these calls, and no others
abbrev pub AreDue : List Event → List HostCall → Type 0
AreDue events calls = AreMade calls (due_in events)

-- a host took its calls
abbrev pub IsTaken : List Event → List Event → Type 0
IsTaken old new = (e : Event) × (e.0 ≡ Taken) × (new ≡ e ∷ old)

-- a host that takes its calls changes nothing of the file
pub same_contents : (old new : List Event) → IsTaken old new → contents_of new ≡ contents_of old
same_contents old new (e, is, more) = ap contents_of more ∙ ap (λ (call : Call). contents_after call e.1.items (original_of old) (contents_of old)) is

pub same_outcome : (old new : List Event) → IsTaken old new → (c : List ℕ) → outcome_of new c → outcome_of old c
same_outcome old new (e, is, more) c left =
    subst (λ (call : Call). outcome_after call e.1.items (original_of old) (contents_of old) (is_healthy_after old) (outcome_of old) c) is
    (subst (λ (events : List Event). outcome_of events c) more left)

pub same_health : (old new : List Event) → IsTaken old new → is_healthy_after new ≡ is_healthy_after old
same_health old new (e, is, more) = ap is_healthy_after more ∙ ap (λ (call : Call). still_healthy call (is_healthy_after old)) is
