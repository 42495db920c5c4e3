-- The calls that a host is to make are the last of a list.
use Rattle.std.proofs.Common.{◌≡◌, true, false, List, [], ◌∷◌, ◌++◌}
use Rattle.bt_journal.specs.declared.disk.HostCall.{HostCall}
use Rattle.bt_file.specs.Calls.{Event}
use Rattle.bt_file.specs.Due.{AreDue, AreMade, IsMade, due_in, is_none_due}
use Rattle.bt_file.specs.Events.{is_step}

-- no call is due after one after which none is
pub none_due : (calls : List HostCall) (events : List Event) (e : Event) (grown : List Event) → calls ≡ [] → is_none_due e.0 ≡ true → grown ≡ e ∷ events → AreDue grown calls
none_due calls events e grown is none more = rw is (rw more (rw none tt))

one_after : (calls : List HostCall) (events : List Event) (call : HostCall) (event : Event) → IsMade call event → AreMade calls events → AreMade (calls ++ call ∷ []) (events ++ event ∷ [])
one_after [] [] call event is made = (is, tt)
one_after [] (e ∷ events) call event is made = absurd made
one_after (first ∷ calls) [] call event is made = absurd made
one_after (first ∷ calls) (e ∷ events) call event is made = (made.0, one_after calls events call event is made.1)

pub one_more : (calls more : List HostCall) (events grown : List Event) (call : HostCall) (event : Event) → AreDue events calls → IsMade call event → is_none_due event.0 ≡ false
    → is_step event.0 ≡ true → more ≡ calls ++ call ∷ [] → grown ≡ event ∷ events → AreDue grown more
one_more calls more events grown call event due is goes_on step more_is grown_is = rw more_is (rw grown_is (rw goes_on (rw step (one_after calls (due_in events) call event is due))))
