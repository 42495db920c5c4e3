-- The calls that were made of a file.
use Rattle.std.specs.Prelude.{ℕ, List, reverse, Vec}
use Rattle.std.specs.declared.alloc.Global.{Global}
use Rattle.bt_file.specs.declared.calls.Call.{Call}
use Rattle.bt_file.specs.declared.calls.Calls.{Calls}

-- a call, with the bytes that it had
abbrev pub Event : Type 0
Event = Call × Vec ℕ Global

-- the calls of a list, the latest one first
unfoldable pub events_of : Calls → List Event
events_of calls = reverse calls.log.items
