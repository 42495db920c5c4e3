use Rattle.std.proofs.Common.{◌≡◌, drop, is_some, map}
use Rattle.std.specs.Prelude.{string_bytes}
use Rattle.bt_fanout.specs.Definitions.{places_of}
use Rattle.bt_fanout.proofs.definition_parts.are_there.Given as goal

-- the names from here on decide
abbrev pub invariant-loop-name : goal.invariant-loop-name
invariant-loop-name l = is_some (places_of l.columns (map string_bytes l.names)) ≡ is_some (places_of l.columns (map string_bytes (drop l.name-index l.names)))
