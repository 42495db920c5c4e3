use Rattle.std.proofs.Common.{◌≡◌, ◌++◌, drop, map, option_map}
use Rattle.std.specs.Prelude.{string_bytes}
use Rattle.bt_fanout.specs.Definitions.{places_of}
use Rattle.bt_fanout.proofs.definition_parts.read_places.Given as goal

abbrev pub invariant-loop-name : goal.invariant-loop-name
invariant-loop-name l =
    places_of l.columns (map string_bytes l.names) ≡ option_map (λ others. l.places ++ others) (places_of l.columns (map string_bytes (drop l.name-index l.names)))
