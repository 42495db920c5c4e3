use Rattle.std.proofs.Common.{◌-◌, length}
use Rattle.bt_messages.specs.inside.Brackets.{IsBracket}
use Rattle.bt_messages.proofs.search.bracket_above.Given as goal

abbrev pub invariant-loop-step : goal.invariant-loop-step
invariant-loop-step g l = IsBracket l.key l.low (length l.entries) l.entries

abbrev pub decreases-loop-step : goal.decreases-loop-step
decreases-loop-step g l = length l.entries - l.low
