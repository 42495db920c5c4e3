use Rattle.std.proofs.Common.{◌≤◌}
use Rattle.bt_messages.specs.inside.Brackets.{IsBracket}
use Rattle.bt_messages.proofs.search.bracket_below.Given as goal

abbrev pub invariant-loop-step : goal.invariant-loop-step
invariant-loop-step g l = record {
  step : 1 ≤ l.step;
  bracket : IsBracket l.key 0 l.high l.entries;
}

abbrev pub decreases-loop-step : goal.decreases-loop-step
decreases-loop-step g l = l.high
