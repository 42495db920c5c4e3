use Rattle.std.proofs.Common.{◌≡◌, ◌+◌, ◌-◌, drop}
use Rattle.bt_fanout.specs.Effects.{row_effect}
use Rattle.bt_fanout.specs.inside.Groups.{value_after_first}
use Rattle.bt_fanout.proofs.row_effects.row_after.Given as goal

-- the messages from here on decide
abbrev pub invariant-loop : goal.invariant-loop
invariant-loop l = record {
  value : value_after_first row_effect (l.others + 1) l.fn.messages l.before ≡ value_after_first row_effect (l.others - l.counter) l.messages l.after;
  rest : drop (l.others + 1) l.fn.messages ≡ drop (l.others - l.counter) l.messages;
}
