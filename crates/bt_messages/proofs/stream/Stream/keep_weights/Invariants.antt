use Rattle.std.proofs.Common.{◌≡◌}
use Rattle.bt_messages.proofs.stream.Stream.keep_weights.Given as goal

abbrev pub invariant-loop-share : goal.invariant-loop-share
invariant-loop-share g l = record {
  first : l.self-inside.first ≡ l.initial.self-inside.first;
  rest : l.self-inside.rest.items ≡ l.initial.self-inside.rest.items;
  later : l.self-inside.later ≡ l.initial.self-inside.later;
}
