use Rattle.std.proofs.Common.{◌≡◌, ◌≤◌, ◌++◌, drop, length, take}
use Rattle.bt_value.specs.Lists.{concatenation}
use Rattle.bt_messages.specs.inside.Runs.{AreSome}
use Rattle.bt_messages.proofs.stream.Stream.take_front.Given as goal

abbrev pub invariant-loop-left : goal.invariant-loop-left
invariant-loop-left g l = record {
  taken : concatenation l.runs.items ++ take l.left l.self ≡ take l.count l.fn.self;
  left : drop l.left l.self ≡ drop l.count l.fn.self;
  enough : l.left ≤ length l.self;
  some : AreSome l.runs.items;
}

abbrev pub decreases-loop-left : goal.decreases-loop-left
decreases-loop-left g l = l.left
