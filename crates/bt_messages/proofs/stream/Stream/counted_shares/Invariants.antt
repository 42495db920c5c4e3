use Rattle.std.proofs.Common.{◌≡◌, ◌≤◌, ◌++◌, drop, length, map, take}
use Rattle.bt_messages.specs.Bins.{parts}
use Rattle.bt_messages.specs.Parts.{total}
use Rattle.bt_messages.specs.Shares.{counts}
use Rattle.bt_messages.specs.inside.Sums.{counted}
use Rattle.bt_messages.proofs.Counts.{sliced}
use Rattle.bt_messages.proofs.stream.Stream.counted_shares.Given as goal

abbrev pub invariant-loop-pivot : goal.invariant-loop-pivot
invariant-loop-pivot g l =
    let ns = counts l.shares.items in
    record {
      parts : sliced 0 ns l.self ++ parts (drop l.pivot-index l.pivots) (drop l.from (take l.count l.self)) ≡ parts l.pivots (take l.count l.self);
      total : total ns ≡ l.from;
      bound : l.from ≤ l.count;
      len : length l.shares.items ≡ l.pivot-index;
      counted : l.shares.items ≡ map counted ns;
    }
