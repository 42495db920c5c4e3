use Rattle.std.proofs.Common.{◌≡◌, ◌+◌, ◌++◌, drop, length, map}
use Rattle.std.specs.Vec.Iter.{into_iter_items}
use Rattle.bt_fanout.specs.inside.Groups.{effects_in}
use Rattle.bt_fanout.proofs.row_effects.effects_on.Given as goal

-- the effects so far come before those of the keys from here on
abbrev pub invariant-loop-before : goal.invariant-loop-before
invariant-loop-before l = record {
  many : length l.effects.items + length (into_iter_items l.before-iterator) ≡ length l.fn.rows.items;
  effects : effects_in (map (λ k. k.now) l.keys) l.others l.fn.rows.items l.fn.messages
      ≡ l.effects.items ++ effects_in (map (λ k. k.now) (drop (length l.effects.items) l.keys))
      (drop (length l.effects.items) l.others) (into_iter_items l.before-iterator) l.messages;
}
