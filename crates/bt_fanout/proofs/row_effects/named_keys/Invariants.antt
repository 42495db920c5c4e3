use Rattle.std.proofs.Common.{◌≡◌, ◌≤◌, ◌++◌, length, map, option_map}
use Rattle.bt_keycode.specs.Keys.{IsSorted}
use Rattle.bt_fanout.specs.inside.Groups.{groups_within, with_next}
use Rattle.bt_fanout.proofs.row_effects.named_keys.Given as goal

-- the keys so far, followed by those that the remaining messages name
abbrev pub invariant-loop-next : goal.invariant-loop-next
invariant-loop-next l = record {
  few : length (with_next (option_map (λ m. (m.0.now, m.1.now)) l.next) l.messages) ≤ length l.packet;
  sorted : IsSorted (with_next (option_map (λ m. (m.0.now, m.1.now)) l.next) l.messages);
  keys : map (λ g. g.0) (groups_within l.cover l.packet) ≡ map (λ k. k.now) l.keys.items ++ map (λ g. g.0) (groups_within l.cover (with_next (option_map (λ m. (m.0.now, m.1.now)) l.next) l.messages));
  others : map (λ g. g.1) (groups_within l.cover l.packet) ≡ l.others.items ++ map (λ g. g.1) (groups_within l.cover (with_next (option_map (λ m. (m.0.now, m.1.now)) l.next) l.messages));
}

abbrev pub decreases-loop-next : goal.decreases-loop-next
decreases-loop-next l = length (with_next (option_map (λ m. (m.0.now, m.1.now)) l.next) l.messages)
