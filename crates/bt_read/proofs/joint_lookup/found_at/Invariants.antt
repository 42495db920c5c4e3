use Rattle.std.proofs.Common.{◌≡◌, ◌≤◌, ◌++◌, drop, length, map, vec_len, vec_capacity}
use Rattle.std.specs.FinMap.{find}
use Rattle.bt_keycode.specs.Keys.{key_cmp}
use Rattle.bt_read.specs.inside.ValuesSoFar.{option_of}
use Rattle.bt_read.proofs.joint_lookup.found_at.Given as goal

-- the values so far, and those of the keys that are left
abbrev pub invariant-loop-key : goal.invariant-loop-key
invariant-loop-key g l = record {
  values : map (λ k. find key_cmp k.now l.rows) l.keys ≡ map option_of l.values.items ++ map (λ k. find key_cmp k.now l.rows) (drop l.key-index l.keys);
  len : vec_len l.values ≤ l.key-index;
  room : length l.keys ≤ vec_capacity l.values;
}
