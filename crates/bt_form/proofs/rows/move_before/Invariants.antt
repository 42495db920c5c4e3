use Rattle.std.proofs.Common.{◌≡◌, ◌+◌, ◌++◌, true, length, vec_len, vec_capacity}
use Rattle.std.specs.FinMap.{is_sorted}
use Rattle.bt_keycode.specs.Keys.{key_cmp}
use Rattle.bt_form.specs.Messages.{before, from}
use Rattle.bt_form.proofs.rows.move_before.Given as goal

abbrev pub invariant-loop-first : goal.invariant-loop-first
invariant-loop-first g l = record {
  moved : l.moved.items ++ before l.key l.older.items ≡ l.fn.moved.items ++ before l.key l.fn.older.items;
  left : from l.key l.older.items ≡ from l.key l.fn.older.items;
  sorted : is_sorted key_cmp l.older.items ≡ true;
  len : vec_len l.moved + length l.older.items ≡ vec_len l.fn.moved + length l.fn.older.items;
  capacity : vec_capacity l.moved ≡ vec_capacity l.fn.moved;
}

abbrev pub decreases-loop-first : goal.decreases-loop-first
decreases-loop-first g l = length l.older.items
