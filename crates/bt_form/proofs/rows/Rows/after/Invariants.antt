use Rattle.std.proofs.Common.{◌≡◌, ◌+◌, ◌-◌, ◌≤◌, ◌++◌, true, drop, length, take, vec_len, vec_capacity}
use Rattle.std.specs.FinMap.{is_sorted}
use Rattle.bt_message.specs.Effects.{effect_of}
use Rattle.bt_keycode.specs.Keys.{key_cmp}
use Rattle.bt_form.specs.Messages.{rows_after}
use Rattle.bt_form.proofs.rows.Rows.after.Given as goal

abbrev pub invariant-loop : goal.invariant-loop
invariant-loop g l = record {
  wanted : l.changed.items ++ rows_after (effect_of g.V.Merge.terms.merged) (take (l.count - l.counter) l.stream) l.older.items
      ≡ rows_after (effect_of g.V.Merge.terms.merged) (take l.count l.fn.stream) l.fn.self;
  left : drop (l.count - l.counter) l.stream ≡ drop l.count l.fn.stream;
  enough : length l.stream + l.counter ≡ length l.fn.stream;
  rows : is_sorted key_cmp l.older.items ≡ true;
  room : vec_len l.changed + length l.older.items + (l.count - l.counter) ≤ vec_capacity l.changed;
}

abbrev pub invariant-loop-row : goal.invariant-loop-row
invariant-loop-row g l = record {
  wanted : l.changed.items ++ l.row-iterator.rest.items ≡ rows_after (effect_of g.V.Merge.terms.merged) (take l.count l.fn.stream) l.fn.self;
  left : l.stream ≡ drop l.count l.fn.stream;
  room : vec_len l.changed + length l.row-iterator.rest.items ≤ vec_capacity l.changed;
}
