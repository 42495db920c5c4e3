use Rattle.std.proofs.Common.{sym}
use Rattle.bt_row.proofs.Packing.{has_first}
use Rattle.bt_row.proofs.Walks.{none_of_none, some_byte}
use Rattle.bt_row.proofs.rows.values.next_packed.Goals as goal

pub first-requires-clause-some : goal.first-requires-clause-some
first-requires-clause-some c = some_byte c.args.bytes.now (sym c.if-is_empty.ensures)

pub first-requires-clause-within : goal.first-requires-clause-within
first-requires-clause-within c = (has_first _ c.requires (some_byte c.args.bytes.now (sym c.if-is_empty.ensures))).within

pub tail-requires : goal.tail-requires
tail-requires c = rw c.width.ensures (has_first _ c.requires (some_byte c.args.bytes.now (sym c.if-is_empty.ensures))).within

pub returns-clause-some : goal.returns-clause-some
returns-clause-some c = rw (c.first.ensures, c.tail.ensures, c.width.ensures) (has_first _ c.requires (some_byte c.args.bytes.now (sym c.if-is_empty.ensures))).values

pub returns-clause-in_range : goal.returns-clause-in_range
returns-clause-in_range c = rw c.first.ensures (has_first _ c.requires (some_byte c.args.bytes.now (sym c.if-is_empty.ensures))).in_range

pub returns-clause-packed : goal.returns-clause-packed
returns-clause-packed c = rw (c.tail.ensures, c.width.ensures) (has_first _ c.requires (some_byte c.args.bytes.now (sym c.if-is_empty.ensures))).rest

pub returns-then-is_empty-clause-none : goal.returns-then-is_empty-clause-none
returns-then-is_empty-clause-none c = none_of_none c.args.bytes.now (sym c.if-is_empty.ensures)
