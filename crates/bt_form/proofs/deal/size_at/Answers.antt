use Rattle.std.proofs.Common.{arith}
use Rattle.bt_form.proofs.offered.deals.SizeAtPlace.{longer_part, shorter_part}
use Rattle.bt_form.proofs.deal.size_at.Goals as goal

pub returns-then-place-items : goal.returns-then-place-items
returns-then-place-items c = longer_part c.args.items c.args.parts c.args.place _ c.if-place-items.true (omega arith)

pub returns-else-place-items : goal.returns-else-place-items
returns-else-place-items c = shorter_part c.args.items c.args.parts c.args.place _ c.if-place-items.false c.requires (omega arith)
