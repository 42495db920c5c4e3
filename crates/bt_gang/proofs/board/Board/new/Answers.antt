use Rattle.std.proofs.Common.{refl, arith}
use Rattle.bt_gang.proofs.Takers.{kept_new, new_reached}
use Rattle.bt_gang.proofs.board.Board.new.Goals as goal

pub invariant_of-result : goal.invariant_of-result
invariant_of-result c = (
  new_reached _ _ _ _ c.in_ok-takers.ensures.items c.in_ok-handed.ensures.items c.in_ok-held.ensures,
  omega arith,
  omega (arith, c.in_ok-takers.ensures.len, c.in_ok-takers.takers.ok.0),
  c.in_ok-takers.ensures.capacity,
  c.in_ok-handed.ensures.capacity,
)

pub returns : goal.returns
returns c = (refl, kept_new _ _ _ _ c.in_ok-takers.ensures.items c.in_ok-handed.ensures.items c.in_ok-held.ensures)
