use Rattle.std.proofs.Common.{◌≡◌, subst, arith, None}
use mathlib.Core.Option.{some}
use mathlib.Core.Logic.{dite}
use native.Mathlib.Decide.{ℕ_discrete}
use lib.ListN.{get_elem?}
use Rattle.bt_gang.proofs.Numbers.{at_below}
use Rattle.bt_gang.proofs.Placing.{empty_there, full_there}
use Rattle.bt_gang.proofs.slots.is_full.Goals as goal

pub returns-then-is_none-clause-free : goal.returns-then-is_none-clause-free
returns-then-is_none-clause-free g c = λ _. (
  c.loop-place.place,
  empty_there c.args.slots.now.items c.loop-place.place c.index.result.now c.is_none.result
      (omega (arith, c.loop-place-test.true, c.len-place-end.ensures, c.args.slots.now.ok.0)) c.index.ensures c.is_none.ensures c.if-is_none.true,
)

pub loop-place-preserved : goal.loop-place-preserved
loop-place-preserved g c = λ i l e.
    dite (ℕ_discrete i c.loop-place.place)
    (λ same. full_there c.args.slots.now.items c.loop-place.place c.index.result.now c.is_none.result
    (omega (arith, c.loop-place-test.true, c.len-place-end.ensures, c.args.slots.now.ok.0)) c.index.ensures c.is_none.ensures c.if-is_none.false
    (subst (λ k. get_elem? c.args.slots.now.items k ≡ some None) same e))
    (λ ne. c.loop-place.invariant i (omega arith) e)

pub returns-clause-full : goal.returns-clause-full
returns-clause-full g c = λ _ i e. c.loop-place.invariant i (omega (arith, at_below c.args.slots.now.items i None e, c.loop-place-test.false, c.len-place-end.ensures, c.args.slots.now.ok.0)) e
