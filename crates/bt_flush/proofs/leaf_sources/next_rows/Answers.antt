use Rattle.std.proofs.Common.{◌≡◌, ◌∙◌, ◌-◌, ◌++◌, ap, arith, drop, length, subst, sym, take}
use Rattle.std.specs.Bool.{IsTrue}
use Rattle.std.specs.FinMap.{is_sorted}
use Rattle.bt_keycode.specs.Keys.{key_cmp}
use Rattle.bt_form.proofs.offered.code.DealLoop.{all_moved, all_passed, item_moved, item_passed}
use Rattle.bt_flush.proofs.leaf_sources.next_rows.Goals as goal

pub loop-init : goal.loop-init
loop-init g c =
    let left = g.S.RowSource.left c.args.source.now in
    let same : c.args.size - 0 ≡ c.args.size = omega arith in
    record {
      part = ap (λ rs. rs ++ take (c.args.size - 0) left) c.in_ok-rows.ensures.items ∙ ap (λ n. take n left) same;
      rest = ap (λ n. drop n left) same;
      enough = omega (arith, c.requires.enough);
      len = omega (arith, c.in_ok-rows.ensures.len);
      room = c.in_ok-rows.ensures.exact;
    }

pub unreachable-requires : goal.unreachable-requires
unreachable-requires g c = omega (arith, c.loop.invariant.enough, ap length c.in_default.ensures, c.loop-test.true)

pub loop-preserved : goal.loop-preserved
loop-preserved g c = record {
  part = item_moved c.args.size c.loop.counter c.loop.rows.items c.push_reserved.new.self.items _ _ _ _ c.loop-test.true c.in-Some.ensures c.push_reserved.ensures.items c.loop.invariant.part;
  rest = item_passed c.args.size c.loop.counter _ _ _ _ c.loop-test.true c.in-Some.ensures c.loop.invariant.rest;
  enough = omega (arith, c.loop.invariant.enough, ap length c.in-Some.ensures, c.loop-test.true);
  len = omega (arith, c.loop.invariant.len, c.push_reserved.ensures.len);
  room = c.push_reserved.ensures.capacity ∙ c.loop.invariant.room;
}

pub push_reserved-requires : goal.push_reserved-requires
push_reserved-requires g c = omega (arith, c.loop.invariant.len, c.loop.invariant.room, c.loop-test.true)

pub from_sorted-requires : goal.from_sorted-requires
from_sorted-requires g c =
    let moved = all_moved c.args.size c.loop.counter c.loop.rows.items _ _ (omega (arith, c.loop-test.false)) c.loop.invariant.part in
    subst (λ rs. IsTrue (is_sorted key_cmp rs)) (sym moved) c.requires.sorted

pub returns-clause-rows : goal.returns-clause-rows
returns-clause-rows g c = c.from_sorted.ensures ∙ all_moved c.args.size c.loop.counter c.loop.rows.items _ _ (omega (arith, c.loop-test.false)) c.loop.invariant.part

pub returns-clause-rest : goal.returns-clause-rest
returns-clause-rest g c = all_passed c.args.size c.loop.counter _ _ (omega (arith, c.loop-test.false)) c.loop.invariant.rest
