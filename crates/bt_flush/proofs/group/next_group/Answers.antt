use Rattle.std.proofs.Common.{◌≡◌, ◌∙◌, ◌-◌, ◌++◌, ap, arith, drop, length, subst, sym, take, take-append-drop}
use Rattle.bt_form.specs.Children.{AreDivided}
use Rattle.bt_form.specs.Flushes.{gathered}
use Rattle.bt_form.proofs.offered.code.DealLoop.{all_moved, all_passed, item_moved, item_passed}
use Rattle.bt_form.proofs.offered.flushes.Divisions.{divided-first, length-first}
use Rattle.bt_flush.proofs.group.next_group.Goals as goal

pub loop-init : goal.loop-init
loop-init g c =
    let same : c.args.size - 0 ≡ c.args.size = omega arith in
    record {
      part = ap (λ cs. cs ++ take (c.args.size - 0) c.args.rest.now) c.in_ok-part.ensures ∙ ap (λ n. take n c.args.rest.now) same;
      rest = ap (λ n. drop n c.args.rest.now) same;
      enough = omega (arith, c.requires.enough);
    }

pub unreachable-requires : goal.unreachable-requires
unreachable-requires g c = omega (arith, c.loop.invariant.enough, ap length c.in_default.ensures, c.loop-test.true)

pub loop-preserved : goal.loop-preserved
loop-preserved g c = record {
  part = item_moved c.args.size c.loop.counter c.loop.part c.push.new.self c.loop.rest c.next.new.self _ _ c.loop-test.true c.in-Some.ensures c.in_ok-push.ensures c.loop.invariant.part;
  rest = item_passed c.args.size c.loop.counter c.loop.rest c.next.new.self _ _ c.loop-test.true c.in-Some.ensures c.loop.invariant.rest;
  enough = omega (arith, c.loop.invariant.enough, ap length c.in-Some.ensures, c.loop-test.true);
}

pub into_node-requires-clause-some : goal.into_node-requires-clause-some
into_node-requires-clause-some g c =
    omega (
      arith,
      ap length (all_moved c.args.size c.loop.counter c.loop.part c.loop.rest _ (omega (arith, c.loop-test.false)) c.loop.invariant.part),
      length-first c.args.size c.args.rest.now c.requires.enough,
      c.requires.some,
    )

pub into_node-requires-clause-few : goal.into_node-requires-clause-few
into_node-requires-clause-few g c =
    omega (
      arith,
      ap length (all_moved c.args.size c.loop.counter c.loop.part c.loop.rest _ (omega (arith, c.loop-test.false)) c.loop.invariant.part),
      length-first c.args.size c.args.rest.now c.requires.enough,
      c.requires.few,
    )

pub into_node-requires-clause-divided : goal.into_node-requires-clause-divided
into_node-requires-clause-divided g c =
    let n = c.args.size in
    let cs = c.args.rest.now in
    subst AreDivided (sym (all_moved n c.loop.counter c.loop.part c.loop.rest _ (omega (arith, c.loop-test.false)) c.loop.invariant.part))
    (divided-first (take n cs) (drop n cs) (subst AreDivided (sym (take-append-drop n cs)) c.requires.divided))

pub returns-clause-node : goal.returns-clause-node
returns-clause-node g c = c.into_node.ensures ∙ ap gathered (all_moved c.args.size c.loop.counter c.loop.part c.loop.rest _ (omega (arith, c.loop-test.false)) c.loop.invariant.part)

pub returns-clause-rest : goal.returns-clause-rest
returns-clause-rest g c = all_passed c.args.size c.loop.counter c.loop.rest _ (omega (arith, c.loop-test.false)) c.loop.invariant.rest
