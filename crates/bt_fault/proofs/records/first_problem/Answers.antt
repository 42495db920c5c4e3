use Rattle.std.proofs.Common.{◌≡◌, ◌∙◌, Some, None, sym, rules, arith}
use Rattle.bt_fault.specs.Problems.{field_problem}
use Rattle.bt_fault.specs.Reasons.{value_problem}
use Rattle.bt_fault.proofs.Placewise.{none_here, problem_here}
use Rattle.bt_fault.proofs.records.first_problem.Goals as goal

pub returns-in-Some : goal.returns-in-Some
returns-in-Some c =
    let found : field_problem c.index-columns-place.result.kind c.get.result.now ≡ Some c.in-Some.problem = search rules in
    sym (c.loop-place.invariant ∙ problem_here value_problem c.args.columns.now c.args.fields.now c.loop-place.place c.index-columns-place.result c.get.result.now c.in-Some.problem
    c.loop-place-test.true (omega (arith, c.loop-place-test.true, c.requires)) c.index-columns-place.is c.get.ensures found)

pub loop-place-preserved : goal.loop-place-preserved
loop-place-preserved c =
    let none : field_problem c.index-columns-place.result.kind c.get.result.now ≡ None = search rules in
    c.loop-place.invariant ∙ none_here value_problem c.args.columns.now c.args.fields.now c.loop-place.place c.index-columns-place.result c.get.result.now
    c.loop-place-test.true (omega (arith, c.loop-place-test.true, c.requires)) c.index-columns-place.is c.get.ensures none
