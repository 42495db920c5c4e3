use Rattle.std.proofs.Common.{◌≡◌, ◌==◌, ◌∙◌, ◌<◌, Some, None, ap, arith, false, if◌then◌else◌, length, rules, sym, true}
use Rattle.std.specs.Cmp.Lexicographic.{pointwise}
use Rattle.bt_fault.specs.Calls.{name_problem}
use Rattle.bt_fault.specs.declared.problem.Problem.TheVariants.{OtherName}
use Rattle.bt_fault.proofs.Placewise.{none_here, problem_here}
use Rattle.bt_fault.proofs.load.other_name.Goals as goal

pub returns-then-not-is_named : goal.returns-then-not-is_named
returns-then-not-is_named c =
    let column = c.index-columns-place.result in
    let name = c.get.result.now in
    let within : c.loop-place.place < length c.args.names.now = omega (arith, c.loop-place-test.true, c.requires) in
    let other : pointwise ◌==◌ column.name name ≡ false = search rules in
    sym (c.loop-place.invariant ∙ problem_here name_problem c.args.columns.now c.args.names.now c.loop-place.place column name OtherName c.loop-place-test.true within
    c.index-columns-place.is c.get.ensures (ap (λ b. if b then None else Some OtherName) other))

pub loop-place-preserved : goal.loop-place-preserved
loop-place-preserved c =
    let column = c.index-columns-place.result in
    let name = c.get.result.now in
    let within : c.loop-place.place < length c.args.names.now = omega (arith, c.loop-place-test.true, c.requires) in
    let same : pointwise ◌==◌ column.name name ≡ true = search rules in
    c.loop-place.invariant ∙ none_here name_problem c.args.columns.now c.args.names.now c.loop-place.place column name c.loop-place-test.true within
    c.index-columns-place.is c.get.ensures (ap (λ b. if b then None else Some OtherName) same)
