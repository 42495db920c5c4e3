use Rattle.std.proofs.Common.{◌≡◌, ◌<◌, ◌+◌, ◌-◌, ◌∙◌, ◌++◌, [], ap, arith, drop, length, rules, subst, suc}
use Rattle.bt_keycode.specs.Keys.{AllFrom}
use Rattle.bt_value.specs.Lists.{concatenation}
use Rattle.bt_messages.proofs.RunLists.{IsInRun, Parts, counted_within, from_front, placed_run, sorted_left, sorted_right}
use Rattle.bt_messages.proofs.Sharing.{any_default}
use Rattle.bt_messages.proofs.stream.Stream.count_before.Given.{Over}
use Rattle.bt_messages.proofs.stream.Stream.count_before.Goals as goal

pub runs_before-runs-requires-clause-sorted : goal.runs_before-runs-requires-clause-sorted
runs_before-runs-requires-clause-sorted g c = sorted_right c.self.inside.first.items (concatenation c.self.inside.rest.items) c.self.invariant.sorted

pub count_before-requires : goal.count_before-requires
count_before-requires g c = sorted_left c.self.inside.first.items (concatenation c.self.inside.rest.items) c.self.invariant.sorted

pub returns-then-runs-eq0-clause-from : goal.returns-then-runs-eq0-clause-from
returns-then-runs-eq0-clause-from g c =
    let key = c.args.key.now in
    let rest = c.self.inside.rest.items in
    let none : c.runs_before-runs.result ≡ 0 = search rules in
    let later = subst (λ n. AllFrom key (concatenation (drop n rest))) none c.runs_before-runs.ensures.from in
    rw (← c.self.view_is) (from_front key c.self.inside.first.items (concatenation rest) c.count_before.result c.count_before.ensures.bound c.count_before.ensures.from later)

pub overflow_add-result : goal.overflow_add-result
overflow_add-result g c =
    let counted = counted_within c.self.inside.first.items c.self.inside.rest.items _ c.runs_before-runs.result c.len.result c.count_of-before.result [] c.self.invariant (search rules)
    c.runs_before-runs.ensures.bound (search rules) c.count_of-before.ensures in
    omega (arith, counted)

pub overflow_add-result-2 : goal.overflow_add-result-2
overflow_add-result-2 g c =
    let run = c.index.result.now in
    let counted = counted_within c.self.inside.first.items c.self.inside.rest.items _ c.runs_before-runs.result c.len.result c.count_of-before.result run c.self.invariant (search rules)
    c.runs_before-runs.ensures.bound (search rules) c.count_of-before.ensures in
    omega (arith, counted, c.count_before-2.ensures.bound, ap length c.index.ensures)

placed : (g : Over) (c : goal.After-count_before-2 g) →
    Parts c.args.key.now (c.len.result + c.count_of-before.result + c.count_before-2.result) (c.self.inside.first.items ++ concatenation c.self.inside.rest.items)
placed g c =
    let key = c.args.key.now in
    let first = c.self.inside.first.items in
    let rest = c.self.inside.rest.items in
    let runs = c.runs_before-runs.result in
    let last = runs - 1 in
    let some : 0 < runs = search rules in
    let next : runs ≡ suc last = omega (arith, some) in
    let within : last < length rest = omega (arith, some, c.runs_before-runs.ensures.bound) in
    let found : IsInRun key rest last c.count_before-2.result = record {
      run = c.index.result.now;
      within = within;
      is = c.index.ensures ∙ any_default rest last c.index.result.now [] within;
      begins = c.runs_before-runs.ensures.last some;
      later = subst (λ n. AllFrom key (concatenation (drop n rest))) next c.runs_before-runs.ensures.from;
      bound = c.count_before-2.ensures.bound;
      before = c.count_before-2.ensures.before;
      from = c.count_before-2.ensures.from;
    } in
    let led : c.len.result ≡ length first = search rules in
    placed_run key first rest last c.count_before-2.result (c.len.result + c.count_of-before.result + c.count_before-2.result) c.self.invariant.sorted found
    (omega (arith, led, c.count_of-before.ensures))

pub returns-clause-before : goal.returns-clause-before
returns-clause-before g c = rw (← c.self.view_is) (placed g c).0

pub returns-clause-from : goal.returns-clause-from
returns-clause-from g c = rw (← c.self.view_is) (placed g c).1
