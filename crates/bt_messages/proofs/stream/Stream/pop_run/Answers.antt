use Rattle.std.proofs.Common.{◌≡◌, ◌≤◌, ◌∙◌, ap, arith, get_or, length, rules}
use Rattle.bt_messages.proofs.RunLists.{run_popped}
use Rattle.bt_messages.proofs.stream.Stream.pop_run.Goals as goal

pub invariant_of-self-2 : goal.invariant_of-self-2
invariant_of-self-2 g c =
    let none : length c.self.inside.first.items ≡ 0 = search rules in
    let popped = run_popped c.self.inside.first.items c.in_ok-run.run' c.self.inside.rest.items c.pop_front.new.self.items c.self.inside.later c.count-2.result
    c.self.invariant none c.in_ok-run.ensures.items c.count-2.ensures.count in
    popped.3

pub returns : goal.returns
returns g c =
    let none : length c.self.inside.first.items ≡ 0 = search rules in
    let popped = run_popped c.self.inside.first.items c.in_ok-run.run' c.self.inside.rest.items c.pop_front.new.self.items c.self.inside.later c.count-2.result
    c.self.invariant none c.in_ok-run.ensures.items c.count-2.ensures.count in
    let same : c.in_ok-next.next.now ≡ c.in_ok-run.run' = c.in_ok-next.ensures.lookup ∙ ap (λ runs. get_or runs 0 c.in_ok-next.next.now) c.in_ok-run.ensures.items in
    let few : length c.in_ok-run.run' ≤ c.args.most = omega (arith, c.if-count-most.false, c.count.ensures.count, ap length same) in
    rw (← c.self.view_is) (popped.0, popped.1, few)
