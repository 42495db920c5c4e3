use Rattle.std.proofs.Common.{◌≡◌, ◌++◌, ◌∙◌, [], ap, arith, deque_len, length}
use Rattle.bt_value.specs.Lists.{concatenation}
use Rattle.bt_messages.proofs.RunLists.{first_popped, some_there}
use Rattle.bt_messages.proofs.stream.Stream.pop.Goals as goal
use Rattle.bt_messages.proofs.stream.Stream.pop.Goals.{else-is_empty, then-is_empty}

pub returns-clause-first : goal.returns-clause-first
returns-clause-first g c =
    let now = c.if-is_empty.self-inside in
    let first = now.first.items in
    let rest = concatenation now.rest.items in
    let whole = c.self.inside.first.items ++ concatenation c.self.inside.rest.items in
    let there : (first ++ rest ≡ whole) × (length first ≡ 0 → first ++ rest ≡ []) = elim c.if-is_empty.branch [
      | then-is_empty w ↦
          let same = ap (λ s. s.first.items ++ concatenation s.rest.items) w.self-inside-is in
          (same ∙ w.refill.ensures.same, λ none. same ∙ w.refill.ensures.led (omega (arith, none, ap (λ s. length s.first.items) w.self-inside-is)))
      | else-is_empty w ↦
          let same = ap (λ s. s.first.items ++ concatenation s.rest.items) w.self-inside-is in
          (same, λ none. absurd (omega (arith, none, ap (λ s. length s.first.items) w.self-inside-is, c.self.inside.first.ok, some_there (deque_len c.self.inside.first) w.if-is_empty.ensures)))
    ] in
    rw (← c.self.view_is) (first_popped _ _ c.pop_front.result whole first c.pop_front.new.self.items rest (deque_len now.first) there.0
    c.pop_front.ensures.items there.1 (omega (arith, now.first.ok)) c.pop_front.ensures.cases)
