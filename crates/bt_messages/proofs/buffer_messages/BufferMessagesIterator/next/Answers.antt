use Rattle.std.proofs.Common.{◌++◌, ◌∙◌, ap, arith, sym}
use Rattle.std.proofs.lemmas.List.{nil_from_length}
use Rattle.bt_value.specs.Lists.{concatenation}
use Rattle.bt_messages.proofs.buffer_messages.BufferMessagesIterator.next.Goals as goal

pub loop-self-init : goal.loop-self-init
loop-self-init g c = c.self.view_is

pub loop-self-preserved : goal.loop-self-preserved
loop-self-preserved g c =
    let others = c.loop-self.self-inside.others.now in
    let none = nil_from_length c.loop-self.self-inside.first (sym c.count_left.ensures ∙ c.loop-self-test.true) in
    ap (λ ms. ms ++ concatenation c.in_ok-buffer.others.now) c.iter-self-inside.ensures.messages
    ∙ sym (ap concatenation c.in_ok-buffer.ensures.cases.0) ∙ sym (ap (λ ms. ms ++ concatenation others) none) ∙ c.loop-self.invariant

pub loop-self-smaller : goal.loop-self-smaller
loop-self-smaller g c = omega (arith, c.in_ok-buffer.ensures.cases.1)
