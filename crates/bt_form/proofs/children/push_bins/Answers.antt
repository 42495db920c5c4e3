use Rattle.std.proofs.Common.{◌≡◌, ◌-◌, ◌+◌, ◌++◌, ◌∷◌, [], ◌∙◌, suc, ap, append-nil, append_assoc, arith, replicate, sym}
use Rattle.bt_form.proofs.offered.code.ChildLists.{replicate-more}
use Rattle.bt_form.proofs.children.push_bins.Goals as goal

pub loop-init : goal.loop-init
loop-init g c = record {
  pushed = sym (append-nil c.push_reserved.new.self.items);
  room =
      omega (arith, c.requires.room, c.push_reserved.ensures.len, c.push_reserved.ensures.capacity, c.requires.some);
}

pub push_reserved-requires-in-loop : goal.push_reserved-requires-in-loop
push_reserved-requires-in-loop g c = omega (arith, c.loop.invariant.room, c.loop-test.true)

pub loop-preserved : goal.loop-preserved
loop-preserved g c =
    let more : suc (c.loop.counter - 1) ≡ c.loop.counter + 1 - 1 = omega (arith, c.loop.auto.counter) in
    record {
      pushed =
          c.push_reserved-in-loop.ensures.items ∙ ap (λ b. c.loop.bins.items ++ b ∷ []) c.new.ensures ∙ ap (λ bs. bs ++ [] ∷ []) c.loop.invariant.pushed
          ∙ append_assoc c.push_reserved.new.self.items (replicate (c.loop.counter - 1) []) ([] ∷ [])
          ∙ ap (λ bs. c.push_reserved.new.self.items ++ bs) (replicate-more (c.loop.counter - 1) [] ∙ ap (λ n. replicate n []) more);
      room = omega (arith, c.loop.invariant.room, c.loop-test.true, c.push_reserved-in-loop.ensures.len, c.push_reserved-in-loop.ensures.capacity);
    }

pub returns : goal.returns
returns g c =
    let end : c.loop.counter ≡ c.args.count = omega (arith, c.loop.auto.counter-end c.requires.some, c.loop-test.false) in
    c.loop.invariant.pushed ∙ ap (λ bs. bs ++ replicate (c.loop.counter - 1) []) c.push_reserved.ensures.items
    ∙ append_assoc c.args.bins.now.items (c.args.pending ∷ []) (replicate (c.loop.counter - 1) [])
    ∙ ap (λ n. c.args.bins.now.items ++ c.args.pending ∷ replicate (n - 1) []) end
