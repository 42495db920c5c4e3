use Rattle.std.proofs.Common.{◌∷◌, ◌++◌, [], ◌∙◌, ap, arith}
use Rattle.std.proofs.lemmas.Grind.{common_steps}
use Rattle.bt_messages.proofs.Totals.{replicate_more}
use Rattle.bt_messages.proofs.bins.push_empty.Goals as goal

pub loop-preserved : goal.loop-preserved
loop-preserved g c = record {
  pushed = replicate_more c.args.count c.loop.counter _ c.loop.buffers.items c.push_reserved.new.self.items _ c.loop-test.true c.loop.invariant.pushed
      (c.push_reserved.ensures.items ∙ ap (λ x. c.loop.buffers.items ++ x ∷ []) c.new.ensures);
  len = grind (arith, common_steps);
  capacity = grind (arith, common_steps);
}
