use Rattle.std.proofs.Common.{ℕ, ◌+◌, drop, sym, ◌∙◌, ap}
use Rattle.std.proofs.lemmas.List.{at_drop_more, at_drop_all}
use Rattle.bt_journal.specs.Frames.{sum_from}
use Rattle.bt_journal.proofs.frame.sum_after.Goals as goal

pub loop-byte-preserved : goal.loop-byte-preserved
unfolding sum_from
loop-byte-preserved c =
    let bytes = c.args.bytes.now in
    let i = c.loop-byte.byte-index in
    ap (λ (sum : ℕ). sum_from sum (drop (i + 1) bytes)) c.mix-sum.ensures ∙ sym (at_drop_more (sum_from c.loop-byte.sum) bytes i 0 c.loop-byte-test.true) ∙ c.loop-byte.invariant

pub returns : goal.returns
unfolding sum_from
returns c = sym (at_drop_all (sum_from c.loop-byte.sum) c.args.bytes.now c.loop-byte.byte-index c.loop-byte-test.false) ∙ c.loop-byte.invariant
