use Rattle.std.proofs.Common.{◌+◌, ◌*◌, drop, length}
use Rattle.std.specs.List.{zip}
use Rattle.std.specs.Vec.Iter.{into_iter_items}
use Rattle.bt_messages.specs.Parts.{total}
use Rattle.bt_message.specs.Meanings.{meaning_of}
use Rattle.bt_messages.specs.Shares.{counts}
use Rattle.bt_form.specs.Trees.{height}
use Rattle.bt_form.specs.inside.Flushing.{with_shares}
use Rattle.bt_flush.proofs.lemmas.code.FlushLoop.{UnderWay}
use Rattle.bt_flush.proofs.lemmas.code.OpeningStep.{highest, pass}
use Rattle.bt_flush.proofs.flushing.+flushes.Given as goal

-- the children so far, and then the result of the pass for those that are left with what is left of the stream
abbrev pub invariant-flush_marked-loop-pivot : goal.invariant-flush_marked-loop-pivot
invariant-flush_marked-loop-pivot g l =
    let meaning = meaning_of g.V.Merge.terms in
    let opened = l.fn.opened in
    UnderWay meaning l.mode l.shape (pass meaning l.mode l.shape (zip (with_shares opened.children (counts opened.shares.items) l.fn.stream) opened.marks.items))
    (drop (total (counts opened.shares.items)) l.fn.stream) (highest opened.children) l.parts l.children (into_iter_items l.shares) l.stream l.marks

abbrev pub decreases-flush_marked-loop-pivot : goal.decreases-flush_marked-loop-pivot
decreases-flush_marked-loop-pivot g l = length l.children

abbrev pub decreases-flush : goal.decreases-flush
decreases-flush g l = 4 * height l.node

abbrev pub decreases-flush_child : goal.decreases-flush_child
decreases-flush_child g l = 4 * height l.node + 1

abbrev pub decreases-flush_marked : goal.decreases-flush_marked
decreases-flush_marked g l = 4 * highest l.opened.children + 3
