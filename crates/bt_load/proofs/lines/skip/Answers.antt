use Rattle.std.proofs.Common.{◌∙◌, ap, drop}
use Rattle.std.proofs.lemmas.List.{drop-drop}
use Rattle.bt_load.proofs.Lefts.{taken}
use Rattle.bt_load.proofs.lines.skip.Goals as goal

pub loop-preserved : goal.loop-preserved
loop-preserved c =
    taken c.loop.records c.next.new.self c.next.result c.next.ensures.some c.next.ensures.none ∙ ap (drop 1) c.loop.invariant ∙ drop-drop 1 c.loop.counter c.args.records
