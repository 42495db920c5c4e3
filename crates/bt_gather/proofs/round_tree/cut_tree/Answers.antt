use Rattle.std.proofs.Common.{arith}
use Rattle.bt_message.specs.Meanings.{meaning_of}
use Rattle.bt_gather.proofs.CutJobs.{cut-jobs}
use Rattle.bt_gather.proofs.round_tree.cut_tree.Goals as goal

pub returns-clause-jobs : goal.returns-clause-jobs
returns-clause-jobs g c =
    let cut = c.in_ok-holed.ensures in
    cut-jobs (meaning_of g.V.Merge.terms) c.args.tree c.has_shape.ensures c.in_ok-holed.holed c.in_ok-holed.jobs.items c.args.number c.args.packet c.args.depth c.args.mode
    cut.pieces cut.stand cut.rise cut.fills c.shape-shape.result c.shape-shape.ensures c.len-count.result (omega (arith, c.len-count.ensures, c.in_ok-holed.jobs.ok.0))
    c.in_ok-room.room (c.in_ok-room.ensures.items, c.in_ok-room.ensures.capacity) c.in_ok-jobs.jobs.items c.in_ok-jobs.ensures
