use Rattle.std.proofs.Common.{All, sym, subst, vec_len}
use Rattle.bt_gang.proofs.Finishing.{HasFinished, have_come, jobs_last, room_last}
use Rattle.bt_gang.proofs.Working.{one_list, took_list}
use Rattle.bt_gang.proofs.team.all_answers.Goals as goal

pub take_in-others-requires-clause-pass : goal.take_in-others-requires-clause-pass
take_in-others-requires-clause-pass g c κs within = let mine = c.requires.served.mine.served in (mine.pass, one_list _ _ _ _ mine.knows)

pub take_in-others-requires-clause-workers : goal.take_in-others-requires-clause-workers
take_in-others-requires-clause-workers g c κs within = c.requires.served.others

pub serve-requires-clause-pass : goal.serve-requires-clause-pass
serve-requires-clause-pass g c κs within =
    let t = c.take_in-others.ensures.pass in
    (t.0, took_list _ _ c.take_in-others.result.items t.1 (one_list _ _ _ _ c.requires.served.mine.served.knows))

pub serve-requires-clause-spare : goal.serve-requires-clause-spare
serve-requires-clause-spare g c κs within = room_last (g.W.Work.allows c.args.shift.now.work.now) c.take_in-others.result.items c.requires.served.mine c.take_in-others.ensures.pass.1

pub serve-requires-clause-accepts : goal.serve-requires-clause-accepts
serve-requires-clause-accepts g c κs within =
    let shift = c.args.shift.now in
    subst (All (λ job. g.W.Work.accepts shift.work.now job))
    (sym (jobs_last (g.W.Work.allows shift.work.now) c.take_in-others.result.items c.requires.served.mine c.take_in-others.ensures.pass.1))
    c.requires.accepts

pub returns-clause-come : goal.returns-clause-come
returns-clause-come g c =
    let shift = c.args.shift.now in
    let allows = g.W.Work.allows shift.work.now in
    let taken_in = c.take_in-others.ensures in
    let finished : HasFinished allows (vec_len c.args.served.others) c.args.served c.take_in-others.result.items _ _ c.serve.new.out = record {
      count = c.args.served.others.ok.0;
      back = taken_in.outs;
      took = taken_in.pass.1;
      gains = c.serve.ensures.gains;
      last = c.serve.ensures.last;
      settled = c.serve.ensures.settled;
    } in
    have_come allows c.requires.served finished
