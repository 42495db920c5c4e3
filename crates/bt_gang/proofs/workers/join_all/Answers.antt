use Rattle.std.proofs.Common.{◌+◌, ℕ, length, vec_len, ap, rules, arith}
use Rattle.bt_gang.specs.inside.Workers.{HasServedIfStarted, IsChild}
use Rattle.bt_gang.proofs.Working.{from_more, from_next, from_none, from_same}
use Rattle.bt_gang.proofs.workers.join_all.Goals as goal

pub loop-child-init : goal.loop-child-init
loop-child-init g c =
    let empty = c.requires.room.0 in
    let given = c.into_iter-child-iterator.ensures.into_iter_gives in
    let shift = c.args.shift.now in
    record {
      children = from_same (IsChild shift.work.now shift.jobs.now c.args.all.now.value.items) _ _ _ _ given.0 (omega (arith, c.args.back.ok.0, ap length empty)) c.requires.children;
      back = from_none (HasServedIfStarted (g.W.Work.allows shift.work.now) shift.jobs.now c.args.all.now.value.items) 1 c.args.back.items empty;
      count = omega (arith, c.args.back.ok.0, ap length empty, given.1);
      room = c.requires.room.1;
    }

pub loop-child-preserved : goal.loop-child-preserved
loop-child-preserved g c =
    let i = c.loop-child.invariant in
    let shift = c.args.shift.now in
    let more = c.push_reserved.ensures in
    let number = 1 + vec_len c.loop-child.back in
    let both = from_next (IsChild shift.work.now shift.jobs.now c.args.all.now.value.items) number (1 + vec_len c.push_reserved.new.self) _ _ _
    c.in-Some.ensures.steps.0 (omega (arith, more.len)) i.children in
    record {
      children = both.1;
      back = from_more (HasServedIfStarted (g.W.Work.allows shift.work.now) shift.jobs.now c.args.all.now.value.items) 1 number c.loop-child.back.items _
          c.join.result more.items (ap (λ k. 1 + k) c.loop-child.back.ok.0) i.back (c.join.ensures number both.0);
      count = search rules;
      room = search rules;
    }
