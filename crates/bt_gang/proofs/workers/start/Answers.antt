use Rattle.std.proofs.Common.{◌≡◌, ◌+◌, ◌<◌, ◌≤◌, ℕ, [], length, vec_len, refl, sym, ap, subst, rules, arith}
use Rattle.bt_gang.specs.inside.Workers.{IsChild, IsReady}
use Rattle.bt_gang.proofs.Working.{from_more, from_next, from_none, from_same}
use Rattle.bt_gang.proofs.workers.start.Goals as goal

counted : (made len left all : ℕ) → made ≡ len → len ≡ 0 → left ≡ all → made + left ≡ all
counted made len left all e f k = omega arith

room_left : (made left more all room : ℕ) → made + more ≡ all → left + 1 ≡ more → all ≤ room → made < room
room_left made left more all room e f l = omega arith

all_made : (made left all : ℕ) → made + left ≡ all → left ≡ 0 → made ≡ all
all_made made left all e none = omega arith

pub loop-worker-init : goal.loop-worker-init
loop-worker-init g c =
    let empty = c.requires.room.0 in
    let given = c.into_iter-worker-iterator.ensures.into_iter_gives in
    let shift = c.args.shift.now in
    record {
      workers = from_same (IsReady shift.jobs.now c.args.all.now.value.items []) _ _ _ _ given.0 (omega (arith, c.args.children.ok.0, ap length empty)) c.requires.workers;
      started = from_none (IsChild shift.work.now shift.jobs.now c.args.all.now.value.items) 1 c.args.children.items empty;
      count = counted _ _ _ _ c.args.children.ok.0 (ap length empty) given.1;
      room = c.requires.room.1;
    }

pub child-requires-clause-worker : goal.child-requires-clause-worker
child-requires-clause-worker g c κs within =
    let shift = c.args.shift.now in
    let ready = IsReady shift.jobs.now c.args.all.now.value.items [] in
    let one = (from_next ready _ _ _ _ _ c.in-Some.ensures.steps.0 refl c.loop-worker.invariant.workers).0 in
    subst (λ n. ready n c.in-Some.worker) (sym one.is) one

pub loop-worker-preserved : goal.loop-worker-preserved
loop-worker-preserved g c =
    let i = c.loop-worker.invariant in
    let shift = c.args.shift.now in
    let started = IsChild shift.work.now shift.jobs.now c.args.all.now.value.items in
    let more = c.push_reserved.ensures in
    let both = from_next (IsReady shift.jobs.now c.args.all.now.value.items []) _ (1 + vec_len c.push_reserved.new.self) _ _ _ c.in-Some.ensures.steps.0 (omega (arith, more.len)) i.workers in
    let one = subst (λ n. started n c.child.result) both.0.is c.child.ensures in
    record {
      workers = both.1;
      started = from_more started 1 _ c.loop-worker.children.items _ c.child.result more.items (ap (λ k. 1 + k) c.loop-worker.children.ok.0) i.started one;
      count = search rules;
      room = search rules;
    }

pub push_reserved-requires : goal.push_reserved-requires
push_reserved-requires g c = let i = c.loop-worker.invariant in room_left _ _ _ _ _ i.count c.in-Some.ensures.steps.1 i.room

pub returns-clause-each : goal.returns-clause-each
returns-clause-each g c = c.loop-worker.invariant.started

pub returns-clause-len : goal.returns-clause-len
returns-clause-len g c = all_made _ _ _ c.loop-worker.invariant.count c.in-None.ensures.steps.0
