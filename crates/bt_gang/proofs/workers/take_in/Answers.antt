use Rattle.std.proofs.Common.{◌≡◌, ◌+◌, ◌++◌, ℕ, [], ◌∷◌, List, Option, None, Some, IfSome, Result, refl, length, map, vec_len, sym, ap, ◌∙◌, append_assoc, append-nil, rules, arith}
use Rattle.std.proofs.lemmas.List.{nil_from_length}
use Rattle.crossbeam_queue.specs.Passes.{view, IsPassOf}
use Rattle.bt_gang.specs.declared.answers.Answers.{Answers}
use Rattle.bt_gang.specs.declared.jobs.Jobs.{Jobs}
use Rattle.bt_gang.specs.declared.workers.Worker.{Worker}
use Rattle.bt_gang.specs.inside.Workers.{HasServedIfStarted, out_of}
use Rattle.bt_gang.proofs.Working.{from_next, from_same, took_list, took_more, took_nothing}
use Rattle.bt_gang.proofs.workers.take_in.Goals as goal

counted : (made len left all : ℕ) → made ≡ len → len ≡ 0 → left ≡ all → made + left ≡ all
counted made len left all e f k = omega arith

-- the answers so far, and those of the workers that are left
outs_more : {J D F : Type 0} (outs more : List (Option (Answers D F))) (w : Option (Worker J D F)) (left rest : List (Option (Worker J D F))) (all : List (Option (Answers D F)))
    → left ≡ w ∷ rest → more ≡ outs ++ out_of w ∷ [] → outs ++ map out_of left ≡ all → more ++ map out_of rest ≡ all
outs_more outs more w left rest all e f g =
    ap (λ l. l ++ map out_of rest) f ∙ (append_assoc outs (out_of w ∷ []) (map out_of rest) ∙ (ap (λ l. outs ++ map out_of l) (sym e) ∙ g))

outs_none : {J D F : Type 0} (outs : List (Option (Answers D F))) → outs ≡ [] → (left all : List (Option (Worker J D F))) → left ≡ all → outs ++ map out_of left ≡ map out_of all
outs_none outs none left all e = ap (λ l. l ++ map out_of left) none ∙ ap (map out_of) e

pass_back : {J D F : Type 0} (allows : J → Result D F → Type 0) (jobs : Jobs J D F) (all : List J) (number : ℕ) (w : Option (Worker J D F))
    → HasServedIfStarted allows jobs all number w → IfSome w (λ w. IsPassOf jobs.queue w.pass)
pass_back allows jobs all number None h = tt
pass_back allows jobs all number (Some w) h = h.pass

pub loop-worker-init : goal.loop-worker-init
loop-worker-init g c =
    let empty = c.requires.room.0 in
    let given = c.into_iter-worker-iterator.ensures.into_iter_gives in
    let shift = c.args.shift.now in
    record {
      pass = c.requires.pass.0;
      took = took_nothing (view c.args.pass.now) c.args.outs.items empty;
      workers = from_same (HasServedIfStarted (g.W.Work.allows shift.work.now) shift.jobs.now c.args.all.now.value.items) _ _ _ _ given.0
          (omega (arith, c.args.outs.ok.0, ap length empty)) c.requires.workers;
      outs = outs_none c.args.outs.items empty _ _ given.0;
      count = counted _ _ _ _ c.args.outs.ok.0 (ap length empty) given.1;
      room = c.requires.room.1;
    }

pub take_one-requires-clause-worker : goal.take_one-requires-clause-worker
take_one-requires-clause-worker g c κs within =
    let shift = c.args.shift.now in
    let allows = g.W.Work.allows shift.work.now in
    pass_back allows shift.jobs.now c.args.all.now.value.items _ c.in-Some.worker
    (from_next (HasServedIfStarted allows shift.jobs.now c.args.all.now.value.items) _ _ _ _ _ c.in-Some.ensures.steps.0 refl
    c.loop-worker.invariant.workers).0

pub take_one-requires-clause-pass : goal.take_one-requires-clause-pass
take_one-requires-clause-pass g c κs within = (c.loop-worker.invariant.pass, took_list (view c.args.pass.now) _ c.loop-worker.outs.items c.loop-worker.invariant.took c.requires.pass.1)

pub loop-worker-preserved : goal.loop-worker-preserved
loop-worker-preserved g c =
    let i = c.loop-worker.invariant in
    let s = c.in-Some.ensures.steps in
    let shift = c.args.shift.now in
    let more = c.push_reserved.ensures in
    let number = 1 + vec_len c.loop-worker.outs in
    let both = from_next (HasServedIfStarted (g.W.Work.allows shift.work.now) shift.jobs.now c.args.all.now.value.items) number
    (1 + vec_len c.push_reserved.new.self) _ _ _ s.0 (omega (arith, more.len)) i.workers in
    record {
      pass = c.take_one.ensures.pass;
      took = took_more (view c.args.pass.now) _ _ c.loop-worker.outs.items _ _ number more.items (ap (λ k. 1 + k) c.loop-worker.outs.ok.0) i.took (c.take_one.ensures.took number both.0);
      workers = both.1;
      outs = outs_more _ _ c.in-Some.worker _ _ _ s.0 (more.items ∙ ap (λ o. c.loop-worker.outs.items ++ o ∷ []) c.take_one.ensures.out) i.outs;
      count = search rules;
      room = search rules;
    }

pub returns-clause-outs : goal.returns-clause-outs
returns-clause-outs g c =
    let left = c.loop-worker.worker-iterator.rest in
    let none : left.items ≡ [] = nil_from_length left.items (omega (arith, left.ok.0, c.in-None.ensures.steps.0)) in
    sym (append-nil c.loop-worker.outs.items) ∙ (sym (ap (λ l. c.loop-worker.outs.items ++ map out_of l) none) ∙ c.loop-worker.invariant.outs)
