use Rattle.std.proofs.Common.{◌≡◌, ◌+◌, ◌≤◌, ℕ, [], All, None, length, map, replicate, vec_len, refl, ap, ◌∙◌, sym, subst, arith}
use Rattle.std.proofs.lemmas.List.{nil_from_length}
use Rattle.std.proofs.lemmas.Result.{IfOk-weaker}
use Rattle.crossbeam_queue.specs.Passes.{view}
use Rattle.bt_gang.specs.Run.{AreAllTaken, AreValues, Answered, EachOnce}
use Rattle.bt_gang.specs.inside.Places.{AreEmptyPlaces}
use Rattle.bt_gang.specs.inside.Teams.{HaveServed}
use Rattle.bt_gang.specs.inside.Workers.{IsCaller}
use Rattle.bt_gang.proofs.Filling.{none_listed, none_taken, values_stand}
use Rattle.bt_gang.proofs.job_runs.run_jobs.Goals as goal

same_len : (n len a b : ℕ) → n ≡ len → len ≡ a → b ≡ a → n ≡ b
same_len n len a b e f k = e ∙ (f ∙ sym k)

room_for : (others workers outs all room : ℕ) → others ≡ workers → workers ≡ outs → outs + 1 ≡ all → all ≤ room + 1 → others ≤ room
room_for others workers outs all room e f k l = omega arith

pub returns-then-n-eq0-clause-values : goal.returns-then-n-eq0-clause-values
returns-then-n-eq0-clause-values g c =
    let allows = g.W.Work.allows c.args.work.now in
    let jobs = c.args.jobs.items in
    let none : jobs ≡ [] = nil_from_length jobs (omega (arith, c.len-n.ensures, c.args.jobs.ok.0, c.if-n-eq0.true)) in
    IfOk-weaker c.ran_nothing.result (λ r. r.done.items ≡ []) (λ r. AreValues allows jobs r.done.items) (λ r e value one. e ∙ sym (ap (map value) none)) c.ran_nothing.ensures.done

pub returns-then-n-eq0-clause-taken : goal.returns-then-n-eq0-clause-taken
returns-then-n-eq0-clause-taken g c =
    let none : length c.args.jobs.items ≡ 0 = omega (arith, c.len-n.ensures, c.args.jobs.ok.0, c.if-n-eq0.true) in
    IfOk-weaker c.ran_nothing.result (λ r. r.taken.items ≡ replicate c.args.crew.now.workers []) (λ r. AreAllTaken (length c.args.jobs.items) r.taken.items)
    (λ r e. none_taken (length c.args.jobs.items) c.args.crew.now.workers r.taken.items none e) c.ran_nothing.ensures.taken

pub returns-then-n-eq0-clause-once : goal.returns-then-n-eq0-clause-once
returns-then-n-eq0-clause-once g c =
    let none : length c.args.jobs.items ≡ 0 = omega (arith, c.len-n.ensures, c.args.jobs.ok.0, c.if-n-eq0.true) in
    IfOk-weaker c.ran_nothing.result (λ r. r.taken.items ≡ replicate c.args.crew.now.workers []) (λ r. EachOnce (length c.args.jobs.items) r.taken.items)
    (λ r e. none_listed (length c.args.jobs.items) c.args.crew.now.workers r.taken.items none e) c.ran_nothing.ensures.taken

pub split-workers-requires-clause-outs : goal.split-workers-requires-clause-outs
split-workers-requires-clause-outs g c = λ k d l. let o = c.in-Ok.ensures.outs.0 k d l in (o.0, o.1 ∙ same_len _ _ _ _ c.len-n.ensures c.args.jobs.ok.0 (ap (λ v. length v.items) c.of-all.ensures))

pub serve_threads-served-requires-clause-ready : goal.serve_threads-served-requires-clause-ready
serve_threads-served-requires-clause-ready g c κs within =
    let s = c.split-workers.ensures in
    let r = c.in-Ok.ensures in
    let n : c.len-n.result ≡ length c.of-all.result.value.items = same_len _ _ _ _ c.len-n.ensures c.args.jobs.ok.0 (ap (λ v. length v.items) c.of-all.ensures) in
    let caller = subst (λ k. IsCaller c.of-all.result.value.items k (view c.split-workers.new.pass)) (sym s.len) s.pass.1 in
    record {
      mine = record { ready = record { is = refl; pass = s.pass.0; knows = caller.knows; list = r.out.0; spare = r.out.1 ∙ n }; few = caller.few };
      workers = s.each;
      children = (r.children.0, room_for _ _ _ _ _ refl s.len r.outs.1 r.children.1);
      back = (r.back.0, room_for _ _ _ _ _ refl s.len r.outs.1 r.back.1);
    }

pub serve_threads-served-requires-clause-accepts : goal.serve_threads-served-requires-clause-accepts
serve_threads-served-requires-clause-accepts g c κs within = subst (λ v. All (λ job. g.W.Work.accepts c.args.work.now job) v.items) (sym c.of-all.ensures) c.requires.accepts

pub all_answers-answers-requires-clause-served : goal.all_answers-answers-requires-clause-served
all_answers-answers-requires-clause-served g c κs within =
    let s = c.serve_threads-served in
    subst (λ k. HaveServed (g.W.Work.allows c.args.work.now) c.in-Ok-new.jobs c.of-all.result.value.items k s.result) (sym s.ensures.len) s.ensures

pub all_answers-answers-requires-clause-room : goal.all_answers-answers-requires-clause-room
all_answers-answers-requires-clause-room g c κs within =
    let r = c.in-Ok.ensures in
    (r.answers.0, room_for _ _ _ _ _ c.serve_threads-served.ensures.len c.split-workers.ensures.len r.outs.1 r.answers.1)

pub all_answers-answers-requires-clause-accepts : goal.all_answers-answers-requires-clause-accepts
all_answers-answers-requires-clause-accepts g c κs within = subst (λ v. All (λ job. g.W.Work.accepts c.args.work.now job) v.items) (sym c.of-all.ensures) c.requires.accepts

pub results-requires-clause-places : goal.results-requires-clause-places
results-requires-clause-places g c κs within =
    let workers : c.args.crew.now.workers ≡ vec_len c.all_answers-answers.result.others + 1 =
    omega (arith, c.all_answers-answers.ensures.len, c.serve_threads-served.ensures.len, c.split-workers.ensures.len, c.in-Ok.ensures.outs.1) in
    let n : c.len-n.result ≡ length c.of-all.result.value.items = same_len _ _ _ _ c.len-n.ensures c.args.jobs.ok.0 (ap (λ v. length v.items) c.of-all.ensures) in
    let places = c.in-Ok.room.places in
    subst (λ k. AreEmptyPlaces k (length c.of-all.result.value.items) places) workers (subst (λ k. AreEmptyPlaces c.args.crew.now.workers k places) n c.in-Ok.ensures.places)

pub returns-in-Ok-results-clause-taken : goal.returns-in-Ok-results-clause-taken
returns-in-Ok-results-clause-taken g c = subst (λ v. AreAllTaken (length v.items) c.in-Ok-results.ran.taken.items) c.of-all.ensures c.in-Ok-results.ensures.board

pub returns-in-Ok-results-clause-once : goal.returns-in-Ok-results-clause-once
returns-in-Ok-results-clause-once g c = subst (λ v. EachOnce (length v.items) c.in-Ok-results.ran.taken.items) c.of-all.ensures c.in-Ok-results.ensures.once

pub returns-in-Ok-results-clause-done : goal.returns-in-Ok-results-clause-done
returns-in-Ok-results-clause-done g c = subst (λ v. Answered (g.W.Work.allows c.args.work.now) v.items c.in-Ok-results.ran.done.items) c.of-all.ensures c.in-Ok-results.ensures.done

pub returns-in-Ok-results-clause-values : goal.returns-in-Ok-results-clause-values
returns-in-Ok-results-clause-values g c = values_stand (g.W.Work.allows c.args.work.now) c.args.jobs.items c.in-Ok-results.ran.done.items (returns-in-Ok-results-clause-done g c)
