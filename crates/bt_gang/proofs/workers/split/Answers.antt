use Rattle.std.proofs.Common.{◌≡◌, ◌+◌, ◌<◌, ℕ, suc, [], length, vec_len, sym, ap, subst, rules, arith}
use Rattle.std.proofs.lemmas.List.Elements.{All-head, All-rest, All-same}
use Rattle.crossbeam_queue.specs.Passes.{view}
use Rattle.bt_gang.specs.declared.answers.Answers.{Answers}
use Rattle.bt_gang.specs.declared.workers.Worker.{Worker}
use Rattle.bt_gang.specs.declared.crew.TheConstants.{MOST_WORKERS}
use Rattle.bt_gang.specs.Numbered.{present}
use Rattle.bt_gang.specs.inside.Workers.{IsCaller, IsReady}
use Rattle.bt_gang.proofs.Rules.{forks}
use Rattle.bt_gang.proofs.Working.{caller_first, caller_next, from_more, from_none}
use Rattle.bt_gang.proofs.workers.split.Goals as goal

all_split : (made left outs : ℕ) → made + left ≡ outs → left ≡ 0 → made ≡ outs
all_split made left outs e none = omega arith

counted : (made left all : ℕ) → made ≡ 0 → left ≡ all → made + left ≡ all
counted made left all e f = omega arith

pub loop-out-init : goal.loop-out-init
loop-out-init g c =
    let all = c.args.all.now.value.items in
    let given = c.into_iter-out-iterator.ensures.into_iter_gives in
    let empty = c.requires.room.0 in
    let zero : vec_len c.args.workers ≡ 0 = omega (arith, ap length empty, c.args.workers.ok.0) in
    let P : Answers g.row.D.Denot g.row.F.Denot → Type 0 = λ a. (present a.list ≡ []) × (a.spare ≡ length all) in
    let Q : ℕ → Worker g.row.J.Denot g.row.D.Denot g.row.F.Denot → Type 0 = IsReady c.args.jobs.now all [] in
    record {
      pass = c.requires.pass.0;
      caller = subst (λ k. IsCaller all k (view c.args.pass.now)) (sym zero) (caller_first all _ c.requires.pass.1);
      outs = All-same P _ _ given.0 c.requires.outs;
      count = counted _ _ _ zero given.1;
      few = c.requires.room.1;
      room = c.requires.room.2;
      each = from_none Q 1 c.args.workers.items empty;
    }

pub another-theirs-requires-clause-rule : goal.another-theirs-requires-clause-rule
another-theirs-requires-clause-rule g c = forks MOST_WORKERS _ _

pub loop-out-preserved : goal.loop-out-preserved
loop-out-preserved g c =
    let i = c.loop-out.invariant in
    let s = c.in-Some.ensures.steps in
    let all = c.args.all.now.value.items in
    let P : Answers g.row.D.Denot g.row.F.Denot → Type 0 = λ a. (present a.list ≡ []) × (a.spare ≡ length all) in
    let Q : ℕ → Worker g.row.J.Denot g.row.D.Denot g.row.F.Denot → Type 0 = IsReady c.args.jobs.now all [] in
    let few : suc (vec_len c.loop-out.workers) < MOST_WORKERS = omega (arith, i.count, i.few, s.1) in
    let n = caller_next all _ _ (view c.loop-out.pass) _ _ i.caller few c.push_reserved.ensures.len c.another-theirs.ensures.rule.0 c.another-theirs.ensures.rule.1 in
    let one : P c.in-Some.out = All-head P c.in-Some.out _ (All-same P _ _ (sym s.0) i.outs) in
    let ready : Q (vec_len c.push_reserved.new.self) (record { number = c.len-number.result + 1; pass = c.another-theirs.result; out = c.in-Some.out }) =
    record { is = omega (arith, c.len-number.ensures, c.push_reserved.ensures.len); pass = c.another-theirs.ensures.queue.1; knows = n.1; list = one.0; spare = one.1 } in
    record {
      pass = search rules;
      caller = n.0;
      outs = All-rest P c.in-Some.out _ _ s.0 i.outs;
      count = search rules;
      few = i.few;
      room = search rules;
      each = from_more Q 1 (vec_len c.push_reserved.new.self) c.loop-out.workers.items _ _ c.push_reserved.ensures.items
          (omega (arith, c.push_reserved.ensures.len, c.loop-out.workers.ok.0)) i.each ready;
    }

pub returns-clause-pass : goal.returns-clause-pass
returns-clause-pass g c =
    let i = c.loop-out.invariant in
    (i.pass, subst (λ k. IsCaller c.args.all.now.value.items k (view c.loop-out.pass)) (all_split _ _ _ i.count c.in-None.ensures.steps.0) i.caller)
