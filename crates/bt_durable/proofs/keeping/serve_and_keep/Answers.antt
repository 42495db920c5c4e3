use Rattle.std.proofs.Common.{◌≡◌, rules, ℕ, [], List, append-nil, arith, false, subst, sym, true}
use Rattle.bt_frame.specs.declared.arrival.Arrival.{Arrival}
use Rattle.bt_journal.specs.Stores.{disk_of, head_in, state_in}
use Rattle.bt_durable.specs.Inputs.{AreFirst}
use Rattle.bt_durable.specs.Once.{is_compacted_once, once_after, once_reply}
use Rattle.bt_durable.proofs.Arriving.{are_first, none_arrived, none_is_first}
use Rattle.bt_durable.proofs.CompactedParts.{broken_run, ended_compacting, last_run, one_more_run, served_first, served_on}
use Rattle.bt_durable.proofs.Faults.{on_err}
use Rattle.bt_durable.proofs.RepliedParts.{kept_first, replied_none, stopped_none}
use Rattle.bt_durable.proofs.keeping.serve_and_keep.Goals as goal

pub runs-init : goal.runs-init
runs-init g c =
    let d = g.D.Disk in
    let s = g.S.Service in
    let after = once_after s.after s.reply s.changes in
    let reply = once_reply s.after s.reply s.changes in
    let store = c.args.store.now in
    let output = c.args.output.now in
    let contents = g.W.Write.contents in
    let stood = c.standing.ensures c.requires.opened in
    let none = replied_none after reply (s.blank, []) d.moment d.outcome d.outcome_since contents store (λ file now. g.met.D.Disk.only_now (disk_of store) file now)
    (λ arrived. kept_first after reply (s.blank, []) d.contents d.outcome (head_in store) (disk_of store) (state_in store) arrived stood) output (omega arith)
    c.requires.opened in
    record {
      flushed = search rules;
      counted = omega arith;
      run = (
        [],
        none_arrived c.args.most (g.I.Read.remaining c.args.input),
        served_first after reply (s.blank, []) (is_compacted_once g.S.CompactService.is_compacted) d.moment d.outcome d.outcome_since contents store store output output [] none,
      );
    }

pub returns-in_err-rest-clause-stopped : goal.returns-in_err-rest-clause-stopped
returns-in_err-rest-clause-stopped g c =
    let d = g.D.Disk in
    let s = g.S.Service in
    on_err c.from_residual.result
    (broken_run (once_after s.after s.reply s.changes) (once_reply s.after s.reply s.changes) (s.blank, []) (is_compacted_once g.S.CompactService.is_compacted) d.moment
    d.outcome d.outcome_since g.W.Write.contents c.args.store.now c.runs.store c.serve_until.new.store c.args.output.now c.runs.output c.serve_until.new.output c.args.most
    (g.I.Read.remaining c.args.input) (g.I.Read.remaining c.runs.source) (g.I.Read.remaining c.runs.source) c.runs.invariant.run c.in_err-rest.ensures.stopped)

pub returns-then-not-more-clause-replied : goal.returns-then-not-more-clause-replied
returns-then-not-more-clause-replied g c =
    let d = g.D.Disk in
    let s = g.S.Service in
    let more : c.in_ok-rest.more ≡ false = search rules in
    let next = rw more at c.in_ok-rest.ensures.replied in
    last_run (once_after s.after s.reply s.changes) (once_reply s.after s.reply s.changes) (s.blank, []) (is_compacted_once g.S.CompactService.is_compacted) d.moment d.outcome
    d.outcome_since g.W.Write.contents c.args.store.now c.runs.store c.serve_until.new.store c.args.output.now c.runs.output c.serve_until.new.output c.args.most
    (g.I.Read.remaining c.args.input) (g.I.Read.remaining c.runs.source) (g.I.Read.remaining c.in_ok-rest.rest) c.runs.invariant.run next

pub returns-in_err-checkpoint-clause-stopped : goal.returns-in_err-checkpoint-clause-stopped
returns-in_err-checkpoint-clause-stopped g c =
    let d = g.D.Disk in
    let s = g.S.Service in
    let after = once_after s.after s.reply s.changes in
    let reply = once_reply s.after s.reply s.changes in
    let compacted = is_compacted_once g.S.CompactService.is_compacted in
    let contents = g.W.Write.contents in
    let known = g.I.Read.remaining c.args.input in
    let left = g.I.Read.remaining c.in_ok-rest.rest in
    let store = c.serve_until.new.store in
    let output = c.serve_until.new.output in
    let more : c.in_ok-rest.more ≡ true = search rules in
    let next = rw more at c.in_ok-rest.ensures.replied in
    let run = one_more_run after reply (s.blank, []) compacted d.moment d.outcome d.outcome_since contents c.args.store.now c.runs.store store c.args.output.now c.runs.output
    output c.args.most known (g.I.Read.remaining c.runs.source) left c.runs.invariant.run next in
    on_err c.from_residual-in_err-checkpoint.result (
      run.0,
      [],
      subst (λ (l : List (Arrival × List ℕ)). AreFirst c.args.most known l) (sym (append-nil run.0)) (are_first c.args.most known left run.0 run.1),
      ended_compacting after reply (s.blank, []) compacted d.moment d.outcome d.outcome_since contents c.args.store.now store c.checkpoint.new.self c.args.output.now output
          output run.0 run.2 (c.checkpoint.ensures.any_moment run.2.opened)
          (λ file now later. g.met.D.Disk.counts_now (disk_of c.checkpoint.new.self) (d.moment (disk_of store)) file later now),
    )

pub runs-preserved : goal.runs-preserved
runs-preserved g c =
    let d = g.D.Disk in
    let s = g.S.Service in
    let after = once_after s.after s.reply s.changes in
    let reply = once_reply s.after s.reply s.changes in
    let compacted = is_compacted_once g.S.CompactService.is_compacted in
    let contents = g.W.Write.contents in
    let left = g.I.Read.remaining c.in_ok-rest.rest in
    let store = c.serve_until.new.store in
    let output = c.serve_until.new.output in
    let more : c.in_ok-rest.more ≡ true = search rules in
    let next = rw more at c.in_ok-rest.ensures.replied in
    let run = one_more_run after reply (s.blank, []) compacted d.moment d.outcome d.outcome_since contents c.args.store.now c.runs.store store c.args.output.now c.runs.output
    output c.args.most (g.I.Read.remaining c.args.input) (g.I.Read.remaining c.runs.source) left c.runs.invariant.run next in
    let made = c.in_ok-checkpoint.ensures in
    record {
      flushed = search rules;
      counted = omega (arith, c.runs.invariant.counted, c.serve_until.ensures.counted, c.checkpoint.ensures.counted);
      run = (
        run.0,
        run.1,
        served_on after reply (s.blank, []) compacted d.moment d.outcome d.outcome_since contents c.args.store.now store c.checkpoint.new.self c.args.output.now output output run.0
            run.2 (c.checkpoint.ensures.any_moment run.2.opened) c.in_ok-checkpoint.field-0 made.open.1 c.checkpoint.ensures.head made.acknowledged made.unchanged,
      );
    }

pub returns-clause-stopped : goal.returns-clause-stopped
returns-clause-stopped g c =
    let d = g.D.Disk in
    let s = g.S.Service in
    let after = once_after s.after s.reply s.changes in
    let reply = once_reply s.after s.reply s.changes in
    let contents = g.W.Write.contents in
    let known = g.I.Read.remaining c.args.input in
    let between = g.I.Read.remaining c.runs.source in
    let run = c.runs.invariant.run in
    let store = c.runs.store in
    let stood = c.standing-2.ensures run.2.opened in
    broken_run after reply (s.blank, []) (is_compacted_once g.S.CompactService.is_compacted) d.moment d.outcome d.outcome_since contents c.args.store.now store store
    c.args.output.now c.runs.output c.runs.output c.args.most known between between run (
      [],
      [],
      none_is_first c.args.most between,
      stopped_none after reply (s.blank, []) d.moment d.outcome d.outcome_since contents store (λ file now. g.met.D.Disk.only_now (disk_of store) file now)
          (λ arrived. kept_first after reply (s.blank, []) d.contents d.outcome (head_in store) (disk_of store) (state_in store) arrived stood) c.runs.output (omega arith) [],
    )
