use Rattle.std.proofs.Common.{◌≡◌, rules, [], true, false, arith}
use Rattle.bt_journal.specs.Stores.{disk_of, head_in, state_in}
use Rattle.bt_durable.proofs.Arriving.{none_arrived, none_is_first}
use Rattle.bt_durable.proofs.Faults.{on_err}
use Rattle.bt_durable.proofs.RepliedParts.{broken_group, kept_first, last_group, one_more_group, replied_none, stopped_none}
use Rattle.bt_durable.proofs.keeping.serve_until.Goals as goal

pub returns-in_err-room-clause-stopped : goal.returns-in_err-room-clause-stopped
returns-in_err-room-clause-stopped g c =
    let d = g.D.Disk in
    let s = g.S.Service in
    let store = c.args.store.now in
    let stood = c.standing.ensures c.requires.opened in
    on_err c.from_residual.result (
      [],
      [],
      none_is_first c.args.most (g.I.Read.remaining c.args.input),
      stopped_none s.after s.reply s.blank d.moment d.outcome d.outcome_since g.W.Write.contents store (λ file now. g.met.D.Disk.only_now (disk_of store) file now)
          (λ arrived. kept_first s.after s.reply s.blank d.contents d.outcome (head_in store) (disk_of store) (state_in store) arrived stood) c.args.output.now (omega arith) [],
    )

pub groups-init : goal.groups-init
groups-init g c =
    let d = g.D.Disk in
    let s = g.S.Service in
    let store = c.args.store.now in
    let stood = c.standing.ensures c.requires.opened in
    record {
      piece = search rules;
      flushed = search rules;
      counted = omega arith;
      run = (
        [],
        none_arrived c.args.most (g.I.Read.remaining c.args.input),
        replied_none s.after s.reply s.blank d.moment d.outcome d.outcome_since g.W.Write.contents store (λ file now. g.met.D.Disk.only_now (disk_of store) file now)
            (λ arrived. kept_first s.after s.reply s.blank d.contents d.outcome (head_in store) (disk_of store) (state_in store) arrived stood) c.args.output.now (omega arith)
            c.requires.opened,
      );
    }

pub returns-in_err-rest-clause-stopped : goal.returns-in_err-rest-clause-stopped
returns-in_err-rest-clause-stopped g c =
    let d = g.D.Disk in
    let s = g.S.Service in
    on_err c.from_residual-in_err-rest.result
    (broken_group s.after s.reply s.blank d.moment d.outcome d.outcome_since g.W.Write.contents c.args.store.now c.groups.store c.serve_group.new.store c.args.output.now
    c.groups.output c.serve_group.new.output c.args.most (g.I.Read.remaining c.args.input) (g.I.Read.remaining c.groups.source) (g.I.Read.remaining c.groups.source)
    c.groups.invariant.run c.in_err-rest.ensures.stopped)

pub groups-preserved : goal.groups-preserved
groups-preserved g c =
    let d = g.D.Disk in
    let s = g.S.Service in
    let more : c.in_ok-rest.more ≡ true = search rules in
    let next = rw more at c.in_ok-rest.ensures.replied in
    record {
      piece = search rules;
      flushed = search rules;
      counted = omega (arith, c.groups.invariant.counted, c.serve_group.ensures.counted);
      run = one_more_group s.after s.reply s.blank d.moment d.outcome d.outcome_since g.W.Write.contents c.args.store.now c.groups.store c.serve_group.new.store c.args.output.now
          c.groups.output c.serve_group.new.output c.args.most (g.I.Read.remaining c.args.input) (g.I.Read.remaining c.groups.source)
          (g.I.Read.remaining c.in_ok-rest.rest) c.groups.invariant.run next;
    }

pub returns-then-not-more-clause-replied : goal.returns-then-not-more-clause-replied
returns-then-not-more-clause-replied g c =
    let d = g.D.Disk in
    let s = g.S.Service in
    let more : c.in_ok-rest.more ≡ false = search rules in
    let next = rw more at c.in_ok-rest.ensures.replied in
    last_group s.after s.reply s.blank d.moment d.outcome d.outcome_since g.W.Write.contents c.args.store.now c.groups.store c.serve_group.new.store c.args.output.now
    c.groups.output c.serve_group.new.output c.args.most (g.I.Read.remaining c.args.input) (g.I.Read.remaining c.groups.source)
    (g.I.Read.remaining c.in_ok-rest.rest) c.groups.invariant.run next

pub serve_group-requires-clause-opened : goal.serve_group-requires-clause-opened
serve_group-requires-clause-opened g c = c.groups.invariant.run.2.opened

pub returns-then-not-more-clause-kept : goal.returns-then-not-more-clause-kept
returns-then-not-more-clause-kept g c =
    let more : c.in_ok-rest.more ≡ false = search rules in
    let next = rw more at c.in_ok-rest.ensures.replied in
    c.standing-then-not-more.ensures next.2.opened

pub returns-then-is_checkpoint_due-clause-replied : goal.returns-then-is_checkpoint_due-clause-replied
returns-then-is_checkpoint_due-clause-replied g c =
    let d = g.D.Disk in
    let s = g.S.Service in
    let more : c.in_ok-rest.more ≡ true = search rules in
    let next = rw more at c.in_ok-rest.ensures.replied in
    one_more_group s.after s.reply s.blank d.moment d.outcome d.outcome_since g.W.Write.contents c.args.store.now c.groups.store c.serve_group.new.store c.args.output.now
    c.groups.output c.serve_group.new.output c.args.most (g.I.Read.remaining c.args.input) (g.I.Read.remaining c.groups.source)
    (g.I.Read.remaining c.in_ok-rest.rest) c.groups.invariant.run next

pub returns-then-is_checkpoint_due-clause-kept : goal.returns-then-is_checkpoint_due-clause-kept
returns-then-is_checkpoint_due-clause-kept g c =
    let more : c.in_ok-rest.more ≡ true = search rules in
    let next = rw more at c.in_ok-rest.ensures.replied in
    c.standing-then-is_checkpoint_due.ensures next.2.opened
