use Rattle.std.proofs.Common.{rules, arith, ◌≡◌, false, inl, inr, ap, OnErr, IsErrOf, Result, Ok, Err}
use Rattle.bt_script.specs.declared.streams.RunFault.{RunFault}
use Rattle.bt_script.specs.declared.streams.RunFault.TheVariants.{OutOfMemory, Read}
use Rattle.bt_script.proofs.offered.Streams.{Took-nil}
use Rattle.bt_frame.proofs.offered.Exchanges.{Gave-nil, breaks_by, serving_begins, serving_ends, serving_ends_with, serving_goes_on, stops_at_most, stops_between, stops_with_prefix, whole_by}
use Rattle.bt_frame.proofs.service.serve.Goals as goal

on_err : {A E : Type 0} (result : Result A E) {Fact : Type 0} → Fact → OnErr result Fact
on_err (Ok a) fact = tt
on_err (Err e) fact = fact

-- the same fault of two results
of_err : {A B : Type 0} (fault other : RunFault) → IsErrOf {T = A} (Err fault) other → IsErrOf {T = B} (Err fault) other
of_err fault other is =
    let same : fault ≡ other = cc in
    ap Err same

-- ---- no memory to begin with

pub returns-in_err-buffers-clause-err : goal.returns-in_err-buffers-clause-err
returns-in_err-buffers-clause-err g c =
    let begun = serving_begins g.S.Service.after g.S.Service.reply g.R.Read.remaining g.W.Write.contents c.args.most c.args.service.now g.S.Service.changes c.args.reader.now c.args.writer.now
    (Gave-nil g.R.Read.remaining c.args.reader.now (omega arith)) (Took-nil g.W.Write.contents c.args.writer.now (omega arith)) in
    on_err c.from_residual.result
    (stops_with_prefix g.S.Service.after g.S.Service.reply g.R.Read.remaining g.W.Write.contents c.args.most c.args.service.now g.S.Service.changes c.args.reader.now c.args.writer.now
    c.args.reader.now c.args.writer.now c.args.service.now 0 false begun)

pub returns-in_err-buffers-clause-whole : goal.returns-in_err-buffers-clause-whole
returns-in_err-buffers-clause-whole g c =
    let begun = serving_begins g.S.Service.after g.S.Service.reply g.R.Read.remaining g.W.Write.contents c.args.most c.args.service.now g.S.Service.changes c.args.reader.now c.args.writer.now
    (Gave-nil g.R.Read.remaining c.args.reader.now (omega arith)) (Took-nil g.W.Write.contents c.args.writer.now (omega arith)) in
    λ _. stops_between g.S.Service.after g.S.Service.reply g.R.Read.remaining g.W.Write.contents c.args.most c.args.service.now g.S.Service.changes c.args.reader.now c.args.writer.now
    c.args.reader.now c.args.writer.now c.args.service.now 0 false begun

-- ---- the exchanges

pub exchanges-init : goal.exchanges-init
exchanges-init g c = record {
  so_far = serving_begins g.S.Service.after g.S.Service.reply g.R.Read.remaining g.W.Write.contents c.args.most c.args.service.now g.S.Service.changes c.args.reader.now c.args.writer.now
      (Gave-nil g.R.Read.remaining c.args.reader.now (omega arith)) (Took-nil g.W.Write.contents c.args.writer.now (omega arith));
  reads = search rules;
  writes = search rules;
  flushed = search rules;
  piece = search rules;
}

pub exchanges-preserved : goal.exchanges-preserved
exchanges-preserved g c =
    let step = rw c.in-Ok-More.field-0-is at c.in-Ok-More.ensures.step in
    record {
      so_far = serving_goes_on g.S.Service.after g.S.Service.reply g.R.Read.remaining g.W.Write.contents c.args.most c.args.service.now g.S.Service.changes c.args.reader.now c.args.writer.now
          c.exchanges.reader c.exchange_next.new.reader c.exchanges.writer c.exchanges.service c.exchanges._count c.exchanges.is_change c.exchanges.invariant.so_far step.0 step.1 step.3
          c.exchange_next.new.service c.exchange_next.new.writer c.in-Ok-More.test c.either-is_change.result c.either-is_change.ensures step.4 step.5 step.6 step.2;
      reads = search rules;
      writes = search rules;
      flushed = search rules;
      piece = search rules;
    }

pub returns-in-Ok-Last-clause-served : goal.returns-in-Ok-Last-clause-served
returns-in-Ok-Last-clause-served g c =
    let step = rw c.in-Ok-Last.field-0-is at c.in-Ok-Last.ensures.step in
    serving_ends_with g.S.Service.after g.S.Service.reply g.R.Read.remaining g.W.Write.contents c.args.most c.args.service.now g.S.Service.changes c.args.reader.now c.args.writer.now
    c.exchanges.reader c.exchange_next.new.reader c.exchanges.writer c.exchanges.service c.exchanges._count c.exchanges.is_change c.exchanges.invariant.so_far step.0 step.1 step.3
    c.exchange_next.new.service c.exchange_next.new.writer c.in-Ok-Last.test c.either.result c.either.ensures step.4 step.5 step.6 step.2

pub returns-in-Ok-Last-clause-ok : goal.returns-in-Ok-Last-clause-ok
returns-in-Ok-Last-clause-ok g c =
    let all = returns-in-Ok-Last-clause-served g c in
    (all.0, all.1, all.2)

pub returns-in-Ok-End-clause-served : goal.returns-in-Ok-End-clause-served
returns-in-Ok-End-clause-served g c =
    let step = rw c.in-Ok-End.field-0-is at c.in-Ok-End.ensures.step in
    serving_ends g.S.Service.after g.S.Service.reply g.R.Read.remaining g.W.Write.contents c.args.most c.args.service.now g.S.Service.changes c.args.reader.now c.args.writer.now
    c.exchanges.reader c.exchange_next.new.reader c.exchanges.writer c.exchange_next.new.writer c.exchanges.service c.exchange_next.new.service c.exchanges._count c.exchanges.is_change
    c.exchanges.invariant.so_far step.0 step.1 step.2

pub returns-in-Ok-End-clause-ok : goal.returns-in-Ok-End-clause-ok
returns-in-Ok-End-clause-ok g c =
    let all = returns-in-Ok-End-clause-served g c in
    (all.0, all.1, all.2)

-- ---- a fault of an exchange

pub returns-in-Err-clause-err : goal.returns-in-Err-clause-err
returns-in-Err-clause-err g c =
    let fault = c.in-Err.ensures in
    breaks_by g.S.Service.after g.S.Service.reply g.R.Read.remaining g.W.Write.contents c.args.most c.args.service.now g.S.Service.changes c.args.reader.now c.args.writer.now
    c.exchanges.reader c.exchange_next.new.reader c.exchanges.writer c.exchange_next.new.writer c.exchanges.service c.exchanges._count c.exchanges.is_change c.exchanges.invariant.so_far c.in-Err.fault
    (λ is. (fault.read (ap Err is)).1) (λ is. (fault.memory (ap Err is)).1) (λ is. (fault.write (ap Err is)).1)

pub returns-in-Err-clause-whole : goal.returns-in-Err-clause-whole
returns-in-Err-clause-whole g c =
    let fault = c.in-Err.ensures in
    let whole = whole_by g.S.Service.after g.S.Service.reply g.R.Read.remaining g.W.Write.contents c.args.most c.args.service.now g.S.Service.changes c.args.reader.now c.args.writer.now
    c.exchanges.reader c.exchanges.writer c.exchange_next.new.writer c.exchanges.service c.exchanges._count c.exchanges.is_change c.exchanges.invariant.so_far in
    λ which. elim which [
      | inl is ↦ whole (fault.read (of_err c.in-Err.fault Read is)).1
      | inr is ↦ whole (fault.memory (of_err c.in-Err.fault OutOfMemory is)).1
    ]

-- ---- more arrivals than are counted

pub returns-clause-err : goal.returns-clause-err
returns-clause-err g c =
    stops_with_prefix g.S.Service.after g.S.Service.reply g.R.Read.remaining g.W.Write.contents c.args.most c.args.service.now g.S.Service.changes c.args.reader.now c.args.writer.now
    c.exchanges.reader c.exchanges.writer c.exchanges.service c.exchanges._count c.exchanges.is_change c.exchanges.invariant.so_far

pub returns-clause-read : goal.returns-clause-read
returns-clause-read g c = λ _.
    inr (stops_at_most g.S.Service.after g.S.Service.reply g.R.Read.remaining g.W.Write.contents c.args.most c.args.service.now g.S.Service.changes c.args.reader.now c.args.writer.now
    c.exchanges.reader c.exchanges.writer c.exchanges.service c.exchanges._count c.exchanges.is_change c.exchanges.invariant.so_far (omega arith))

pub returns-clause-whole : goal.returns-clause-whole
returns-clause-whole g c = λ _.
    stops_between g.S.Service.after g.S.Service.reply g.R.Read.remaining g.W.Write.contents c.args.most c.args.service.now g.S.Service.changes c.args.reader.now c.args.writer.now
    c.exchanges.reader c.exchanges.writer c.exchanges.service c.exchanges._count c.exchanges.is_change c.exchanges.invariant.so_far
