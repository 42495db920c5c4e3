use Rattle.std.proofs.Common.{◌≡◌, ◌∙◌, [], List, ℕ, append-nil, arith, refl, subst}
use Rattle.bt_script.specs.Streams.{Took, TookPrefix}
use Rattle.bt_script.proofs.offered.Streams.{Took-kept, prefix-all}
use Rattle.bt_frame.specs.Services.{answers}
use Rattle.bt_journal.specs.Stores.{disk_of, state_in}
use Rattle.bt_durable.specs.Payloads.{requests}
use Rattle.bt_durable.proofs.Faults.{on_err}
use Rattle.bt_durable.proofs.RepliedParts.{run_failed, run_replied, run_unwritten}
use Rattle.bt_durable.proofs.replying.reply_to_group.Goals as goal

pub returns-in_err-run-clause-stopped : goal.returns-in_err-run-clause-stopped
returns-in_err-run-clause-stopped g c =
    let d = g.D.Disk in
    let s = g.S.Service in
    let old = c.args.store.now in
    let new = c.run.new.self in
    let stood = c.standing.ensures c.requires in
    on_err c.from_residual.result (
      [],
      requests c.args.group.now,
      refl,
      run_failed s.after s.reply s.blank d.moment d.outcome d.outcome_since g.W.Write.contents old new d.contents c.args.group.now
          (λ file left later. g.met.D.Disk.counts_now (disk_of new) (d.moment (disk_of old)) file later left) stood.1.state (c.run.ensures.any_moment c.requires)
          c.args.output.now (omega arith),
    )

pub returns-in_err-write_text-clause-stopped : goal.returns-in_err-write_text-clause-stopped
returns-in_err-write_text-clause-stopped g c =
    let d = g.D.Disk in
    let s = g.S.Service in
    let held = g.W.Write.contents in
    let old = c.args.store.now in
    let new = c.run.new.self in
    let ran = c.in_ok-run.ensures in
    let text : c.as_slice.result.now ≡ answers s.after s.reply (state_in old) (requests c.args.group.now) = c.as_slice.ensures.value ∙ ran.answer in
    let stood = c.standing.ensures c.requires in
    on_err c.from_residual-in_err-write_text.result (
      requests c.args.group.now,
      [],
      append-nil (requests c.args.group.now),
      run_unwritten s.after s.reply s.blank d.moment d.outcome d.outcome_since held old new d.contents c.args.group.now
          (λ file left later. g.met.D.Disk.counts_now (disk_of new) (d.moment (disk_of old)) file later left) stood.1.state (c.run.ensures.any_moment c.requires)
          c.run.ensures.head ran.acknowledged c.args.output.now c.write_text.new.writer
          (subst (λ (l : List ℕ). TookPrefix held c.args.output.now c.write_text.new.writer l) text c.in_err-write_text.ensures.err) ran.kept,
    )

pub returns-in_err-flush_written-clause-stopped : goal.returns-in_err-flush_written-clause-stopped
returns-in_err-flush_written-clause-stopped g c =
    let d = g.D.Disk in
    let s = g.S.Service in
    let held = g.W.Write.contents in
    let old = c.args.store.now in
    let new = c.run.new.self in
    let ran = c.in_ok-run.ensures in
    let all = answers s.after s.reply (state_in old) (requests c.args.group.now) in
    let text : c.as_slice.result.now ≡ all = c.as_slice.ensures.value ∙ ran.answer in
    let stood = c.standing.ensures c.requires in
    on_err c.from_residual-in_err-flush_written.result (
      requests c.args.group.now,
      [],
      append-nil (requests c.args.group.now),
      run_unwritten s.after s.reply s.blank d.moment d.outcome d.outcome_since held old new d.contents c.args.group.now
          (λ file left later. g.met.D.Disk.counts_now (disk_of new) (d.moment (disk_of old)) file later left) stood.1.state (c.run.ensures.any_moment c.requires)
          c.run.ensures.head ran.acknowledged c.args.output.now c.flush_written.new.writer
          (prefix-all held c.args.output.now c.flush_written.new.writer all
          (Took-kept held c.args.output.now c.write_text.new.writer c.flush_written.new.writer all
          (subst (λ (l : List ℕ). Took held c.args.output.now c.write_text.new.writer l) text c.in_ok-write_text.ensures.ok) c.flush_written.ensures.bytes c.flush_written.ensures.count))
          ran.kept,
    )

pub returns-clause-replied : goal.returns-clause-replied
returns-clause-replied g c =
    let d = g.D.Disk in
    let s = g.S.Service in
    let held = g.W.Write.contents in
    let old = c.args.store.now in
    let new = c.run.new.self in
    let ran = c.in_ok-run.ensures in
    let all = answers s.after s.reply (state_in old) (requests c.args.group.now) in
    let text : c.as_slice.result.now ≡ all = c.as_slice.ensures.value ∙ ran.answer in
    let stood = c.standing.ensures c.requires in
    run_replied s.after s.reply s.blank d.moment d.outcome d.outcome_since held old new d.contents c.args.group.now
    (λ file left later. g.met.D.Disk.counts_now (disk_of new) (d.moment (disk_of old)) file later left) stood.1.state (c.run.ensures.any_moment c.requires)
    c.run.ensures.head ran.acknowledged c.args.output.now c.flush_written.new.writer ran.open.1
    (Took-kept held c.args.output.now c.write_text.new.writer c.flush_written.new.writer all
    (subst (λ (l : List ℕ). Took held c.args.output.now c.write_text.new.writer l) text c.in_ok-write_text.ensures.ok) c.flush_written.ensures.bytes c.flush_written.ensures.count)
