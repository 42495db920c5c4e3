use Rattle.std.proofs.Common.{ℕ, Bool, IfSome, [], ◌+◌, ◌≡◌, ◌∙◌, ap, arith, rules, drop, refl, subst, sym}
use Rattle.bt_shell.specs.Logs.{is_refusal}
use Rattle.bt_shell.specs.Runs.{one_where, refused_count}
use Rattle.bt_script.specs.Commands.{commands}
use Rattle.bt_script.proofs.offered.Streams.{Took-kept, Took-nil, prefix-all}
use Rattle.bt_shell.proofs.Faults.{left_as_it_was, left_at_end, left_by_next, left_later, logs_at_end, logs_between, logs_within, lost_is_left, stops_at_end, stops_between, stops_within}
use Rattle.bt_shell.proofs.Sound.{commands_keep_sound, left_stays_consistent}
use Rattle.bt_shell.proofs.Turns.{count_ends, count_goes_on, log_begins, log_ends, log_goes_on, on_err, run_breaks, run_goes_on, run_leaves, run_prefix}
use Rattle.bt_table.specs.Standing.{IsSound}
use Rattle.bt_shell.proofs.script_run.run_commands.Goals as goal

pub commands-init : goal.commands-init
commands-init g c = record {
  counted = omega arith;
  few = omega arith;
  within = omega arith;
  healthy = search rules;
  logs = log_begins g.W.Write.contents g.L.CommandLog.added c.args.writer.now c.args.log.now c.args.table.now (commands c.args.script.now)
      (Took-nil g.W.Write.contents c.args.writer.now (omega arith));
}

-- ---- out of memory at the next command

pub returns-in_err-reply-clause-err : goal.returns-in_err-reply-clause-err
returns-in_err-reply-clause-err g c =
    let all = commands c.args.script.now in
    on_err c.from_residual.result _
    (run_prefix g.W.Write.contents c.args.writer.now c.args.table.now c.commands.writer c.commands.table all (commands (drop c.commands.at c.args.script.now)) c.commands.invariant.logs.so_far)

pub returns-in_err-reply-clause-memory : goal.returns-in_err-reply-clause-memory
returns-in_err-reply-clause-memory g c =
    λ _. (c.commands.invariant.healthy, stops_between c.args.script.now c.commands.invariant.logs.so_far c.next_reply.new.table c.in_err-reply.ensures.left)

pub returns-in_err-reply-clause-log_after_fault : goal.returns-in_err-reply-clause-log_after_fault
returns-in_err-reply-clause-log_after_fault g c = on_err c.from_residual.result _ (logs_between c.args.script.now c.commands.invariant.logs)

pub returns-in_err-reply-clause-lost : goal.returns-in_err-reply-clause-lost
returns-in_err-reply-clause-lost g c =
    lost_is_left c.args.table.now c.next_reply.new.table (commands c.args.script.now) _ (left_later c.commands.invariant.logs.so_far c.next_reply.new.table c.in_err-reply.ensures.left)

pub returns-in_err-reply-clause-consistent : goal.returns-in_err-reply-clause-consistent
returns-in_err-reply-clause-consistent g c =
    left_stays_consistent c.args.table.now c.next_reply.new.table (commands c.args.script.now) _ c.soundness.ensures
    (left_later c.commands.invariant.logs.so_far c.next_reply.new.table c.in_err-reply.ensures.left)

-- ---- the reply is not written whole

pub returns-in_err-write_to-clause-err : goal.returns-in_err-write_to-clause-err
returns-in_err-write_to-clause-err g c =
    let script = c.args.script.now in
    let next = rw c.in-Some.is at c.in_ok-reply.ensures.step in
    on_err c.from_residual-in_err-write_to.result _
    (run_breaks g.W.Write.contents c.args.writer.now c.args.table.now c.commands.writer c.write_to.new.writer c.commands.table c.next_reply.new.table (commands script)
    (commands (drop c.commands.at script)) (commands (drop c.in-Some.next script)) c.in-Some.reply.text c.commands.invariant.logs.so_far next c.in_err-write_to.ensures.err)

pub returns-in_err-write_to-clause-write : goal.returns-in_err-write_to-clause-write
returns-in_err-write_to-clause-write g c =
    let next = rw c.in-Some.is at c.in_ok-reply.ensures.step in
    λ _. (c.in_err-write_to.ensures.fault.1, stops_within c.args.script.now c.commands.invariant.logs.so_far c.write_to.new.writer next c.in_err-write_to.ensures.err)

pub returns-in_err-write_to-clause-log_after_fault : goal.returns-in_err-write_to-clause-log_after_fault
returns-in_err-write_to-clause-log_after_fault g c =
    let next = rw c.in-Some.is at c.in_ok-reply.ensures.step in
    on_err c.from_residual-in_err-write_to.result _
    (logs_within c.args.script.now c.commands.invariant.logs c.write_to.new.writer c.commands.log refl next c.in_err-write_to.ensures.err)

pub returns-in_err-write_to-clause-lost : goal.returns-in_err-write_to-clause-lost
returns-in_err-write_to-clause-lost g c =
    let next = rw c.in-Some.is at c.in_ok-reply.ensures.step in
    lost_is_left c.args.table.now c.next_reply.new.table (commands c.args.script.now) _ (left_by_next c.commands.invariant.logs.so_far next)

pub returns-in_err-write_to-clause-consistent : goal.returns-in_err-write_to-clause-consistent
returns-in_err-write_to-clause-consistent g c =
    let next = rw c.in-Some.is at c.in_ok-reply.ensures.step in
    left_stays_consistent c.args.table.now c.next_reply.new.table (commands c.args.script.now) _ c.soundness.ensures (left_by_next c.commands.invariant.logs.so_far next)

-- ---- the reply is written, and out of memory for the log

pub returns-in_err-add-clause-err : goal.returns-in_err-add-clause-err
returns-in_err-add-clause-err g c =
    let script = c.args.script.now in
    let next = rw c.in-Some.is at c.in_ok-reply.ensures.step in
    on_err c.from_residual-in_err-add.result _
    (run_prefix g.W.Write.contents c.args.writer.now c.args.table.now c.write_to.new.writer c.next_reply.new.table (commands script) (commands (drop c.in-Some.next script))
    (run_goes_on g.W.Write.contents c.args.writer.now c.args.table.now c.commands.writer c.write_to.new.writer c.commands.table c.next_reply.new.table (commands script)
    (commands (drop c.commands.at script)) (commands (drop c.in-Some.next script)) c.in-Some.reply.text c.commands.invariant.logs.so_far next c.in_ok-write_to.ensures.ok))

pub returns-in_err-add-clause-memory : goal.returns-in_err-add-clause-memory
returns-in_err-add-clause-memory g c =
    let script = c.args.script.now in
    let next = rw c.in-Some.is at c.in_ok-reply.ensures.step in
    let so_far = run_goes_on g.W.Write.contents c.args.writer.now c.args.table.now c.commands.writer c.write_to.new.writer c.commands.table c.next_reply.new.table (commands script)
    (commands (drop c.commands.at script)) (commands (drop c.in-Some.next script)) c.in-Some.reply.text c.commands.invariant.logs.so_far next c.in_ok-write_to.ensures.ok in
    λ _. (search rules, stops_between script so_far c.next_reply.new.table (left_as_it_was c.next_reply.new.table c.next_reply.new.table (commands (drop c.in-Some.next script)) refl))

pub returns-in_err-add-clause-log_after_fault : goal.returns-in_err-add-clause-log_after_fault
returns-in_err-add-clause-log_after_fault g c =
    let next = rw c.in-Some.is at c.in_ok-reply.ensures.step in
    on_err c.from_residual-in_err-add.result _
    (logs_within c.args.script.now c.commands.invariant.logs c.write_to.new.writer c.add.new.self c.in_err-add.ensures.unchanged next
    (prefix-all g.W.Write.contents c.commands.writer c.write_to.new.writer c.in-Some.reply.text c.in_ok-write_to.ensures.ok))

pub returns-in_err-add-clause-lost : goal.returns-in_err-add-clause-lost
returns-in_err-add-clause-lost g c =
    let next = rw c.in-Some.is at c.in_ok-reply.ensures.step in
    lost_is_left c.args.table.now c.next_reply.new.table (commands c.args.script.now) _ (left_by_next c.commands.invariant.logs.so_far next)

pub returns-in_err-add-clause-consistent : goal.returns-in_err-add-clause-consistent
returns-in_err-add-clause-consistent g c =
    let next = rw c.in-Some.is at c.in_ok-reply.ensures.step in
    left_stays_consistent c.args.table.now c.next_reply.new.table (commands c.args.script.now) _ c.soundness.ensures (left_by_next c.commands.invariant.logs.so_far next)

pub commands-preserved : goal.commands-preserved
commands-preserved g c =
    let script = c.args.script.now in
    let next = rw c.in-Some.is at c.in_ok-reply.ensures.step in
    record {
      counted = count_goes_on c.args.table.now c.commands.table c.next_reply.new.table (commands script) (commands (drop c.commands.at script)) (commands (drop c.in-Some.next script))
          c.in-Some.reply.text (is_refusal c.in-Some.reply.kind) c.commands.refused next c.commands.invariant.counted
          ∙ ap (λ (count : ℕ). count + refused_count c.next_reply.new.table (commands (drop c.in-Some.next script)))
          (ap (λ (refused : Bool). c.commands.refused + one_where refused) (sym c.is_refusal.ensures) ∙ sym c.count_with-refused.ensures);
      few = search (arith, rules);
      within = search (arith, rules);
      healthy = search rules;
      logs = log_goes_on g.W.Write.contents g.L.CommandLog.added c.args.writer.now c.args.log.now c.args.table.now c.in-Some.reply.kind c.commands.invariant.logs next
          c.in_ok-write_to.ensures.ok (rw c.in-Some.is at c.in_ok-reply.ensures.kind)
          (c.in_ok-add.ensures.adds ∙ ap (λ (end : ℕ). g.L.CommandLog.added c.commands.log end c.in-Some.reply.kind) c.count.ensures);
    }

-- ---- all is written, and the flush fails

pub returns-in_err-flush_output-clause-err : goal.returns-in_err-flush_output-clause-err
returns-in_err-flush_output-clause-err g c =
    let script = c.args.script.now in
    let so_far = run_prefix g.W.Write.contents c.args.writer.now c.args.table.now c.commands.writer c.commands.table (commands script)
    (commands (drop c.commands.at script)) c.commands.invariant.logs.so_far in
    on_err c.from_residual-in_err-flush_output.result _
    (so_far.0, Took-kept g.W.Write.contents c.args.writer.now c.commands.writer c.flush_output.new.writer _ so_far.1 c.flush_output.ensures.bytes c.flush_output.ensures.count)

pub returns-in_err-flush_output-clause-write : goal.returns-in_err-flush_output-clause-write
returns-in_err-flush_output-clause-write g c =
    let script = c.args.script.now in
    let none : commands (drop c.commands.at script) ≡ [] = search rules in
    let kept : c.next_reply.new.table ≡ c.commands.table = search rules in
    let stop = stops_at_end script c.commands.invariant.logs.so_far c.flush_output.new.writer none c.flush_output.ensures.bytes c.flush_output.ensures.count in
    λ _. (c.in_err-flush_output.ensures.fault.1, rw kept stop)

pub returns-in_err-flush_output-clause-log_after_fault : goal.returns-in_err-flush_output-clause-log_after_fault
returns-in_err-flush_output-clause-log_after_fault g c =
    let none : commands (drop c.commands.at c.args.script.now) ≡ [] = search rules in
    on_err c.from_residual-in_err-flush_output.result _
    (logs_at_end c.args.script.now c.commands.invariant.logs c.flush_output.new.writer none c.flush_output.ensures.bytes c.flush_output.ensures.count)

pub returns-in_err-flush_output-clause-lost : goal.returns-in_err-flush_output-clause-lost
returns-in_err-flush_output-clause-lost g c =
    let none : commands (drop c.commands.at c.args.script.now) ≡ [] = search rules in
    let kept : c.next_reply.new.table ≡ c.commands.table = search rules in
    rw kept (lost_is_left c.args.table.now c.commands.table (commands c.args.script.now) _ (left_at_end c.commands.invariant.logs.so_far none))

pub returns-in_err-flush_output-clause-consistent : goal.returns-in_err-flush_output-clause-consistent
returns-in_err-flush_output-clause-consistent g c =
    let none : commands (drop c.commands.at c.args.script.now) ≡ [] = search rules in
    let kept : c.next_reply.new.table ≡ c.commands.table = search rules in
    rw kept (left_stays_consistent c.args.table.now c.commands.table (commands c.args.script.now) _ c.soundness.ensures (left_at_end c.commands.invariant.logs.so_far none))

-- ---- all commands have their replies

pub returns-clause-refused : goal.returns-clause-refused
returns-clause-refused g c =
    let all = commands c.args.script.now in
    let others = commands (drop c.commands.at c.args.script.now) in
    let none : others ≡ [] = search rules in
    sym (count_ends c.args.table.now c.commands.table all others c.commands.refused c.commands.invariant.counted none)

pub returns-clause-log : goal.returns-clause-log
returns-clause-log g c =
    let none : commands (drop c.commands.at c.args.script.now) ≡ [] = search rules in
    log_ends g.W.Write.contents g.L.CommandLog.added c.args.writer.now c.args.log.now c.args.table.now c.commands.invariant.logs none

pub returns-clause-lost : goal.returns-clause-lost
returns-clause-lost g c =
    let none : commands (drop c.commands.at c.args.script.now) ≡ [] = search rules in
    let kept : c.next_reply.new.table ≡ c.commands.table = search rules in
    rw kept (lost_is_left c.args.table.now c.commands.table (commands c.args.script.now) _ (left_at_end c.commands.invariant.logs.so_far none))

pub returns-clause-consistent : goal.returns-clause-consistent
returns-clause-consistent g c =
    let none : commands (drop c.commands.at c.args.script.now) ≡ [] = search rules in
    let kept : c.next_reply.new.table ≡ c.commands.table = search rules in
    rw kept (left_stays_consistent c.args.table.now c.commands.table (commands c.args.script.now) _ c.soundness.ensures (left_at_end c.commands.invariant.logs.so_far none))

pub returns-clause-kept : goal.returns-clause-kept
returns-clause-kept g c = λ sound.
    let none : commands (drop c.commands.at c.args.script.now) ≡ [] = search rules in
    let kept : c.next_reply.new.table ≡ c.commands.table = search rules in
    let left = run_leaves g.W.Write.contents c.args.writer.now c.args.table.now c.commands.writer c.commands.table (commands c.args.script.now) (commands (drop c.commands.at c.args.script.now))
    c.commands.invariant.logs.so_far none in
    rw kept (subst (λ state. IfSome state IsSound) (sym left) (commands_keep_sound c.args.table.now (commands c.args.script.now) sound))
