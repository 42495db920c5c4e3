use Rattle.std.proofs.Common.{◌≡◌, ◌∙◌, arith, refl, sym, take, [], true, ℕ, List, None, Option, Err, IsErrOf}
use Rattle.bt_script.specs.Commands.{commands}
use Rattle.bt_script.specs.Options.{IsFaulty, IsToReadInput}
use Rattle.bt_script.specs.Streams.{FailsToGive, GivesWithin, Took, has_failed, script_limit, source_of}
use Rattle.bt_script.specs.declared.counted.Counted.{Counted}
use Rattle.bt_script.specs.declared.streams.RunFault.TheVariants.{OutOfMemory, Read, Write}
use Rattle.bt_shell.specs.Programs.{AnswersReplies, HasCause, IsToRun}
use Rattle.bt_shell.specs.Statuses.{status_of}
use Rattle.bt_shell.specs.declared.program_run.ProgramFault.{ProgramFault}
use Rattle.bt_shell.specs.declared.program_run.ProgramFault.TheVariants.{Arguments, Run}
use Rattle.bt_shell.proofs.Sound.{commands_keep_sound, hold_where_sound}
use Rattle.bt_shell.proofs.Turns.{written-prefix}
use Rattle.bt_shell.proofs.program_run.program.Goals as goal

-- no fault has status 0
has_status : (fault : ProgramFault) → status_of fault ≡ 0 → ⊥
has_status Arguments none = omega (arith, none)
has_status (Run fault) none = omega (arith, none)

-- for each fault its cause
cause_of : {T I W : Type 0} (remaining : I → Option (List ℕ)) (contents : W → Option (List ℕ)) (arguments : List (List ℕ)) (input read : Counted I) (output written : Counted W) (fault : ProgramFault)
    → (IsErrOf {T = T} (Err fault) Arguments → IsFaulty arguments)
    → (IsErrOf {T = T} (Err fault) (Run Read) → IsToRun arguments)
    → (IsErrOf {T = T} (Err fault) (Run Read) → IsToReadInput arguments → FailsToGive remaining input read script_limit)
    → (IsErrOf {T = T} (Err fault) (Run Read) → Took contents output written [])
    → (IsErrOf {T = T} (Err fault) (Run Write) → has_failed written ≡ true)
    → (IsErrOf {T = T} (Err fault) (Run Write) → GivesWithin remaining input read script_limit)
    → (IsErrOf {T = T} (Err fault) (Run OutOfMemory) → GivesWithin remaining input read script_limit)
    → (IsErrOf {T = T} (Err fault) (Run OutOfMemory) → AnswersReplies remaining contents arguments input output written)
    → HasCause remaining contents arguments input read output written fault
cause_of remaining contents arguments input read output written Arguments faulty asked failed unread write given within replies = faulty refl
cause_of remaining contents arguments input read output written (Run Read) faulty asked failed unread write given within replies = (asked refl, failed refl, unread refl)
cause_of remaining contents arguments input read output written (Run Write) faulty asked failed unread write given within replies = (write refl, given refl)
cause_of remaining contents arguments input read output written (Run OutOfMemory) faulty asked failed unread write given within replies = (within refl, replies refl)

pub returns-in-Ok-clause-prefix : goal.returns-in-Ok-clause-prefix
returns-in-Ok-clause-prefix g c =
    let held = g.W.Write.contents in
    let wrote = c.in-Ok.ensures.ok in (
      λ to_read. written-prefix held (g.I.Read.remaining (source_of c.args.input.now)) c.args.output.now c.run_and_flush-ended.new.output (wrote.0 to_read),
      λ to_run. written-prefix held None c.args.output.now c.run_and_flush-ended.new.output (wrote.1 to_run),
    )

pub returns-in-Err-clause-ok : goal.returns-in-Err-clause-ok
returns-in-Err-clause-ok g c = λ none. absurd (has_status c.in-Err.fault (sym c.report.ensures.status ∙ none))

pub returns-in-Err-clause-cause : goal.returns-in-Err-clause-cause
returns-in-Err-clause-cause g c =
    let cause = c.in-Err.ensures in
    λ _. (
      c.in-Err.fault,
      c.report.ensures.status,
      cause_of g.I.Read.remaining g.W.Write.contents c.args.arguments.now c.args.input.now c.run_and_flush-ended.new.input c.args.output.now c.run_and_flush-ended.new.output c.in-Err.fault
          cause.faulty cause.script cause.read cause.unread cause.write cause.given cause.memory cause.replies,
      c.report.ensures.line,
    )

pub returns-in-Ok-clause-sound : goal.returns-in-Ok-clause-sound
returns-in-Ok-clause-sound g c = λ script n. commands_keep_sound None (take n (commands script)) tt

pub returns-in-Err-clause-sound : goal.returns-in-Err-clause-sound
returns-in-Err-clause-sound g c = λ script n. commands_keep_sound None (take n (commands script)) tt

pub returns-in-Ok-clause-complete : goal.returns-in-Ok-clause-complete
returns-in-Ok-clause-complete g c = λ script n. hold_where_sound _ (commands_keep_sound None (take n (commands script)) tt)

pub returns-in-Err-clause-complete : goal.returns-in-Err-clause-complete
returns-in-Err-clause-complete g c = λ script n. hold_where_sound _ (commands_keep_sound None (take n (commands script)) tt)
