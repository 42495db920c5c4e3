-- What an engine has written where its program ends. Serves the program.
use Rattle.std.proofs.Common.{ℕ, ◌≡◌, ◌⊎◌, List, [], Option, None, Some, Err, IsErrOf, arith, refl, subst, sym, true}
use Rattle.bt_script.specs.Streams.{Took, has_failed, source_of}
use Rattle.bt_script.specs.declared.counted.Counted.{Counted}
use Rattle.bt_script.specs.declared.streams.RunFault.TheVariants.{OutOfMemory, Read, Write}
use Rattle.bt_script.proofs.offered.Streams.{Took-nil, prefix-all}
use Rattle.bt_shell.specs.Programs.{AreHealthy}
use Rattle.bt_shell.specs.Statuses.{status_of}
use Rattle.bt_shell.specs.declared.program_run.ProgramFault.{ProgramFault}
use Rattle.bt_shell.specs.declared.program_run.ProgramFault.TheVariants.{Arguments, Run}
use Rattle.bt_frame.specs.Services.{HasTooMany, IsInputOf, answers, served}
use Rattle.bt_engine.specs.Exchanges.{after, reply}
use Rattle.bt_engine.specs.Options.{IsFaulty, IsToServe, most_given}
use Rattle.bt_engine.specs.Runs.{EndsBetween, EndsBy, WritesReplies, WritesSomeReplies, WritesWholeReplies}

-- an input that a reader may have had
some_input : (known : Option (List ℕ)) → (input : List ℕ) × IsInputOf known input
some_input None = ([], tt)
some_input (Some bytes) = (bytes, refl)

answers-none : answers after reply None [] ≡ []
unfolding answers
answers-none = refl

module _ {W : Type 0} (contents : W → Option (List ℕ)) (most : ℕ) (known : Option (List ℕ)) where
  took_nothing : (old : Counted W) → Took contents old old []
  took_nothing old = Took-nil contents old (omega arith)

  -- nothing is written
  pub nothing_written : (old : Counted W) → WritesSomeReplies contents most known old old
  nothing_written old = let input = some_input known in (input.0, input.1, (0, took_nothing old))

  pub nothing_replied : (old : Counted W) → WritesWholeReplies contents most known old old
  nothing_replied old =
      let input = some_input known in
      (input.0, input.1, (0, subst (λ (l : List ℕ). Took contents old old l) (sym answers-none) (took_nothing old)))

  -- all replies are a prefix of them
  pub written_prefix : (old new : Counted W) → WritesReplies contents most known old new → WritesSomeReplies contents most known old new
  written_prefix old new wrote = (wrote.0, wrote.1, prefix-all contents old new (served after reply most None wrote.0) wrote.2)

-- no fault has status 0
pub has_status : (fault : ProgramFault) → status_of fault ≡ 0 → ⊥
has_status Arguments none = omega (arith, none)
has_status (Run fault) none = omega (arith, none)

-- for each fault its cause
pub ends_by : {T I W : Type 0} (remaining : I → Option (List ℕ)) (contents : W → Option (List ℕ)) (arguments : List (List ℕ)) (input read : Counted I)
    (output written : Counted W) (fault : ProgramFault)
    → (IsErrOf {T = T} (Err fault) Arguments → IsFaulty arguments × (written ≡ output))
    → (IsErrOf {T = T} (Err fault) (Run Read) → IsToServe arguments)
    → (IsErrOf {T = T} (Err fault) (Run Read) → (has_failed read ≡ true) ⊎ HasTooMany (most_given arguments) (remaining (source_of input)))
    → (IsErrOf {T = T} (Err fault) (Run Read) → EndsBetween remaining contents arguments input read output written)
    → (IsErrOf {T = T} (Err fault) (Run Write) → has_failed written ≡ true)
    → (IsErrOf {T = T} (Err fault) (Run OutOfMemory) → AreHealthy read written)
    → (IsErrOf {T = T} (Err fault) (Run OutOfMemory) → EndsBetween remaining contents arguments input read output written)
    → EndsBy remaining contents arguments input read output written fault
ends_by remaining contents arguments input read output written Arguments faulty served failed before write healthy between = faulty refl
ends_by remaining contents arguments input read output written (Run Read) faulty served failed before write healthy between = (served refl, failed refl, before refl)
ends_by remaining contents arguments input read output written (Run Write) faulty served failed before write healthy between = write refl
ends_by remaining contents arguments input read output written (Run OutOfMemory) faulty served failed before write healthy between = (healthy refl, between refl)
