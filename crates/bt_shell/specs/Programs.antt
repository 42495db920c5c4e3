-- What the program does for its arguments, with streams whose calls may fail.
use Rattle.std.specs.Prelude.{◌≡◌, [], false, true, List, Option, None, ℕ}
use Rattle.bt_script.specs.Options.{IsFaulty, IsToReadInput, kinds_of_arguments}
use Rattle.bt_script.specs.Streams.{FailsToGive, GivesWithin, Took, has_failed, script_limit, source_of}
use Rattle.bt_script.specs.declared.counted.Counted.{Counted}
use Rattle.bt_script.specs.declared.streams.RunFault.TheVariants.{OutOfMemory, Read, Write}
use Rattle.bt_shell.specs.Runs.{WritesPrefix, WritesReplies, WritesRun}
use Rattle.bt_shell.specs.declared.program_run.ProgramFault.{ProgramFault}
use Rattle.bt_shell.specs.declared.program_run.ProgramFault.TheVariants.{Arguments, Run}

-- the arguments are read, and name a script to run
abbrev pub IsToRun : List (List ℕ) → Type 0
IsToRun arguments = kinds_of_arguments arguments ≡ []

-- neither stream has failed
abbrev pub AreHealthy : {I W : Type 0} → Counted I → Counted W → Type 0
AreHealthy input output = (has_failed input ≡ false) × (has_failed output ≡ false)

-- a stream that is not the script's is unchanged
abbrev pub LeavesInput : {I : Type 0} → List (List ℕ) → Counted I → Counted I → Type 0
LeavesInput arguments old new = (IsToReadInput arguments → ⊥) → new ≡ old

-- If the arguments are read, a fact about what was written is true for some script: for the bytes of the input if that is the script, and for any script if it is a
-- file, whose bytes no contract knows.
abbrev pub ForScript : {I : Type 0} → (I → Option (List ℕ)) → List (List ℕ) → Counted I → (Option (List ℕ) → Type 0) → Type 0
ForScript remaining arguments input Fact = (IsToReadInput arguments → Fact (remaining (source_of input))) × (IsToRun arguments → Fact None)

module _ {I W : Type 0} (remaining : I → Option (List ℕ)) (contents : W → Option (List ℕ)) (arguments : List (List ℕ)) (input : Counted I) (old new : Counted W) where
  -- the output took all replies to the script, a prefix of them, or the whole replies to its first commands
  abbrev pub AnswersScript : Type 0
  AnswersScript = ForScript remaining arguments input (λ known. WritesRun contents known old new)

  abbrev pub AnswersPrefix : Type 0
  AnswersPrefix = ForScript remaining arguments input (λ known. WritesPrefix contents known old new)

  abbrev pub AnswersReplies : Type 0
  AnswersReplies = ForScript remaining arguments input (λ known. WritesReplies contents known old new)

module _ {I W : Type 0} (remaining : I → Option (List ℕ)) (contents : W → Option (List ℕ)) (arguments : List (List ℕ)) (input read : Counted I) (output written : Counted W) where
  -- the cause of each fault and what it leaves; a failed read may also be one of a file, whose reader no contract knows
  abbrev pub HasCause : ProgramFault → Type 0
  HasCause Arguments = IsFaulty arguments
  HasCause (Run Read) = IsToRun arguments × (IsToReadInput arguments → FailsToGive remaining input read script_limit) × Took contents output written []
  HasCause (Run Write) = (has_failed written ≡ true) × GivesWithin remaining input read script_limit
  HasCause (Run OutOfMemory) = GivesWithin remaining input read script_limit × AnswersReplies remaining contents arguments input output written
