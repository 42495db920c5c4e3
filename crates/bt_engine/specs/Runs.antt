-- What an engine writes for what its reader has. It begins with no table.
use Rattle.std.specs.Prelude.{ℕ, ◌≡◌, ◌⊎◌, true, List, Option, None}
use Rattle.bt_script.specs.Streams.{has_failed, source_of}
use Rattle.bt_script.specs.declared.counted.Counted.{Counted}
use Rattle.bt_script.specs.declared.streams.RunFault.TheVariants.{OutOfMemory, Read, Write}
use Rattle.bt_shell.specs.Programs.{AreHealthy}
use Rattle.bt_shell.specs.declared.program_run.ProgramFault.{ProgramFault}
use Rattle.bt_shell.specs.declared.program_run.ProgramFault.TheVariants.{Arguments, Run}
use Rattle.bt_frame.specs.Services.{HasTooMany, WritesAnswers, WritesSomeAnswers, WritesWholeAnswers}
use Rattle.bt_engine.specs.Exchanges.{after, reply}
use Rattle.bt_engine.specs.Options.{IsFaulty, IsToServe, most_given}

module _ {W : Type 0} (contents : W → Option (List ℕ)) (most : ℕ) (known : Option (List ℕ)) (old new : Counted W) where
  -- a writer took all replies to an input, which is the one that the reader has if that is known
  abbrev pub WritesReplies : Type 0
  WritesReplies = WritesAnswers after reply contents most None known old new

  -- a prefix of them
  abbrev pub WritesSomeReplies : Type 0
  WritesSomeReplies = WritesSomeAnswers after reply contents most None known old new

  -- the whole replies to the first arrivals
  abbrev pub WritesWholeReplies : Type 0
  WritesWholeReplies = WritesWholeAnswers after reply contents most None known old new

-- ---- the program

module _ {I W : Type 0} (remaining : I → Option (List ℕ)) (contents : W → Option (List ℕ)) (arguments : List (List ℕ)) (input read : Counted I) (output written : Counted W) where
  -- whole replies are written if requests are to be served
  abbrev pub EndsBetween : Type 0
  EndsBetween = IsToServe arguments → WritesWholeReplies contents (most_given arguments) (remaining (source_of input)) output written

  -- the cause of each fault and what it leaves
  abbrev pub EndsBy : ProgramFault → Type 0
  EndsBy Arguments = IsFaulty arguments × (written ≡ output)
  EndsBy (Run Read) = IsToServe arguments × ((has_failed read ≡ true) ⊎ HasTooMany (most_given arguments) (remaining (source_of input))) × EndsBetween
  EndsBy (Run Write) = has_failed written ≡ true
  EndsBy (Run OutOfMemory) = AreHealthy read written × EndsBetween
