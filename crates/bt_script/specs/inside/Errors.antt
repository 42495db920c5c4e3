-- The errors of the arguments for the errors of clap.
use Rattle.std.specs.Prelude.{◌≡◌, ◌≢◌, ◌⊎◌}
use Rattle.clap.specs.declared.error.kind.ErrorKind.{ErrorKind}
use Rattle.clap.specs.declared.error.kind.ErrorKind.TheVariants as kinds
use Rattle.clap.specs.declared.error.kind.ErrorKind.TheVariants.{DisplayHelp}
use Rattle.bt_script.specs.declared.arguments.WordsError.{WordsError}
use Rattle.bt_script.specs.declared.arguments.WordsError.TheVariants.{Faulty, Help, OutOfMemory}

-- an error is the one for an error of clap of this kind
abbrev pub ComesOf : ErrorKind → WordsError → Type 0
ComesOf kind Faulty = (kind ≢ kinds.OutOfMemory) × (kind ≢ DisplayHelp)
ComesOf kind (Help text) = kind ≡ DisplayHelp
ComesOf kind OutOfMemory = (kind ≡ kinds.OutOfMemory) ⊎ (kind ≡ DisplayHelp)
