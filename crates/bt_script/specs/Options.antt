-- The options of the program, and what the arguments of its command line give.
use Rattle.std.specs.Prelude.{◌≡◌, ◌≢◌, ℕ, [], ◌∷◌, List, None, Some, codes, fold, option_map, unwrap_or}
use Rattle.std.specs.Str.Parse.{digits_value, without_leading_plus}
use Rattle.clap.specs.Words.{App, IsAmong, Kinds, Row, Rule, Text, fault_of, first_of, matches_of, new_app, new_rule, with_rule}
use Rattle.clap.specs.declared.builder.ArgAction.TheVariants.{Set}
use Rattle.clap.specs.declared.builder.value_parser.ValueParser.TheVariants.{Unsigned}
use Rattle.clap.specs.declared.error.kind.ErrorKind.{ErrorKind}
use Rattle.clap.specs.declared.error.kind.ErrorKind.TheVariants.{DisplayHelp}
use Rattle.bt_gang.specs.Crews.{IsCrew}
use Rattle.bt_gang.specs.declared.crew.TheConstants.{DEEPEST_CUT, LARGEST_GRAIN, MOST_WORKERS}
use Rattle.bt_script.specs.declared.arguments.WordsError.{WordsError}
use Rattle.bt_script.specs.declared.arguments.WordsError.TheVariants.{Faulty, Help, OutOfMemory}

-- an option of one value, by its long name
abbrev pub option_rule : Text → Rule
option_rule name = record (new_rule name) { long = Some name; action = Some Set; value_names = 1 }

-- an option of a whole number from 1 to `most`
abbrev pub number_rule : Text → ℕ → Rule
number_rule name most = record (option_rule name) { parser = Some (Unsigned 1 most) }

-- the options of the program, in the order of its help text
abbrev pub options : List Rule
options = option_rule (codes "script") ∷ number_rule (codes "workers") MOST_WORKERS ∷ number_rule (codes "cut") DEEPEST_CUT ∷ number_rule (codes "grain") LARGEST_GRAIN ∷ []

-- the program's command line
abbrev pub betable : App
betable = fold with_rule (new_app (codes "betable")) options

-- what the arguments give, the program's name first
unfoldable pub rows_of_arguments : List Text → List Row
rows_of_arguments arguments = matches_of betable arguments

-- the number of workers if the arguments name none
abbrev pub default_workers : ℕ
default_workers = 4

-- the depth at which trees are cut into jobs if the arguments name none
abbrev pub default_cut : ℕ
default_cut = 2

-- the grain if the arguments name none
abbrev pub default_grain : ℕ
default_grain = 64

-- the number that an option gives, and `default` if it is absent
abbrev pub number_given : Text → ℕ → List Text → ℕ
number_given name default arguments = unwrap_or (option_map (λ text. digits_value 10 (without_leading_plus text)) (first_of name (rows_of_arguments arguments))) default

-- sizes that a crew may have: 1 to 64 workers, a cut of 1 to 6, a grain of 1 to 65,536
abbrev pub AreWithinLimits : ℕ → ℕ → ℕ → Type 0
AreWithinLimits workers cut grain = IsCrew workers cut grain

-- the kinds of fault that the arguments have, and none if they are read
unfoldable pub kinds_of_arguments : List Text → Kinds
kinds_of_arguments arguments = fault_of betable arguments

-- the arguments ask for the help text
abbrev pub AsksHelp : List Text → Type 0
AsksHelp arguments = IsAmong DisplayHelp (kinds_of_arguments arguments)

-- the arguments have a fault that is no request for help
abbrev pub IsFaulty : List Text → Type 0
IsFaulty arguments = (kind : ErrorKind) × IsAmong kind (kinds_of_arguments arguments) × (kind ≢ DisplayHelp)

-- the arguments have a fault, and do not ask for help
abbrev pub MustBeRefused : List Text → Type 0
MustBeRefused arguments = IsFaulty arguments × (AsksHelp arguments → ⊥)

-- the arguments are read, and name no file of a script
abbrev pub IsToReadInput : List Text → Type 0
IsToReadInput arguments = (kinds_of_arguments arguments ≡ []) × (first_of (codes "script") (rows_of_arguments arguments) ≡ None)

-- the arguments have the fault that an error names; any arguments may be reported as out of memory
abbrev pub HasFault : List Text → WordsError → Type 0
HasFault arguments Faulty = IsFaulty arguments
HasFault arguments (Help text) = AsksHelp arguments
HasFault arguments OutOfMemory = Unit {0}
