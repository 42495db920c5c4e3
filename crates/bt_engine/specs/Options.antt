-- The options of the engine, and what the arguments of its command line give.
use Rattle.std.specs.Prelude.{◌≡◌, ◌≢◌, ◌≤◌, ◌⊎◌, ℕ, [], ◌∷◌, List, Option, None, codes, fold, option_map, unwrap_or}
use Rattle.std.specs.Str.Parse.{digits_value, without_leading_plus}
use Rattle.clap.specs.Words.{App, IsAmong, Kinds, Row, Rule, Text, fault_of, first_of, matches_of, new_app, with_rule}
use Rattle.clap.specs.declared.error.kind.ErrorKind.{ErrorKind}
use Rattle.clap.specs.declared.error.kind.ErrorKind.TheVariants as kinds
use Rattle.clap.specs.declared.error.kind.ErrorKind.TheVariants.{DisplayHelp}
use Rattle.bt_gang.specs.declared.crew.TheConstants.{DEEPEST_CUT, LARGEST_GRAIN, MOST_WORKERS}
use Rattle.bt_script.specs.Options.{number_rule, option_rule}
use Rattle.bt_script.specs.declared.arguments.WordsError.{WordsError}
use Rattle.bt_script.specs.declared.arguments.WordsError.TheVariants.{Faulty, Help, OutOfMemory}

-- the largest limit of the bytes of a request, 1 TiB
abbrev pub largest_most : ℕ
largest_most = 1099511627776

-- the limit if the arguments name none, 64 MiB
abbrev pub default_most : ℕ
default_most = 67108864

-- the options of the engine, in the order of its help text
abbrev pub options : List Rule
options =
    number_rule (codes "workers") MOST_WORKERS ∷ number_rule (codes "cut") DEEPEST_CUT ∷ number_rule (codes "grain") LARGEST_GRAIN
    ∷ number_rule (codes "most-frame") largest_most ∷ option_rule (codes "keep") ∷ []

-- the engine's command line
abbrev pub betable_engine : App
betable_engine = fold with_rule (new_app (codes "betable_engine")) options

-- what the arguments give, the program's name first
unfoldable pub rows_of_arguments : List Text → List Row
rows_of_arguments arguments = matches_of betable_engine arguments

-- the number that an option gives, and `default` if it is absent
abbrev pub number_given : Text → ℕ → List Text → ℕ
number_given name default arguments = unwrap_or (option_map (λ text. digits_value 10 (without_leading_plus text)) (first_of name (rows_of_arguments arguments))) default

-- the path of the file that keeps the table, if the arguments name one
abbrev pub path_given : List Text → Option Text
path_given arguments = first_of (codes "keep") (rows_of_arguments arguments)

-- a limit of the bytes of a request
abbrev pub IsFrameLimit : ℕ → Type 0
IsFrameLimit most = (1 ≤ most) × (most ≤ largest_most)

-- the kinds of fault that the arguments have, and none if they are read
unfoldable pub kinds_of_arguments : List Text → Kinds
kinds_of_arguments arguments = fault_of betable_engine arguments

-- the arguments ask for the help text
abbrev pub AsksHelp : List Text → Type 0
AsksHelp arguments = IsAmong DisplayHelp (kinds_of_arguments arguments)

-- the arguments have a fault that is no request for help
abbrev pub IsFaulty : List Text → Type 0
IsFaulty arguments = (kind : ErrorKind) × IsAmong kind (kinds_of_arguments arguments) × (kind ≢ DisplayHelp)

-- the arguments have a fault, and do not ask for help
abbrev pub MustBeRefused : List Text → Type 0
MustBeRefused arguments = IsFaulty arguments × (AsksHelp arguments → ⊥)

-- the arguments are read, and so requests are
abbrev pub IsToServe : List Text → Type 0
IsToServe arguments = kinds_of_arguments arguments ≡ []

-- the table is not to be in a file: if the arguments are read, they name none
abbrev pub NamesNoFile : List Text → Type 0
NamesNoFile arguments = IsToServe arguments → path_given arguments ≡ None

-- the arguments have the fault that an error names; any arguments may be reported as out of memory
abbrev pub HasFault : List Text → WordsError → Type 0
HasFault arguments Faulty = IsFaulty arguments
HasFault arguments (Help text) = AsksHelp arguments
HasFault arguments OutOfMemory = Unit {0}

-- an error is the one for an error of clap of this kind
abbrev pub ComesOf : ErrorKind → WordsError → Type 0
ComesOf kind Faulty = (kind ≢ kinds.OutOfMemory) × (kind ≢ DisplayHelp)
ComesOf kind (Help text) = kind ≡ DisplayHelp
ComesOf kind OutOfMemory = (kind ≡ kinds.OutOfMemory) ⊎ (kind ≡ DisplayHelp)

-- the limit of the bytes of a request that the arguments give
abbrev pub most_given : List Text → ℕ
most_given arguments = number_given (codes "most-frame") default_most arguments
