use Rattle.std.proofs.Common.{List, ◌≡◌, ◌≢◌, ◌⊎◌, ◌∙◌, ap, arith, codes, inl, inr, refl, rules, subst}
use Rattle.clap.specs.Words.{HasKind, IsAmong, Text, first_of, found_of, kind_of}
use Rattle.clap.specs.declared.error.kind.ErrorKind.{ErrorKind}
use Rattle.clap.specs.declared.error.kind.ErrorKind.TheVariants as kinds
use Rattle.clap.specs.declared.error.kind.ErrorKind.TheVariants.{DisplayHelp}
use Rattle.clap.proofs.WalkLemmas.{first_value-rows}
use Rattle.bt_engine.specs.Options.{ComesOf, HasFault, NamesNoFile, kinds_of_arguments, largest_most, rows_of_arguments}
use Rattle.bt_script.specs.declared.arguments.WordsError.{WordsError}
use Rattle.bt_script.specs.declared.arguments.WordsError.TheVariants.{Faulty, Help, OutOfMemory}
use Rattle.bt_gang.specs.declared.crew.TheConstants.{DEEPEST_CUT, LARGEST_GRAIN, MOST_WORKERS}
use Rattle.bt_engine.specs.declared.arguments.TheConstants.{DEFAULT_CUT, DEFAULT_GRAIN, DEFAULT_MOST, DEFAULT_WORKERS}
use Rattle.bt_engine.proofs.Numbers.{cut_option, grain_option, most_option, number_read, workers_option}
use Rattle.bt_engine.proofs.arguments.read_engine_words.Goals as goal

-- the error for a kind that clap gives at the arguments is a fault that they have
has_fault : (arguments : List Text) (kind : ErrorKind) (fault : WordsError) → (kind ≡ kinds.OutOfMemory) ⊎ IsAmong kind (kinds_of_arguments arguments) → ComesOf kind fault → HasFault arguments fault
has_fault arguments kind Faulty (inl memory) comes = absurd (comes.0 memory)
has_fault arguments kind Faulty (inr among) comes = (kind, among, comes.1)
has_fault arguments kind (Help text) (inl memory) comes = absurd (cc (memory, comes))
has_fault arguments kind (Help text) (inr among) comes = subst (λ (k : ErrorKind). IsAmong k (kinds_of_arguments arguments)) comes among
has_fault arguments kind OutOfMemory given comes = tt

pub returns-in-Err-clause-err : goal.returns-in-Err-clause-err
returns-in-Err-clause-err c =
    let given = subst (λ (arguments : List Text). HasKind (kinds_of_arguments arguments) c.in-Err.error) c.as_slice.ensures c.in-Err.ensures.kinds in
    has_fault c.args.arguments.now (kind_of c.in-Err.error) c.arguments_error.result given c.arguments_error.ensures

-- arguments that are not read name no file
no_file : (arguments : List Text) (fault : WordsError) → HasFault arguments fault → fault ≢ OutOfMemory → NamesNoFile arguments
no_file arguments Faulty fault other serves = absurd (subst (IsAmong fault.0) serves fault.1)
no_file arguments (Help text) fault other serves = absurd (subst (IsAmong DisplayHelp) serves fault)
no_file arguments OutOfMemory fault other serves = absurd (other refl)

pub returns-in-Err-clause-unkept : goal.returns-in-Err-clause-unkept
returns-in-Err-clause-unkept c = no_file c.args.arguments.now c.arguments_error.result (returns-in-Err-clause-err c)

pub returns-in_ok-text_of-in-Ok : goal.returns-in_ok-text_of-in-Ok
returns-in_ok-text_of-in-Ok c =
    let m = c.in-Ok.matches in
    let rows = c.in-Ok.ensures.rows ∙ ap rows_of_arguments c.as_slice.ensures in
    let read = number_read c.args.arguments.now m rows c.in-Ok.ensures.parsed in
    let workers = read (codes "workers") MOST_WORKERS workers_option DEFAULT_WORKERS (omega arith) (omega arith)
    c.get_one.result c.get_one.ensures.none c.get_one.ensures.value c.unwrap_or.result c.unwrap_or.ensures in
    let cut = read (codes "cut") DEEPEST_CUT cut_option DEFAULT_CUT (omega arith) (omega arith)
    c.get_one-in-Ok.result c.get_one-in-Ok.ensures.none c.get_one-in-Ok.ensures.value c.unwrap_or-in-Ok.result c.unwrap_or-in-Ok.ensures in
    let grain = read (codes "grain") LARGEST_GRAIN grain_option DEFAULT_GRAIN (omega arith) (omega arith)
    c.get_one-in-Ok-2.result c.get_one-in-Ok-2.ensures.none c.get_one-in-Ok-2.ensures.value c.unwrap_or-in-Ok-2.result c.unwrap_or-in-Ok-2.ensures in
    let most = read (codes "most-frame") largest_most most_option DEFAULT_MOST (omega arith) (omega arith)
    c.get_one-in-Ok-3.result c.get_one-in-Ok-3.ensures.none c.get_one-in-Ok-3.ensures.value c.unwrap_or-in-Ok-3.result c.unwrap_or-in-Ok-3.ensures in
    record {
      workers = workers.0;
      cut = cut.0;
      grain = grain.0;
      most = most.0;
      keep = c.in_ok-text_of-in-Ok.ensures ∙ first_value-rows (found_of m) (codes "keep") ∙ ap (first_of (codes "keep")) rows;
      within = ((workers.1, cut.1, grain.1), most.1);
      ok = search rules;
      err = search rules;
      unkept = search rules;
      faulty = search rules;
    }
