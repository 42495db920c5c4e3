use Rattle.std.proofs.Common.{◌≡◌, ◌∙◌, List, ap, map, refl, string_bytes}
use Rattle.std.proofs.lemmas.Result.{IfOk-weaker}
use Rattle.clap.specs.Words.{App, Text, found_of, is_simple, matches_of, rows_of}
use Rattle.bt_engine.specs.Options.{betable_engine, rows_of_arguments}
use Rattle.bt_engine.proofs.arguments.parse.Goals as goal

rows_of_engine : (arguments : List Text) → matches_of betable_engine arguments ≡ rows_of_arguments arguments
unfolding rows_of_arguments
rows_of_engine arguments = refl

pub returns-clause-rows : goal.returns-clause-rows
returns-clause-rows c =
    let arguments = map string_bytes c.args.arguments.now in
    let app = c.in_ok-command.ensures in
    IfOk-weaker c.try_get_matches_from.result _ (λ m. rows_of (found_of m) ≡ rows_of_arguments arguments)
    (λ m h. (h (ap is_simple app)).0 ∙ (ap (λ (a : App). matches_of a arguments) app ∙ rows_of_engine arguments)) c.try_get_matches_from.ensures.matches
