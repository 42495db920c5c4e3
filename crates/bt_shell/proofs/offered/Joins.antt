-- Two scripts one after the other; the first ends between two commands. Serves the law of runs.
use Rattle.std.proofs.Common.{ℕ, true, List, [], ◌∷◌, ◌++◌, ◌≡◌, ◌==◌, ◌∙◌, refl, sym, ap, append_assoc, inl, inr}
use Rattle.std.proofs.lemmas.Bool.{cases_Bool}
use Rattle.std.specs.List.{onto_first}
use Rattle.bt_script.specs.Commands.{Answer, Outside, Place, commands, commands_from, line_step}
use Rattle.bt_script.specs.Lines.{lines}
use Rattle.bt_shell.specs.Runs.{AreOneRun, EndsBetweenCommands, after_commands, ends_with_line, place_following, replies}
use Rattle.bt_shell.specs.Steps.{State}
use Rattle.bt_shell.proofs.Turns.{after_commands-append, replies-append}

-- a byte before the first of some lines is not before the others
onto_first-append : (b : ℕ) (some more : List (List ℕ)) (line : List ℕ) (rest : List (List ℕ)) → some ≡ line ∷ rest → onto_first b (some ++ more) ≡ onto_first b some ++ more
onto_first-append b some more line rest is = rw is refl

-- if there is a byte, there is a line
onto_some : (b : ℕ) (others : List (List ℕ)) → (line : List ℕ) × ((rest : List (List ℕ)) × (onto_first b others ≡ line ∷ rest))
onto_some b [] = (b ∷ [], ([], refl))
onto_some b (line ∷ rest) = (b ∷ line, (rest, refl))

first_line : (b : ℕ) (bytes : List ℕ) → (line : List ℕ) × ((rest : List (List ℕ)) × (lines (b ∷ bytes) ≡ line ∷ rest))
first_line b bytes = elim (cases_Bool (b == 10)) [
  | inl feed ↦ ([], (lines bytes, rw feed refl))
  | inr other ↦ let some = onto_some b (lines bytes) in (some.0, (some.1.0, rw other some.1.1))
]

lines-append : (first second : List ℕ) → ends_with_line first ≡ true → lines (first ++ second) ≡ lines first ++ lines second
lines-append [] second ends = refl
lines-append (b ∷ []) second ends = let feed : (b == 10) ≡ true = ends in rw feed refl
lines-append (b ∷ c ∷ more) second ends =
    let following = lines-append (c ∷ more) second ends in
    let some = first_line c more in
    elim (cases_Bool (b == 10)) [
      | inl feed ↦ rw feed (ap (λ (ls : List (List ℕ)). [] ∷ ls) following)
      | inr other ↦ rw other (ap (onto_first b) following ∙ onto_first-append b (lines (c ∷ more)) (lines second) some.0 some.1.0 some.1.1)
    ]

commands_from-append : (place : Place) (done more : List (List ℕ)) → place_following place done ≡ Outside → commands_from place (done ++ more) ≡ commands_from place done ++ commands_from Outside more
unfolding commands_from place_following
commands_from-append place [] more out = let outside : place ≡ Outside = out in rw outside refl
commands_from-append place (line ∷ done) more out =
    ap (λ (answers : List Answer). (line_step place line).1 ++ answers) (commands_from-append (line_step place line).0 done more out)
    ∙ sym (append_assoc (line_step place line).1 (commands_from (line_step place line).0 done) (commands_from Outside more))

commands-append : (first second : List ℕ) → EndsBetweenCommands first → commands (first ++ second) ≡ commands first ++ commands second
commands-append first second ends =
    ap (commands_from Outside) (lines-append first second ends.0) ∙ commands_from-append Outside (lines first) (lines second) ends.1

pub are_one_run : (state : State) (first second : List ℕ) → EndsBetweenCommands first → AreOneRun state first second
are_one_run state first second ends =
    let all = commands-append first second ends in (
      ap (replies state) all ∙ replies-append state (commands first) (commands second),
      ap (after_commands state) all ∙ after_commands-append state (commands first) (commands second),
    )
