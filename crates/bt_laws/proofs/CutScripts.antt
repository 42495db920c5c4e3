-- The commands of a script whose end is cut off.
use Rattle.std.proofs.Common.{ℕ, ◌≡◌, ◌≤◌, ◌==◌, ◌++◌, ◌∙◌, true, List, [], ◌∷◌, length, take, drop, ap, sym, refl, subst}
use Rattle.std.proofs.Common.{arith, append_assoc, length-append, inl, inr, Some, None, Option, Ok, Err, is_err}
use Rattle.std.proofs.lemmas.Bool.{cases_Bool}
use Rattle.std.proofs.lemmas.List.{take-append-drop}
use Rattle.std.proofs.Math.Seq.{take-append_seam}
use Rattle.std.specs.List.{onto_first, list_all}
use Rattle.bt_script.specs.Commands.{Answer, Inside, Outside, Place, closing_of, command_of, commands, commands_from, ending, is_blank_line, is_word, line_step, opened, unfinished}
use Rattle.bt_script.specs.Lines.{lines, without_return, words}
use Rattle.bt_script.specs.declared.command.Command.{Command}
use Rattle.bt_shell.specs.Runs.{after_commands, ends_with_line, place_following}
use Rattle.bt_shell.specs.Steps.{State, turn}
use Rattle.bt_laws.specs.Cuts.{AreFirstAndOneMore, AreFirstAndOneRefused}

-- ---- lines

-- lines are the first of others, and at most one more
record AreFirstLines (part whole : List (List ℕ)) (ends : Type 0) : Type 0 where
  done : List (List ℕ)
  others : List (List ℕ)
  rest : List (List ℕ)
  one : length rest ≤ 1
  part_is : part ≡ done ++ rest
  whole_is : whole ≡ done ++ others
  none : ends → rest ≡ []

-- a byte before both
onto_both : (b : ℕ) (part whole : List (List ℕ)) (ends : Type 0) (line : List ℕ) (more : List (List ℕ)) → part ≡ line ∷ more → AreFirstLines part whole ends
    → AreFirstLines (onto_first b part) (onto_first b whole) ends
onto_both b part whole ends line more is first = by_parts first.done first.rest first.one first.part_is first.whole_is first.none
  where
    by_parts : (done rest : List (List ℕ)) → length rest ≤ 1 → part ≡ done ++ rest → whole ≡ done ++ first.others → (ends → rest ≡ []) → AreFirstLines (onto_first b part) (onto_first b whole) ends
    by_parts (l ∷ done) rest one part_is whole_is none = record {
      done = (b ∷ l) ∷ done;
      others = first.others;
      rest = rest;
      one = one;
      none = none;
      part_is = ap (onto_first b) part_is;
      whole_is = ap (onto_first b) whole_is;
    }
    by_parts [] [] one part_is whole_is none = absurd cc
    by_parts [] (l ∷ rest) one part_is whole_is none = record {
      done = [];
      others = onto_first b whole;
      rest = (b ∷ l) ∷ rest;
      one = one;
      none = λ ends. let e = none ends in absurd cc;
      part_is = ap (onto_first b) part_is;
      whole_is = refl;
    }

first_line : (b : ℕ) (bytes : List ℕ) → (line : List ℕ) × (more : List (List ℕ)) × (lines (b ∷ bytes) ≡ line ∷ more)
first_line b bytes = elim (cases_Bool (b == 10)) [
  | inl feed ↦ ([], lines bytes, rw feed refl)
  | inr other ↦ rw other (onto_some (lines bytes))
]
  where
    onto_some : (others : List (List ℕ)) → (line : List ℕ) × (more : List (List ℕ)) × (onto_first b others ≡ line ∷ more)
    onto_some [] = (b ∷ [], [], refl)
    onto_some (line ∷ more) = (b ∷ line, more, refl)

lines_cut : (first second : List ℕ) → AreFirstLines (lines first) (lines (first ++ second)) (ends_with_line first ≡ true)
lines_cut [] second = record { done = []; others = lines second; rest = []; one = omega arith; part_is = refl; whole_is = refl; none = λ ends. refl }
lines_cut (b ∷ []) second = elim (cases_Bool (b == 10)) [
  | inl feed ↦ rw feed (record { done = [] ∷ []; others = lines second; rest = []; one = omega arith; part_is = refl; whole_is = refl; none = λ ends. refl })
  | inr other ↦ rw other (record { done = []; others = onto_first b (lines second); rest = (b ∷ []) ∷ []; one = omega arith; part_is = refl; whole_is = refl; none = λ ends. absurd cc })
]
lines_cut (b ∷ c ∷ more) second =
    let following = lines_cut (c ∷ more) second in
    let some = first_line c more in
    elim (cases_Bool (b == 10)) [
      | inl feed ↦ rw feed (record {
        done = [] ∷ following.done;
        others = following.others;
        rest = following.rest;
        one = following.one;
        none = following.none;
        part_is = ap (λ (ls : List (List ℕ)). [] ∷ ls) following.part_is;
        whole_is = ap (λ (ls : List (List ℕ)). [] ∷ ls) following.whole_is;
      })
      | inr other ↦ rw other (onto_both b _ _ (ends_with_line (c ∷ more) ≡ true) some.0 some.1 some.2 following)
    ]

-- ---- commands

-- the commands that end in these lines, from a place on
ended : Place → List (List ℕ) → List Answer
ended place [] = []
ended place (line ∷ more) = (line_step place line).1 ++ ended (line_step place line).0 more

commands_from-append : (place : Place) (done more : List (List ℕ)) → commands_from place (done ++ more) ≡ ended place done ++ commands_from (place_following place done) more
unfolding commands_from place_following ended
commands_from-append place [] more = refl
commands_from-append place (line ∷ done) more =
    ap (λ (answers : List Answer). (line_step place line).1 ++ answers) (commands_from-append (line_step place line).0 done more)
    ∙ sym (append_assoc (line_step place line).1 (ended (line_step place line).0 done) (commands_from (place_following (line_step place line).0 done) more))

ending_one : (place : Place) → length (ending place) ≤ 1
ending_one Outside = omega arith
ending_one (Inside head closing block) = omega arith

ending_refused : (place : Place) → list_all is_err (ending place) ≡ true
ending_refused Outside = refl
ending_refused (Inside head closing block) = refused (command_of head block)
  where
    refused : (command : Option Command) → list_all is_err (unfinished command ∷ []) ≡ true
    refused None = refl
    refused (Some command) = refl

-- a line ends at most one command, and then no block is open
step_one : (place : Place) (line : List ℕ) → length ((line_step place line).1 ++ ending (line_step place line).0) ≤ 1
unfolding line_step
step_one Outside line = elim (cases_Bool (is_blank_line line)) [
  | inl blank ↦ rw blank (omega arith)
  | inr other ↦ rw other (opened_one (without_return line) (closing_of (words (without_return line))))
]
  where
    opened_one : (head : List ℕ) (closing : Option (List ℕ)) → length ((opened head closing).1 ++ ending (opened head closing).0) ≤ 1
    opened_one head None = omega arith
    opened_one head (Some closing) = omega arith
step_one (Inside head closing block) line = elim (cases_Bool (is_word (without_return line) closing)) [
  | inl closes ↦ rw closes (omega arith)
  | inr goes_on ↦ rw goes_on (omega arith)
]

rest_one : (place : Place) (rest : List (List ℕ)) → length rest ≤ 1 → length (commands_from place rest) ≤ 1
unfolding commands_from
rest_one place [] one = ending_one place
rest_one place (line ∷ []) one = step_one place line
rest_one place (line ∷ other ∷ more) one = absurd (omega (arith, one))

open_refused : (place : Place) → list_all is_err (commands_from place []) ≡ true
unfolding commands_from
open_refused place = ending_refused place

-- what precedes other answers is the first part of all
first_of : (answers others : List Answer) → take (length answers) (answers ++ others) ≡ answers
first_of answers others = take-append_seam answers others

-- the commands of the lines that both have, and those of one more line
first_commands : (part whole done others rest : List (List ℕ)) → length rest ≤ 1 → part ≡ done ++ rest → whole ≡ done ++ others
    → AreFirstAndOneMore (commands_from Outside part) (commands_from Outside whole)
first_commands part whole done others rest one part_is whole_is =
    let both = ended Outside done in
    let place = place_following Outside done in
    let part_commands : commands_from Outside part ≡ both ++ commands_from place rest = ap (commands_from Outside) part_is ∙ commands_from-append Outside done rest in
    let whole_commands : commands_from Outside whole ≡ both ++ commands_from place others = ap (commands_from Outside) whole_is ∙ commands_from-append Outside done others in
    record {
      count = length both;
      within = rw whole_commands (omega (arith, length-append both (commands_from place others)));
      more = commands_from place rest;
      one = rest_one place rest one;
      are = part_commands ∙ ap (λ (answers : List Answer). answers ++ commands_from place rest) (sym (ap (take (length both)) whole_commands ∙ first_of both (commands_from place others)));
    }

-- ---- what is left

after-append : (state : State) (answers others : List Answer) → after_commands state (answers ++ others) ≡ after_commands (after_commands state answers) others
unfolding after_commands
after-append state [] others = refl
after-append state (answer ∷ answers) others = after-append (turn state answer).0 answers others

after-refused : (state : State) (answers : List Answer) → list_all is_err answers ≡ true → after_commands state answers ≡ state
unfolding after_commands
after-refused state [] refused = refl
after-refused state (Err refusal ∷ answers) refused = after-refused state answers refused
after-refused state (Ok command ∷ answers) refused = absurd cc

left_by_first : (part whole : List Answer) (begins : AreFirstAndOneMore part whole) → list_all is_err begins.more ≡ true → (state : State)
    → after_commands state part ≡ after_commands state (take begins.count whole)
left_by_first part whole begins refused state =
    ap (after_commands state) begins.are ∙ after-append state (take begins.count whole) begins.more ∙ after-refused (after_commands state (take begins.count whole)) begins.more refused

-- ---- scripts

module _ (first second : List ℕ) where
  pub cut : AreFirstAndOneMore (commands first) (commands (first ++ second))
  cut =
      let both = lines_cut first second in
      first_commands (lines first) (lines (first ++ second)) both.done both.others both.rest both.one both.part_is both.whole_is

  pub refused_cut : ends_with_line first ≡ true → AreFirstAndOneRefused (commands first) (commands (first ++ second))
  unfolding first_commands commands_from
  refused_cut ends =
      let both = lines_cut first second in
      let part_is : lines first ≡ both.done ++ [] = subst (λ (rest : List (List ℕ)). lines first ≡ both.done ++ rest) (both.none ends) both.part_is in
      let begins = first_commands (lines first) (lines (first ++ second)) both.done both.others [] (omega arith) part_is both.whole_is in
      let refused = open_refused (place_following Outside both.done) in
      record { first = begins; refused = refused; left = left_by_first (commands first) (commands (first ++ second)) begins refused }

module _ (script : List ℕ) (n : ℕ) where
  pub cut_at : AreFirstAndOneMore (commands (take n script)) (commands script)
  cut_at = subst (λ (whole : List ℕ). AreFirstAndOneMore (commands (take n script)) (commands whole)) (take-append-drop n script) (cut (take n script) (drop n script))

  pub cut_at_line : ends_with_line (take n script) ≡ true → AreFirstAndOneRefused (commands (take n script)) (commands script)
  cut_at_line ends = subst (λ (whole : List ℕ). AreFirstAndOneRefused (commands (take n script)) (commands whole)) (take-append-drop n script) (refused_cut (take n script) (drop n script) ends)
