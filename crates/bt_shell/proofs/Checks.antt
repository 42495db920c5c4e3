-- Whether a command is carried out, from the answer of the call that it makes, and what a log has after one more command. Serves the check of a script.
use Rattle.std.proofs.Common.{◌≡◌, ◌∙◌, ℕ, List, [], ◌∷◌, Option, None, Some, Result, Ok, Err, ap, refl, sym}
use Rattle.bt_value.specs.Results.{map_ok, unless}
use Rattle.bt_value.specs.declared.refusal.Refusal.{Refusal}
use Rattle.bt_script.specs.Commands.{Answer}
use Rattle.bt_script.specs.declared.command.Command.{Command}
use Rattle.bt_script.specs.declared.command.IndexForm.{IndexForm}
use Rattle.bt_fanout.specs.Definitions.{definition_as}
use Rattle.bt_fanout.specs.Entries.{Definition}
use Rattle.bt_value.specs.Refusals.{lowest}
use Rattle.bt_table.specs.Calls.{name_refusals}
use Rattle.bt_table.specs.Tables.{TableState, Intact, Lost}
use Rattle.bt_table.specs.declared.reply.Reply.{Reply}
use Rattle.bt_shell.specs.Logs.{checked, kind_after, kind_of, permitted}
use Rattle.bt_shell.specs.Steps.{Done, State, call_outcome, creation_outcome, definition_of, definition_or_lowest, read_outcome}
use Rattle.bt_shell.specs.declared.log.ReplyKind.{ReplyKind}
use Rattle.bt_shell.specs.declared.log.ReplyKind.TheVariants.{Refused}
use Rattle.bt_shell.specs.inside.Turns.{IsChecked}

pub of_read : {A : Type 0} (state : TableState) (text : A → List ℕ) (answer : Result A Refusal)
    → permitted (read_outcome state (map_ok text answer)) ≡ map_ok (λ _. tt) answer
of_read state text (Ok value) = refl
of_read state text (Err refusal) = refl

pub of_mapped : {A B : Type 0} (made : A → B) (answer : Result A Refusal)
    → map_ok {B = Unit {0}} (λ _. tt) (map_ok made answer) ≡ map_ok (λ _. tt) answer
of_mapped made (Ok value) = refl
of_mapped made (Err refusal) = refl

-- a name that is refused is no definition's
named_freely : (found : Option Refusal) (made : Result Definition Refusal) (def : Definition) → definition_or_lowest made found ≡ Ok def → found ≡ None
named_freely None made def is = refl
named_freely (Some refusal) (Ok other) def is = absurd cc
named_freely (Some refusal) (Err other) def is = absurd cc

allowed : (found : Option Refusal) (after : TableState × Reply) → found ≡ None → permitted (call_outcome (unless found after)) ≡ Ok tt
allowed None after free = refl
allowed (Some refusal) after free = absurd cc

-- a definition whose name is free makes an index
pub created : (state : TableState) (form : IndexForm) (def : Definition) → definition_of state form ≡ Ok def
    → permitted (creation_outcome state form.name (definition_of state form)) ≡ Ok tt
created Lost form def is = absurd cc
created (Intact table) form def is =
    let free = named_freely (lowest (name_refusals table form.name)) (definition_as table.schema form.on form.include form.filter) def is in
    ap (λ d. permitted (creation_outcome (Intact table) form.name d)) is ∙ allowed (lowest (name_refusals table form.name)) _ free

-- a command that is not permitted is refused
pub kind_refused : (command : Command) (outcome : Result Done Refusal) (refusal : Refusal) → permitted outcome ≡ Err refusal → Refused ≡ kind_after command outcome
kind_refused command (Ok done) refusal is = absurd cc
kind_refused command (Err other) refusal is = refl

module _ {L : Type 0} (added : L → ℕ → ReplyKind → L) where
  checked-one : (log : L) (state : State) (answer : Answer) (more : List Answer)
      → checked added log state (answer ∷ more) ≡ checked added (added log 0 (kind_of state answer)) state more
  unfolding checked
  checked-one log state answer more = refl

  checked-none : (log : L) (state : State) → checked added log state [] ≡ log
  unfolding checked
  checked-none log state = refl

  -- one more command
  pub check_goes_on : (whole log after : L) (state : State) (others more : List Answer) (kind : ReplyKind)
      → IsChecked state others more kind → after ≡ added log 0 kind
      → whole ≡ checked added log state others → whole ≡ checked added after state more
  check_goes_on whole log after state others more kind step told so_far =
      so_far ∙ ap (checked added log state) step.1 ∙ checked-one log state step.0 more
      ∙ sym (ap (λ (l : L). checked added l state more) told ∙ ap (λ (k : ReplyKind). checked added (added log 0 k) state more) step.2)

  -- no more commands
  pub check_ends : (whole log : L) (state : State) (others : List Answer) → whole ≡ checked added log state others → others ≡ [] → log ≡ whole
  check_ends whole log state others so_far none = sym (so_far ∙ ap (checked added log state) none ∙ checked-none log state)
