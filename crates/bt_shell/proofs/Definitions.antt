-- The definition of a new index, or its lowest refusal. Serves the command that creates one.
use Rattle.std.proofs.Common.{◌≡◌, None, Some, OnOk, IfErr, Option, Result, Ok, Err, ap, refl, subst}
use Rattle.bt_value.specs.Answers.{Answers}
use Rattle.bt_value.specs.Refusals.{lowest}
use Rattle.bt_value.specs.Results.{both_read, map_ok, unless}
use Rattle.bt_value.specs.declared.refusal.Refusal.{Refusal}
use Rattle.bt_row.specs.Schemas.{Schema}
use Rattle.bt_fanout.specs.Definitions.{definition_as, kinds_of}
use Rattle.bt_fanout.specs.Entries.{Definition, SuitsKinds}
use Rattle.bt_script.specs.declared.command.IndexForm.{IndexForm}
use Rattle.bt_shell.specs.Steps.{definition_of, definition_or_lowest}
use Rattle.bt_table.specs.Calls.{index_refusals, name_refusals}
use Rattle.bt_table.specs.Standing.{HasSchema, Suits}
use Rattle.bt_table.specs.Tables.{TableState, Intact, Lost}

-- the second of two values that both were read
pub second_read : {S T : Type 0} (first : Result S Refusal) (second : Result T Refusal) (both : S × T) → both_read first second ≡ Ok both → second ≡ Ok both.1
second_read (Ok value) (Ok other) both is = (cc)
second_read (Ok value) (Err refusal) both is = absurd (cc)
second_read (Err refusal) (Ok other) both is = absurd (cc)
second_read (Err refusal) (Err other) both is = absurd (cc)

pub as_itself : {T : Type 0} (result : Result T Refusal) → Answers result result
as_itself (Ok value) = refl
as_itself (Err refusal) = λ _. refl

-- a name that is free or refused
free_name : (found : Option Refusal) (free : Result (Unit {0}) Refusal) → OnOk free (found ≡ None) → IfErr free (λ refusal. found ≡ Some refusal) → Answers (unless found tt) free
free_name found (Ok value) none some = ap (λ f. unless f tt) none
free_name found (Err refusal) none some = λ _. ap (λ f. unless f tt) some

pub mapped : {S T : Type 0} (f : S → T) (answer result : Result S Refusal) → Answers answer result → Answers (map_ok f answer) (map_ok f result)
mapped f answer (Ok value) is = ap (map_ok f) is
mapped f answer (Err refusal) is = λ some. ap (map_ok f) (is some)

-- the definition of a new index by both its name and its parts
pub defined : (state : TableState) (schema : Schema) (form : IndexForm) (free : Result (Unit {0}) Refusal) (made : Result Definition Refusal) (result : Result (Unit {0} × Definition) Refusal)
    → HasSchema state schema → OnOk free (lowest (index_refusals state form.name) ≡ None) → IfErr free (λ refusal. lowest (index_refusals state form.name) ≡ Some refusal)
    → Answers (definition_as schema form.on form.include form.filter) made
    → ((one : Result (Unit {0}) Refusal) → (other : Result Definition Refusal) → Answers one free → Answers other made → Answers (both_read one other) result)
    → Answers (definition_of state form) (map_ok (λ both. both.1) result)
defined Lost schema form free made result has none some as_made both = absurd has
defined (Intact table) schema form free made result has none some as_made both =
    let name = unless (lowest (name_refusals table form.name)) tt in
    let whole = both name (definition_as schema form.on form.include form.filter) (free_name (lowest (name_refusals table form.name)) free none some) as_made in
    subst (λ s. Answers (definition_or_lowest (definition_as s form.on form.include form.filter) (lowest (name_refusals table form.name))) (map_ok (λ both. both.1) result)) has
    (mapped (λ (both : Unit {0} × Definition). both.1) (both_read name (definition_as schema form.on form.include form.filter)) result whole)

-- a definition of the schema of a table is a definition of the table
pub suits_table : (state : TableState) (schema : Schema) (def : Definition) → HasSchema state schema → SuitsKinds def (kinds_of schema.columns) → def.keys ≡ schema.keys → Suits state def
suits_table Lost schema def has kinds keys = absurd has
suits_table (Intact table) schema def has kinds keys = subst (λ s. SuitsKinds def (kinds_of s.columns) × (def.keys ≡ s.keys)) has (kinds, keys)
