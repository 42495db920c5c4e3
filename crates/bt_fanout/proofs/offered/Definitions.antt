-- A definition by names is one of its schema.
use Rattle.std.proofs.Common.{ℕ, ◌≡◌, ◌≤◌, List, Option, Result, Ok, Err, length, refl, subst}
use Rattle.std.specs.Result.{result_map_both}
use Rattle.bt_value.specs.Results.{both_read}
use Rattle.bt_row.specs.Schemas.{Schema}
use Rattle.bt_row.specs.declared.rows.filter.Filter.{Filter}
use Rattle.bt_value.specs.declared.refusal.Refusal.{Refusal}
use Rattle.bt_fanout.specs.Definitions.{chosen, condition_in, definition_as, kinds_of}
use Rattle.bt_fanout.specs.Entries.{Definition, SuitsKinds}
use Rattle.bt_fanout.specs.declared.definition.Condition.{Condition}
use Rattle.bt_fanout.proofs.Naming.{parts_suit}

-- the definition of what was read of its names and of its filter
abbrev definition_from : Schema → Option Condition × (List ℕ × List ℕ) → Definition
definition_from schema read = record { on = read.1.0; include = read.1.1; condition = read.0; keys = schema.keys }

pub definition_suits : (schema : Schema) (on include : List (List ℕ)) (filter : Option Filter) (def : Definition) → schema.keys ≤ length schema.columns
    → definition_as schema on include filter ≡ Ok def →
    SuitsKinds def (kinds_of schema.columns) × (def.keys ≡ schema.keys)
definition_suits schema on include filter def few is = by_read (both_read (condition_in schema.columns filter) (chosen schema.columns on include)) refl is
  where
    by_read : (read : Result (Option Condition × (List ℕ × List ℕ)) Refusal) → both_read (condition_in schema.columns filter) (chosen schema.columns on include) ≡ read
        → result_map_both (definition_from schema) (λ e. e) read ≡ Ok def → SuitsKinds def (kinds_of schema.columns) × (def.keys ≡ schema.keys)
    by_read (Ok read) parts whole =
        let same : definition_from schema read ≡ def = cc in
        subst (λ d. SuitsKinds d (kinds_of schema.columns) × (d.keys ≡ schema.keys)) same
        (parts_suit schema.columns schema.columns on include filter read.0 read.1 schema.keys refl few parts, refl)
    by_read (Err refusal) parts whole = cc
