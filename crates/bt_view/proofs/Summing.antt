-- The groups that a visitor of rows has at the end are those by the codes of their columns. Serves grouped sums.
use Rattle.std.proofs.Common.{◌≡◌, ◌≢◌, ◌∙◌, ◌≤◌, ℕ, List, [], IfErr, None, Option, Some, Result, Ok, Err, refl, sym, ap, fold, map, subst, take}
use Rattle.std.proofs.lemmas.List.Folds.{fold-map}
use Rattle.bt_value.specs.Results.{or_refused, and_then, map_ok}
use Rattle.bt_row.specs.Schemas.{Schema}
use Rattle.bt_value.specs.declared.refusal.Refusal.{Refusal}
use Rattle.bt_value.specs.declared.refusal.Refusal.TheVariants.{TooMany}
use Rattle.bt_value.specs.declared.value.Kind.{Kind}
use Rattle.bt_value.specs.declared.value.Value.{Value}
use Rattle.bt_form.specs.Flushes.{holds}
use Rattle.bt_form.specs.Messages.{Rows, between}
use Rattle.bt_form.specs.Trees.{Shape}
use Rattle.bt_fanout.specs.Effects.{row_effect}
use Rattle.bt_table.specs.Calls.{Primary, ShowsRows, tree_named}
use Rattle.bt_table.specs.Tables.{PlainTable, RowTree, TableState}
use Rattle.bt_view.specs.Groups.{groups_of, summed_place, sums, sums_of, sums_within, unless_too_many}
use Rattle.bt_view.specs.RangeSums.{groups_by, groups_within, place_in_range}
use Rattle.bt_show.specs.inside.GroupParts.{columns_stay}
use Rattle.bt_show.specs.inside.Neighbours.{Ascend, Groups, grouped, after_row}
use Rattle.bt_view.specs.Ranges.{range_as, rows_within}
use Rattle.bt_show.specs.declared.groups.Sum.{Sum}
use Rattle.bt_show.specs.declared.range.KeyRange.{KeyRange}
use Rattle.bt_view.proofs.GroupOrder.{by_neighbours}
use Rattle.bt_view.specs.inside.Shown.{with_whole}
use Rattle.bt_view.proofs.RowOrder.{ascend}
use Rattle.bt_view.proofs.WholeGroups.{ranged}

pub of_rows : (columns place : ℕ) (kinds : List Kind) (rows : Rows (List Value)) → Ascend columns kinds (map (λ row. row.1) rows)
    → groups_of columns place (map (λ row. row.1) rows) ≡ or_refused TooMany (fold after_row (columns, place, Some []) rows).2
of_rows columns place kinds rows ascend =
    sym (by_neighbours columns place kinds (map (λ row. row.1) rows) ascend)
    ∙ ap (or_refused TooMany) (fold-map (grouped columns place) (λ row. row.1) (Some []) rows)
    ∙ sym (ap (λ (g : ℕ × ℕ × Groups). or_refused TooMany g.2) (columns_stay columns place (Some []) rows))

-- the rows that are shown are these, and they are grouped like this
pub of_shown : (answer : Result (List Sum) Refusal) (begin groups : ℕ × ℕ × Groups) (rows shown : Rows (List Value)) → answer ≡ or_refused TooMany (fold after_row begin rows).2
    → ◌≡◌ {A = ℕ × ℕ × Groups} groups begin → shown ≡ rows → answer ≡ or_refused TooMany (fold after_row groups shown).2
of_shown answer begin groups rows shown is begins shows =
    is ∙ sym (ap (λ (g : ℕ × ℕ × Groups). or_refused TooMany (fold after_row g rows).2) begins) ∙ sym (ap (λ rows. or_refused TooMany (fold after_row groups rows).2) shows)

-- an answer that is refused only because a group has too many rows has no other refusal
pub only_too_many : (P : Refusal → Type 0) (answer : Result (List Sum) Refusal) (groups : Groups) → answer ≡ or_refused TooMany groups → IfErr answer (λ refusal. refusal ≢ TooMany → P refusal)
only_too_many P answer groups is = subst (λ answer. IfErr answer (λ refusal. refusal ≢ TooMany → P refusal)) (sym is) (of_groups groups)
  where
    of_groups : (groups : Groups) → IfErr (or_refused TooMany groups) (λ refusal. refusal ≢ TooMany → P refusal)
    of_groups None = λ other. absurd (other refl)
    of_groups (Some all) = tt

-- sums of the rows of a table
module _ (table : PlainTable) (schema : Schema) (tree : Shape × RowTree) (shows : ShowsRows table schema tree) (from to : Option (List (List ℕ))) (grouping : ℕ) (column : List ℕ) where
  abbrev range_by : Schema → Result KeyRange Refusal
  range_by schema = range_as (take schema.keys schema.columns) from to

  abbrev place_by : Schema → Result ℕ Refusal
  place_by schema = summed_place schema.columns schema.keys grouping column

  abbrev range_place_by : Schema → Result ℕ Refusal
  range_place_by schema = place_in_range schema.columns schema.keys grouping column

  -- the groups of a range of keys are those of the rows that the tree holds
  pub groups_of_held : (own : KeyRange) (place : ℕ) → grouping ≤ schema.keys
      → groups_of grouping place (rows_within own table.rows) ≡ or_refused TooMany (fold after_row (grouping, place, Some []) (between own.from own.to (holds row_effect tree.1))).2
  groups_of_held own place few =
      of_rows grouping place (map (λ c. c.kind) (take grouping table.schema.columns)) (between own.from own.to table.rows)
      (ascend table.schema grouping (subst (λ s. grouping ≤ s.keys) shows.schema_is few) own table.rows shows.stand shows.order)
      ∙ ap (λ rows. or_refused TooMany (fold after_row (grouping, place, Some []) (between own.from own.to rows)).2) (sym shows.held)

  -- the groups of a range of keys, if the summed column has this place
  pub sums_placed : (own : KeyRange) (place : ℕ) → place_by schema ≡ Ok place → grouping ≤ schema.keys
      → sums_within grouping column (Primary table) own ≡ or_refused TooMany (fold after_row (grouping, place, Some []) (between own.from own.to (holds row_effect tree.1))).2
  sums_placed own place placed few =
      ap (and_then (λ place. groups_of grouping place (rows_within own table.rows))) (subst (λ s. place_by s ≡ Ok place) shows.schema_is placed) ∙ groups_of_held own place few

  -- the same where there may be no columns, or no summed one
  pub range_placed : (own : KeyRange) (place : ℕ) → range_place_by schema ≡ Ok place → grouping ≤ schema.keys
      → groups_within grouping column (Primary table) own
      ≡ map_ok (with_whole grouping) (or_refused TooMany (fold after_row (grouping, place, Some []) (between own.from own.to (holds row_effect tree.1))).2)
  range_placed own place placed few =
      ap (and_then (λ place. unless_too_many (groups_by grouping place (rows_within own table.rows)))) (subst (λ s. range_place_by s ≡ Ok place) shows.schema_is placed)
      ∙ ranged grouping place (rows_within own table.rows) (fold after_row (grouping, place, Some []) (between own.from own.to (holds row_effect tree.1))).2
      (groups_of_held own place few)

  -- and if it has none
  pub range_unplaced : (own : KeyRange) (refusal : Refusal) → range_place_by schema ≡ Err refusal → groups_within grouping column (Primary table) own ≡ Err refusal
  range_unplaced own refusal none =
      ap (and_then (λ place. unless_too_many (groups_by grouping place (rows_within own table.rows)))) (subst (λ s. range_place_by s ≡ Err refusal) shows.schema_is none)

  pub sums_of_rows : (state : TableState) (name : List ℕ) (own : KeyRange) (place : ℕ) → tree_named state name ≡ Ok (Primary table) → range_by schema ≡ Ok own
      → place_by schema ≡ Ok place → grouping ≤ schema.keys
      → sums state name grouping column from to ≡ or_refused TooMany (fold after_row (grouping, place, Some []) (between own.from own.to (holds row_effect tree.1))).2
  sums_of_rows state name own place named is placed few =
      ap (and_then (sums_of grouping column from to)) named
      ∙ ap (and_then (λ range. and_then (λ place. groups_of grouping place (rows_within range table.rows)) (place_by table.schema))) (subst (λ s. range_by s ≡ Ok own) shows.schema_is is)
      ∙ sums_placed own place placed few
