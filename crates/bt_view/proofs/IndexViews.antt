-- The result of reading a range of an index. Serves scans and sums of an index.
use Rattle.std.proofs.Common.{◌≡◌, ◌≢◌, ◌∙◌, ◌≤◌, ◌<◌, ℕ, arith, length, Bool, true, false, List, [], ◌∷◌, ◌++◌, Option, Some, Result, Ok, Err}
use Rattle.std.proofs.Common.{ap, fold, map, refl, reverse, subst, sym, take, if◌then◌else◌}
use Rattle.std.proofs.lemmas.List.{length-map, reverse-append}
use Rattle.std.specs.List.{All}
use Rattle.bt_row.specs.Schemas.{Schema}
use Rattle.bt_value.specs.declared.refusal.Refusal.{Refusal}
use Rattle.bt_value.specs.Results.{or_refused, and_then, map_ok}
use Rattle.bt_value.specs.declared.refusal.Refusal.TheVariants.{Building, OutOfMemory, TooMany}
use Rattle.bt_value.specs.declared.value.Kind.{Kind}
use Rattle.bt_row.specs.declared.rows.schema.Column.{Column}
use Rattle.bt_value.specs.declared.value.Value.{Value}
use Rattle.bt_form.specs.Flushes.{holds}
use Rattle.bt_form.specs.Messages.{Rows, between}
use Rattle.bt_fanout.specs.Covers.{is_whole}
use Rattle.bt_fanout.specs.Definitions.{kinds_of}
use Rattle.bt_fanout.specs.Effects.{entry_effect}
use Rattle.bt_fanout.specs.Entries.{entry_of}
use Rattle.bt_fanout.specs.Selections.{select}
use Rattle.bt_table.specs.Calls.{Secondary, ShowsIndex}
use Rattle.bt_table.specs.Tables.{PlainTable}
use Rattle.bt_table.specs.Indexes.{Index}
use Rattle.bt_table.proofs.offered.KeyOrder.{keys_rise}
use Rattle.bt_show.specs.inside.Entries.{index_kinds, rows_of_entries}
use Rattle.bt_view.specs.Groups.{groups_of, summed_place, sums_of, unless_too_many}
use Rattle.bt_view.specs.RangeSums.{groups_by, groups_within, place_in_range}
use Rattle.bt_show.specs.inside.Neighbours.{after_row}
use Rattle.bt_view.specs.Ranges.{index_row, index_schema, range_as, rows_within, scan_with_keys_of, when_whole}
use Rattle.bt_show.specs.declared.groups.Sum.{Sum}
use Rattle.bt_show.specs.declared.range.KeyRange.{KeyRange}
use Rattle.bt_show.proofs.offered.SelectedRows.{AreShown, shown-between, shown-rows, shown-take}
use Rattle.bt_view.proofs.IndexRows.{all_rise, all_shown, all_stand}
use Rattle.bt_view.proofs.RowOrder.{ascend}
use Rattle.bt_view.specs.declared.pages.RowOrder.{RowOrder}
use Rattle.bt_view.specs.declared.pages.RowOrder.TheVariants.{Falling, Rising}
use Rattle.bt_view.specs.inside.Orders.{in_order, page_of}
use Rattle.bt_view.specs.inside.Shown.{with_whole}
use Rattle.bt_view.proofs.Summing.{of_rows}
use Rattle.bt_view.proofs.WholeGroups.{ranged}

-- places of kinds are places of columns
under : (columns : List Column) (places : List ℕ) → All (λ place. place < length (kinds_of columns)) places → All (λ place. place < length columns) places
under columns places all = λ k d less. omega (arith, all k d less, length-map columns (λ c. c.kind))

module _ (table : PlainTable) (index : Index) (from to : Option (List (List ℕ))) where
  abbrev range : Result KeyRange Refusal
  range = range_as (take (index_schema table.schema index.def).keys (index_schema table.schema index.def).columns) from to

  abbrev rows : Rows (List Value)
  rows = select (index_row table.schema.keys index.def) table.rows

  refused : (r : Result KeyRange Refusal) (whole : Bool) (refusal : Refusal) → and_then (λ range. if whole then Ok range else Err Building) r ≡ Err refusal
      → and_then (λ range. map_ok (between range.from range.to) (if whole then Ok rows else Err Building)) r ≡ Err refusal
  refused (Ok range) true refusal is = cc
  refused (Ok range) false refusal is = cc
  refused (Err e) whole refusal is = cc

  done : (r : Result KeyRange Refusal) (whole : Bool) (own : KeyRange) → and_then (λ range. if whole then Ok range else Err Building) r ≡ Ok own
      → (whole ≡ true) × (and_then (λ range. map_ok (between range.from range.to) (if whole then Ok rows else Err Building)) r ≡ Ok (between own.from own.to rows))
  done (Ok range) true own is = (refl, ap (λ q. map_ok (between q.from q.to) (Ok rows)) (ok is))
    where
      ok : {a b : KeyRange} → ◌≡◌ {A = Result KeyRange Refusal} (Ok a) (Ok b) → a ≡ b
      ok is = cc
  done (Ok range) false own is = cc
  done (Err e) whole own is = cc

  -- the range by the columns of a schema that is the table's
  abbrev pub range_by : Schema → Result KeyRange Refusal
  range_by schema = range_as (take (index_schema schema index.def).keys (index_schema schema index.def).columns) from to

  module _ (schema : Schema) (shows : ShowsIndex table schema index) where
    -- unless memory ran out
    pub scan_refused : (refusal : Refusal) → (refusal ≢ OutOfMemory → and_then (when_whole index.cover) (range_by schema) ≡ Err refusal)
        → refusal ≢ OutOfMemory → scan_with_keys_of from to (Secondary table index) ≡ Err refusal
    scan_refused refusal is certain =
        refused range (is_whole index.cover) refusal (subst (λ s. and_then (when_whole index.cover) (range_by s) ≡ Err refusal) shows.schema_is (is certain))

    -- the entries of a range, as they are shown
    abbrev pub entries_by : Schema → KeyRange → Rows (List Value)
    entries_by schema own = rows_of_entries (index_kinds schema index.def) (between own.from own.to (holds entry_effect index.tree.1))

    through : (own : KeyRange) → is_whole index.cover ≡ true → entries_by schema own ≡ between own.from own.to rows
    through own whole =
        let on = under table.schema.columns index.def.on shows.suits.within.on in
        let include = under table.schema.columns index.def.include shows.suits.within.include in
        let shown = all_shown table.schema index.def on include shows.few table.rows shows.stand in
        let kinds = index_kinds table.schema index.def in
        ap (λ s. entries_by s own) shows.schema_is ∙ ap (λ es. rows_of_entries kinds (between own.from own.to es)) (shows.complete whole)
        ∙ shown-rows kinds (between own.from own.to (select (entry_of index.def) table.rows)) (between own.from own.to rows)
        (shown-between kinds own (select (entry_of index.def) table.rows) rows shown)

    pub scan_done : (own : KeyRange) → and_then (when_whole index.cover) (range_by schema) ≡ Ok own → scan_with_keys_of from to (Secondary table index) ≡ Ok (entries_by schema own)
    scan_done own is =
        let both = done range (is_whole index.cover) own (subst (λ s. and_then (when_whole index.cover) (range_by s) ≡ Ok own) shows.schema_is is) in
        both.1 ∙ ap Ok (sym (through own both.0))

    -- ---- sums

    module _ (grouping : ℕ) (column : List ℕ) where
      abbrev pub place_by : Schema → Result ℕ Refusal
      place_by schema = summed_place (index_schema schema index.def).columns (index_schema schema index.def).keys grouping column

      no_range : (r : Result KeyRange Refusal) (whole : Bool) (refusal : Refusal) → and_then (λ range. if whole then Ok range else Err Building) r ≡ Err refusal
          → and_then (λ range. and_then (λ rows. and_then (λ place. groups_of grouping place (rows_within range rows)) (place_by table.schema))
          (if whole then Ok rows else Err Building)) r ≡ Err refusal
      no_range (Ok range) true refusal is = cc
      no_range (Ok range) false refusal is = cc
      no_range (Err e) whole refusal is = cc

      has_range : (r : Result KeyRange Refusal) (whole : Bool) (own : KeyRange) → and_then (λ range. if whole then Ok range else Err Building) r ≡ Ok own
          → (whole ≡ true) × (and_then (λ range. and_then
          (λ rows. and_then (λ place. groups_of grouping place (rows_within range rows)) (place_by table.schema))
          (if whole then Ok rows else Err Building)) r
          ≡ and_then (λ place. groups_of grouping place (rows_within own rows)) (place_by table.schema))
      has_range (Ok range) true own is = (refl, ap (λ q. and_then (λ place. groups_of grouping place (rows_within q rows)) (place_by table.schema)) (ok is))
        where
          ok : {a b : KeyRange} → ◌≡◌ {A = Result KeyRange Refusal} (Ok a) (Ok b) → a ≡ b
          ok is = cc
      has_range (Ok range) false own is = cc
      has_range (Err e) whole own is = cc

      pub sums_refused : (refusal : Refusal) → (refusal ≢ OutOfMemory → and_then (when_whole index.cover) (range_by schema) ≡ Err refusal)
          → refusal ≢ OutOfMemory → sums_of grouping column from to (Secondary table index) ≡ Err refusal
      sums_refused refusal is certain =
          no_range range (is_whole index.cover) refusal (subst (λ s. and_then (when_whole index.cover) (range_by s) ≡ Err refusal) shows.schema_is (is certain))

      pub no_place : (refusal : Refusal) (own : KeyRange) → and_then (when_whole index.cover) (range_by schema) ≡ Ok own → place_by schema ≡ Err refusal
          → sums_of grouping column from to (Secondary table index) ≡ Err refusal
      no_place refusal own is none =
          (has_range range (is_whole index.cover) own (subst (λ s. and_then (when_whole index.cover) (range_by s) ≡ Ok own) shows.schema_is is)).1
          ∙ ap (λ p. and_then (λ place. groups_of grouping place (rows_within own rows)) p) (subst (λ s. place_by s ≡ Err refusal) shows.schema_is none)

      -- the groups of a range of an index that covers all are those of its entries
      groups_of_entries : (place : ℕ) (own : KeyRange) → is_whole index.cover ≡ true → grouping ≤ (index_schema schema index.def).keys
          → groups_of grouping place (rows_within own rows) ≡ or_refused TooMany (fold after_row (grouping, place, Some []) (entries_by schema own)).2
      groups_of_entries place own whole few =
          let on = under table.schema.columns index.def.on shows.suits.within.on in
          let include = under table.schema.columns index.def.include shows.suits.within.include in
          let stand = all_stand table.schema index.def on include shows.few table.rows shows.stand in
          let rise = keys_rise (index_schema table.schema index.def) rows stand (all_rise table.schema index.def on include shows.few table.rows) in
          let ascending = ascend (index_schema table.schema index.def) grouping (subst (λ s. grouping ≤ (index_schema s index.def).keys) shows.schema_is few) own rows stand rise in
          of_rows grouping place (map (λ c. c.kind) (take grouping (index_schema table.schema index.def).columns)) (between own.from own.to rows) ascending
          ∙ ap (λ rows. or_refused TooMany (fold after_row (grouping, place, Some []) rows).2) (sym (through own whole))

      -- the place of the summed column where there may be none
      abbrev pub range_place_by : Schema → Result ℕ Refusal
      range_place_by schema = place_in_range (index_schema schema index.def).columns (index_schema schema index.def).keys grouping column

      -- by whether the index covers all, and by that place
      abbrev groups_when : KeyRange → Bool → Result ℕ Refusal → Result (List Sum) Refusal
      groups_when own whole place =
          and_then (λ rows. and_then (λ place. unless_too_many (groups_by grouping place (rows_within own rows))) place) (if whole then Ok rows else Err Building)

      pub range_placed : (place : ℕ) (own : KeyRange) → is_whole index.cover ≡ true → range_place_by schema ≡ Ok place → grouping ≤ (index_schema schema index.def).keys
          → groups_within grouping column (Secondary table index) own
          ≡ map_ok (with_whole grouping) (or_refused TooMany (fold after_row (grouping, place, Some []) (entries_by schema own)).2)
      range_placed place own whole placed few =
          ap (λ w. groups_when own w (range_place_by table.schema)) whole ∙ ap (groups_when own true) (subst (λ s. range_place_by s ≡ Ok place) shows.schema_is placed)
          ∙ ranged grouping place (rows_within own rows) (fold after_row (grouping, place, Some []) (entries_by schema own)).2 (groups_of_entries place own whole few)

      pub range_unplaced : (refusal : Refusal) (own : KeyRange) → is_whole index.cover ≡ true → range_place_by schema ≡ Err refusal
          → groups_within grouping column (Secondary table index) own ≡ Err refusal
      range_unplaced refusal own whole none =
          ap (λ w. groups_when own w (range_place_by table.schema)) whole ∙ ap (groups_when own true) (subst (λ s. range_place_by s ≡ Err refusal) shows.schema_is none)

      pub sums_done : (place : ℕ) (own : KeyRange) → and_then (when_whole index.cover) (range_by schema) ≡ Ok own → place_by schema ≡ Ok place → grouping ≤ (index_schema schema index.def).keys
          → sums_of grouping column from to (Secondary table index) ≡ or_refused TooMany (fold after_row (grouping, place, Some []) (entries_by schema own)).2
      sums_done place own is placed few =
          let ranged = has_range range (is_whole index.cover) own (subst (λ s. and_then (when_whole index.cover) (range_by s) ≡ Ok own) shows.schema_is is) in
          ranged.1 ∙ ap (λ p. and_then (λ place. groups_of grouping place (rows_within own rows)) p) (subst (λ s. place_by s ≡ Ok place) shows.schema_is placed)
          ∙ groups_of_entries place own ranged.0 few

-- ---- pages

-- entries show rows in each order
module _ (kinds : List Kind) where
  shown-join : (es fs rs ss : Rows (List Value)) → AreShown kinds es rs → AreShown kinds fs ss → AreShown kinds (es ++ fs) (rs ++ ss)
  shown-join [] fs [] ss all others = others
  shown-join [] fs (r ∷ rs) ss all others = absurd all
  shown-join (e ∷ es) fs [] ss all others = absurd all
  shown-join (e ∷ es) fs (r ∷ rs) ss all others = (all.0, all.1, shown-join es fs rs ss all.2 others)

  shown-reverse : (es rs : Rows (List Value)) → AreShown kinds es rs → AreShown kinds (reverse es) (reverse rs)
  shown-reverse [] [] all = tt
  shown-reverse [] (r ∷ rs) all = absurd all
  shown-reverse (e ∷ es) [] all = absurd all
  shown-reverse (e ∷ es) (r ∷ rs) all =
      let others = shown-reverse es rs all.2 in
      let joined = shown-join (reverse es) (e ∷ []) (reverse rs) (r ∷ []) others (all.0, all.1, tt) in
      subst (λ l. AreShown kinds l (reverse (r ∷ rs))) (sym (reverse-append (e ∷ []) es))
      (subst (λ l. AreShown kinds (reverse es ++ e ∷ []) l) (sym (reverse-append (r ∷ []) rs)) joined)

  shown-in_order : (order : RowOrder) (es rs : Rows (List Value)) → AreShown kinds es rs → AreShown kinds (in_order order es) (in_order order rs)
  shown-in_order Rising es rs all = all
  shown-in_order Falling es rs all = shown-reverse es rs all

module _ (table : PlainTable) (index : Index) (own : KeyRange) (order : RowOrder) (limit : ℕ) where
  -- a page, by whether the index covers all rows
  abbrev page_when : Bool → Result (Rows (List Value)) Refusal
  page_when whole =
      map_ok (λ rows. take limit (in_order order rows))
      (map_ok (between own.from own.to) (if whole then Ok (select (index_row table.schema.keys index.def) table.rows) else Err Building))

  module _ (schema : Schema) (shows : ShowsIndex table schema index) where
    -- the first entries of a range in the order, as they are shown
    abbrev first_by : Schema → Rows (List Value) → Rows (List Value)
    first_by schema entries = rows_of_entries (index_kinds schema index.def) (take limit (in_order order (between own.from own.to entries)))

    first_through : is_whole index.cover ≡ true
        → first_by schema (holds entry_effect index.tree.1)
        ≡ take limit (in_order order (between own.from own.to (select (index_row table.schema.keys index.def) table.rows)))
    first_through whole =
        let on = under table.schema.columns index.def.on shows.suits.within.on in
        let include = under table.schema.columns index.def.include shows.suits.within.include in
        let entries = select (entry_of index.def) table.rows in
        let rows = select (index_row table.schema.keys index.def) table.rows in
        let kinds = index_kinds table.schema index.def in
        let shown_entries = in_order order (between own.from own.to entries) in
        let shown_rows = in_order order (between own.from own.to rows) in
        ap (λ s. first_by s (holds entry_effect index.tree.1)) shows.schema_is ∙ ap (first_by table.schema) (shows.complete whole)
        ∙ shown-rows kinds (take limit shown_entries) (take limit shown_rows)
        (shown-take kinds limit shown_entries shown_rows
        (shown-in_order kinds order (between own.from own.to entries) (between own.from own.to rows)
        (shown-between kinds own entries rows (all_shown table.schema index.def on include shows.few table.rows shows.stand))))

    pub page_done : is_whole index.cover ≡ true → page_of order own limit (Secondary table index) ≡ Ok (first_by schema (holds entry_effect index.tree.1))
    page_done whole = ap page_when whole ∙ ap Ok (sym (first_through whole))
