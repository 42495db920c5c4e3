-- The rows of an index are under their keys as those of a table are, and are what its entries show. Serves scans and sums of an index.
use Rattle.std.proofs.Common.{◌≡◌, ◌∙◌, ◌≤◌, ◌<◌, arith, Bool, true, false, T, List, [], ◌∷◌, ◌++◌}
use Rattle.std.proofs.Common.{Option, Some, None, refl, sym, ap, subst, length, map, take, if◌then◌else◌}
use Rattle.std.proofs.lemmas.List.{length-append, length-map, length-take, take_at}
use Rattle.std.specs.Cmp.Lexicographic.{as_long}
use Rattle.std.specs.FinMap.{is_sorted, put}
use Rattle.std.specs.FinMap.Entries.{by_order, is_sorted-put}
use Rattle.std.specs.List.{All}
use Rattle.std.specs.Ordering.{is_eq}
use Rattle.std.specs.Prelude.{option_map}
use Rattle.std.specs.declared.cmp.Ordering.{Ordering}
use Rattle.std.specs.declared.cmp.Ordering.TheVariants.{Less, Equal, Greater}
use Rattle.bt_value.specs.Values.{AreInRange, fits_kind}
use Rattle.bt_row.specs.Schemas.{Schema, fit_columns}
use Rattle.bt_row.specs.declared.rows.schema.Column.{Column}
use Rattle.bt_value.specs.declared.value.Kind.{Kind}
use Rattle.bt_value.specs.declared.value.Value.{Value}
use Rattle.bt_keycode.specs.Codes.{code_of, kind_of}
use Rattle.bt_keycode.specs.Keys.{Key, key_cmp}
use Rattle.bt_keycode.proofs.offered.Decoded.{code_decoded}
use Rattle.bt_keycode.proofs.offered.Order.{same_key, total_keys}
use Rattle.bt_keycode.proofs.offered.Ranges.{take_in_range}
use Rattle.bt_form.specs.Messages.{Rows}
use Rattle.bt_fanout.specs.Entries.{Definition, entry_of, passes, picked, value_in}
use Rattle.bt_fanout.specs.Selections.{select, with_entry}
use Rattle.bt_table.specs.Standing.{AllStand, Stands}
use Rattle.bt_table.proofs.offered.Kinds.{key_kinds}
use Rattle.bt_show.specs.inside.Entries.{index_kinds, row_of_entry}
use Rattle.bt_view.specs.Ranges.{column_in, index_row, index_schema}
use Rattle.bt_show.proofs.offered.SelectedRows.{AreShown, IsShown, shown-with}
use Rattle.bt_show.proofs.offered.Columnwise.{code-append, fit-append, fit-picked, fit-take, in_range-append, in_range-picked}

-- ---- rows of an index

stand-put : (schema : Schema) (k : Key) (v : List Value) (rows : Rows (List Value)) → Stands schema k v → AllStand schema rows → AllStand schema (put key_cmp k v rows)
stand-put schema k v [] one all = (one, tt)
stand-put schema k v (r ∷ rows) one all = by_cmp (key_cmp k r.0) refl (stand-put schema k v rows one all.1)
  where
    by_cmp : (o : Ordering) → key_cmp k r.0 ≡ o → AllStand schema (put key_cmp k v rows) → AllStand schema (by_order (key_cmp k r.0) ((k, v) ∷ r ∷ rows) ((r.0, v) ∷ rows) (r ∷ put key_cmp k v rows))
    by_cmp o is more = subst (λ p. AllStand schema (by_order p ((k, v) ∷ r ∷ rows) ((r.0, v) ∷ rows) (r ∷ put key_cmp k v rows))) (sym is) (case o is more)
      where
        case : (o : Ordering) → key_cmp k r.0 ≡ o → AllStand schema (put key_cmp k v rows) → AllStand schema (by_order o ((k, v) ∷ r ∷ rows) ((r.0, v) ∷ rows) (r ∷ put key_cmp k v rows))
        case Less is more = (one, all)
        case Equal is more = (subst (λ q. Stands schema q v) (same_key k r.0 (ap is_eq is)) one, all.1)
        case Greater is more = (all.0, more)

module _ (schema : Schema) (def : Definition) (on : All (λ place. place < length schema.columns) def.on) (include : All (λ place. place < length schema.columns) def.include)
    (few : schema.keys ≤ length schema.columns) where
  abbrev of_index : Schema
  of_index = index_schema schema def

  abbrev kinds : List Kind
  kinds = index_kinds schema def

  -- the values of the key of the row that an index has for one
  abbrev own_key : List Value → List Value
  own_key row = picked def.on row ++ take schema.keys row

  own_key-first : (row included : List Value) → fit_columns schema.columns row ≡ true → take of_index.keys (own_key row ++ included) ≡ own_key row
  own_key-first row included f =
      let as_many = as_long (λ (c : Column) v. fits_kind c.kind v) schema.columns row f in
      take_at (own_key row) included of_index.keys
      (omega (arith, length-append (picked def.on row) (take schema.keys row), length-map def.on (value_in row), length-take schema.keys row, few, as_many))

  stands_in_index : (key : Key) (row : List Value) → Stands schema key row → Stands of_index (code_of (picked def.on row) ++ key) (own_key row ++ picked def.include row)
  stands_in_index key row stands = record {
    placed =
        ap (λ k. code_of (picked def.on row) ++ k) stands.placed ∙ sym (code-append (picked def.on row) (take schema.keys row))
        ∙ ap code_of (sym (own_key-first row (picked def.include row) stands.fits));
    fits =
        fit-append (map (column_in schema.columns) def.on ++ take schema.keys schema.columns) (map (column_in schema.columns) def.include) (own_key row) (picked def.include row)
        (fit-append (map (column_in schema.columns) def.on) (take schema.keys schema.columns) (picked def.on row) (take schema.keys row)
        (fit-picked schema.columns row def.on stands.fits on) (fit-take schema.keys schema.columns row stands.fits))
        (fit-picked schema.columns row def.include stands.fits include);
    in_range =
        in_range-append (own_key row) (picked def.include row)
        (in_range-append (picked def.on row) (take schema.keys row) (in_range-picked row def.on stands.in_range) (take_in_range schema.keys row stands.in_range))
        (in_range-picked row def.include stands.in_range);
  }

  shown_in_index : (key : Key) (row : List Value) → Stands schema key row → IsShown kinds (entry_of def key row) (index_row schema.keys def key row)
  shown_in_index key row stands = by_test (passes def.condition row)
    where
      of : Stands of_index (code_of (picked def.on row) ++ key) (own_key row ++ picked def.include row)
      of = stands_in_index key row stands

      first : take of_index.keys (own_key row ++ picked def.include row) ≡ own_key row
      first = own_key-first row (picked def.include row) stands.fits

      read : row_of_entry kinds (code_of (picked def.on row) ++ key, picked def.include row) ≡ Some (own_key row ++ picked def.include row)
      read =
          ap (option_map (λ values. values ++ picked def.include row))
          (code_decoded kinds (code_of (picked def.on row) ++ key) (own_key row) (record {
            of_kinds = ap (map kind_of) (sym first) ∙ key_kinds of_index.keys of_index.columns (own_key row ++ picked def.include row) of.fits;
            in_range = subst AreInRange first (take_in_range of_index.keys (own_key row ++ picked def.include row) of.in_range);
            code = ap code_of (sym first) ∙ sym of.placed;
          }))

      by_test : (b : Bool) → IsShown kinds (if b then Some (code_of (picked def.on row) ++ key, picked def.include row) else None)
          (option_map (λ (entry : Key × List Value). (entry.0, own_key row ++ entry.1)) (if b then Some (code_of (picked def.on row) ++ key, picked def.include row) else None))
      by_test true = (refl, read)
      by_test false = tt

  pub all_shown : (rows : Rows (List Value)) → AllStand schema rows → AreShown kinds (select (entry_of def) rows) (select (index_row schema.keys def) rows)
  all_shown [] all = tt
  all_shown (r ∷ rows) all =
      shown-with kinds (entry_of def r.0 r.1) (index_row schema.keys def r.0 r.1) (select (entry_of def) rows) (select (index_row schema.keys def) rows)
      (shown_in_index r.0 r.1 all.0) (all_shown rows all.1)

  pub all_stand : (rows : Rows (List Value)) → AllStand schema rows → AllStand of_index (select (index_row schema.keys def) rows)
  all_stand [] all = tt
  all_stand (r ∷ rows) all = by_test (passes def.condition r.1) (all_stand rows all.1)
    where
      by_test : (b : Bool) → AllStand of_index (select (index_row schema.keys def) rows)
          → AllStand of_index (with_entry (option_map (λ (entry : Key × List Value). (entry.0, own_key r.1 ++ entry.1))
          (if b then Some (code_of (picked def.on r.1) ++ r.0, picked def.include r.1) else None)) (select (index_row schema.keys def) rows))
      by_test true more =
          stand-put of_index (code_of (picked def.on r.1) ++ r.0) (own_key r.1 ++ picked def.include r.1) (select (index_row schema.keys def) rows) (stands_in_index r.0 r.1 all.0) more
      by_test false more = more

  pub all_rise : (rows : Rows (List Value)) → T (is_sorted key_cmp (select (index_row schema.keys def) rows))
  all_rise [] = tt
  all_rise (r ∷ rows) = by_entry (index_row schema.keys def r.0 r.1) (all_rise rows)
    where
      by_entry : (entry : Option (Key × List Value)) → T (is_sorted key_cmp (select (index_row schema.keys def) rows))
          → T (is_sorted key_cmp (with_entry entry (select (index_row schema.keys def) rows)))
      by_entry None more = more
      by_entry (Some entry) more = is_sorted-put key_cmp total_keys entry.0 entry.1 (select (index_row schema.keys def) rows) more
