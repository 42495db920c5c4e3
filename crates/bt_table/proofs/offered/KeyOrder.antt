-- Rows whose codes strictly rise have key columns whose values strictly rise. Serves the order of a table's rows.
use Rattle.std.proofs.Common.{◌≡◌, T, List, [], ◌∷◌, sym, subst, ◌∙◌, map, take}
use Rattle.std.specs.Ordering.{is_lt}
use Rattle.std.specs.FinMap.{is_sorted}
use Rattle.std.specs.FinMap.Entries.{below_all}
use Rattle.bt_row.specs.Schemas.{Schema}
use Rattle.bt_value.specs.Values.{values_cmp}
use Rattle.bt_value.specs.declared.value.Value.{Value}
use Rattle.bt_keycode.specs.Codes.{HaveSameKinds, code_of}
use Rattle.bt_keycode.proofs.offered.Codes.{codes_ordered}
use Rattle.bt_keycode.specs.Keys.{Key, key_cmp}
use Rattle.bt_form.specs.Messages.{Rows}
use Rattle.bt_keycode.proofs.offered.Truths.{t_both, t_first, t_second}
use Rattle.bt_keycode.proofs.offered.Ranges.{take_in_range}
use Rattle.bt_table.specs.Standing.{AllStand, KeysRise, Stands}
use Rattle.bt_table.proofs.offered.Kinds.{key_kinds}

-- ---- rows

pair-rises : (schema : Schema) (k l : Key) (row other : List Value) → Stands schema k row → Stands schema l other → T (is_lt (key_cmp k l))
    → T (is_lt (values_cmp (take schema.keys row) (take schema.keys other)))
pair-rises schema k l row other left right rises =
    let kinds : HaveSameKinds (take schema.keys row) (take schema.keys other) = key_kinds schema.keys schema.columns row left.fits ∙ sym (key_kinds schema.keys schema.columns other right.fits) in
    let same = codes_ordered (take schema.keys row) (take schema.keys other) kinds (take_in_range schema.keys row left.in_range) (take_in_range schema.keys other right.in_range) in
    let codes : key_cmp k l ≡ key_cmp (code_of (take schema.keys row)) (code_of (take schema.keys other)) = λ i. key_cmp (left.placed i) (right.placed i) in
    subst (λ o. T (is_lt o)) (codes ∙ same) rises

below-rise : (schema : Schema) (k : Key) (row : List Value) (rows : Rows (List Value)) → Stands schema k row → AllStand schema rows → T (below_all key_cmp k rows)
    → T (below_all values_cmp (take schema.keys row) (map (λ r. (take schema.keys r.1, r.1)) rows))
below-rise schema k row [] stands all below = tt
below-rise schema k row (r ∷ rs) stands all below =
    t_both _ _ (pair-rises schema k r.0 row r.1 stands all.0 (t_first _ _ below)) (below-rise schema k row rs stands all.1 (t_second _ _ below))

-- rows in ascending order of their codes are in ascending order of their keys
pub keys_rise : (schema : Schema) (rows : Rows (List Value)) → AllStand schema rows → T (is_sorted key_cmp rows) → KeysRise schema rows
keys_rise schema [] all sorted = tt
keys_rise schema (r ∷ rs) all sorted =
    t_both _ _ (below-rise schema r.0 r.1 rs all.0 all.1 (t_first _ _ sorted)) (keys_rise schema rs all.1 (t_second _ _ sorted))
