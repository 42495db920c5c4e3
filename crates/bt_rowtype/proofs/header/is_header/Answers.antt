use Rattle.std.proofs.Common.{◌≡◌, ◌==◌, ◌&&◌, ◌<◌, ◌+◌, ◌∙◌, ℕ, List, [], Some, refl, sym, drop, length, get_or, slice_get, arith, rules, true, false}
use Rattle.std.proofs.lemmas.List.{drop_more}
use Rattle.std.specs.Cmp.Lexicographic.{pointwise}
use Rattle.bt_rowtype.specs.Loads.{is_header}
use Rattle.bt_row.specs.declared.rows.schema.Column.{Column}
use Rattle.bt_rowtype.proofs.Columnwise.{at_place}
use Rattle.bt_rowtype.proofs.header.is_header.Goals as goal

-- the name at a place, and those after it
one_more : (columns : List Column) (names : List (List ℕ)) (place : ℕ) (column : Column) (name : List ℕ) → place < length columns → place < length names → column ≡ get_or columns place column
    → slice_get names place ≡ Some name → is_header (drop place columns) (drop place names) ≡ (pointwise ◌==◌ column.name name && is_header (drop (place + 1) columns) (drop (place + 1) names))
one_more columns names place column name in_columns in_names at_column at_name =
    rw (drop_more columns place column in_columns, drop_more names place [] in_names, ← at_column, at_place names place name at_name) refl

pub returns-then-not-is_named : goal.returns-then-not-is_named
returns-then-not-is_named c =
    let long : length c.args.names.now ≡ length c.args.columns.now = search rules in
    let other : pointwise ◌==◌ c.index-columns-place.result.name c.get.result.now ≡ false = search rules in
    let next = one_more c.args.columns.now c.args.names.now c.loop-place.place c.index-columns-place.result c.get.result.now c.loop-place-test.true
    (omega arith) c.index-columns-place.is c.get.ensures in
    sym (c.loop-place.invariant ∙ next ∙ rw other refl)

pub loop-place-preserved : goal.loop-place-preserved
loop-place-preserved c =
    let long : length c.args.names.now ≡ length c.args.columns.now = search rules in
    let same : pointwise ◌==◌ c.index-columns-place.result.name c.get.result.now ≡ true = search rules in
    let next = one_more c.args.columns.now c.args.names.now c.loop-place.place c.index-columns-place.result c.get.result.now c.loop-place-test.true
    (omega arith) c.index-columns-place.is c.get.ensures in
    c.loop-place.invariant ∙ next ∙ rw same refl
