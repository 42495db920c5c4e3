use Rattle.std.proofs.Common.{◌≡◌, ◌==◌, ◌<◌, ◌+◌, ◌∙◌, ℕ, List, true, false, Some, add-one, ap, drop, get_or, length, refl, sym}
use Rattle.std.proofs.lemmas.List.{drop_all, drop_more}
use Rattle.std.specs.Cmp.Lexicographic.{pointwise}
use Rattle.bt_row.specs.Ops.{named_from}
use Rattle.bt_row.specs.declared.rows.schema.Column.{Column}
use Rattle.bt_row.proofs.rows.schema.find_column.Goals as goal

-- the column at a place has the name
here : (columns : List Column) (place : ℕ) (name : List ℕ) (column : Column) → place < length columns → column ≡ get_or columns place column → pointwise ◌==◌ column.name name ≡ true
    → Some (place, column.kind) ≡ named_from place name (drop place columns)
here columns place name column within is same = rw (drop_more columns place column within, ← is, same) refl

-- or another column does
following : (columns : List Column) (place : ℕ) (name : List ℕ) (column : Column) → place < length columns → column ≡ get_or columns place column → pointwise ◌==◌ column.name name ≡ false
    → named_from place name (drop place columns) ≡ named_from (place + 1) name (drop (place + 1) columns)
following columns place name column within is other = rw (drop_more columns place column within, ← is, other, add-one) refl

pub returns-then-eq : goal.returns-then-eq
returns-then-eq c =
    here c.args.columns.now c.loop-place.place c.args.name.now c.index-columns-place.result c.loop-place-test.true c.index-columns-place.is
    (ap (λ (bytes : List ℕ). pointwise ◌==◌ bytes c.args.name.now) (sym c.as_bytes.ensures.value) ∙ sym c.if-eq.ensures) ∙ sym c.loop-place.invariant

pub loop-place-preserved : goal.loop-place-preserved
loop-place-preserved c =
    c.loop-place.invariant
    ∙ following c.args.columns.now c.loop-place.place c.args.name.now c.index-columns-place.result c.loop-place-test.true c.index-columns-place.is
    (ap (λ (bytes : List ℕ). pointwise ◌==◌ bytes c.args.name.now) (sym c.as_bytes.ensures.value) ∙ sym c.if-eq.ensures)

pub returns : goal.returns
returns c = rw (c.loop-place.invariant, drop_all c.loop-place.place c.args.columns.now c.loop-place-test.false) refl
