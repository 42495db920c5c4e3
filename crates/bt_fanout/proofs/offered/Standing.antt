-- A row of a schema, under the code of its key columns, meets the premises of the laws of an index.
use Rattle.std.proofs.Common.{◌≡◌, ◌&&◌, ◌∙◌, Bool, true, false, List, [], ◌∷◌, ap, map, refl, sym, take, true≢false}
use Rattle.bt_row.specs.Schemas.{Schema, fit_columns}
use Rattle.bt_value.specs.Values.{fits_kind}
use Rattle.bt_row.specs.declared.rows.schema.Column.{Column}
use Rattle.bt_value.specs.declared.value.Value.{Value}
use Rattle.bt_value.proofs.offered.Kinds.{fits_kind_of}
use Rattle.bt_keycode.specs.Codes.{code_of, kind_of}
use Rattle.bt_keycode.specs.Keys.{Key}
use Rattle.bt_message.specs.Effects.{Rows}
use Rattle.bt_fanout.specs.Definitions.{kinds_of}
use Rattle.bt_fanout.specs.Entries.{Definition, StandsUnder}
use Rattle.bt_fanout.specs.Selections.{EachStands}

first_fits : (a b : Bool) → (a && b) ≡ true → a ≡ true
first_fits true b h = refl
first_fits false b h = absurd (true≢false (sym h))

others_fit : (a b : Bool) → (a && b) ≡ true → b ≡ true
others_fit true b h = h
others_fit false b h = absurd (true≢false (sym h))

of_kinds : (columns : List Column) (row : List Value) → fit_columns columns row ≡ true → map kind_of row ≡ kinds_of columns
of_kinds [] [] h = refl
of_kinds [] (v ∷ row) h = absurd (true≢false (sym h))
of_kinds (c ∷ columns) [] h = absurd (true≢false (sym h))
of_kinds (c ∷ columns) (v ∷ row) h =
    ap (λ k. k ∷ map kind_of row) (fits_kind_of c.kind v (first_fits (fits_kind c.kind v) (fit_columns columns row) h))
    ∙ ap (λ ks. c.kind ∷ ks) (of_kinds columns row (others_fit (fits_kind c.kind v) (fit_columns columns row) h))

pub stands_under : (schema : Schema) (def : Definition) (key : Key) (row : List Value) → def.keys ≡ schema.keys → fit_columns schema.columns row ≡ true → key ≡ code_of (take schema.keys row) →
    StandsUnder def (kinds_of schema.columns) key row
stands_under schema def key row keys fits placed = record {
  of_kinds = of_kinds schema.columns row fits;
  under = ap (λ n. code_of (take n row)) keys ∙ sym placed;
}

-- what is true of each row is true if another fact is
pub all_stand : {X : Type 0} (P Q : Key → X → Type 0) → ((k : Key) (x : X) → P k x → Q k x) → (rows : Rows X) → EachStands P rows → EachStands Q rows
all_stand P Q more [] h = tt
all_stand P Q more (r ∷ rows) h = (more r.0 r.1 h.0, all_stand P Q more rows h.1)
