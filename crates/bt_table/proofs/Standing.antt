-- A batch of messages of the schema leaves each row under its key. Serves the rows of a sound table.
use Rattle.std.proofs.Common.{◌≡◌, Bool, true, false, cond, List, [], ◌∷◌, refl, sym, ap, subst, Option, Some, None, IfSome}
use Rattle.std.specs.Ordering.{eq_by_cmp, is_eq}
use Rattle.std.specs.declared.cmp.Ordering.TheVariants.{Less, Equal, Greater}
use Rattle.std.specs.FinMap.{find, put}
use Rattle.std.specs.FinMap.Entries.{by_order, where_key}
use Rattle.bt_row.specs.Schemas.{Schema}
use Rattle.bt_value.specs.declared.value.Value.{Value}
use Rattle.bt_keycode.specs.Keys.{Key, key_cmp}
use Rattle.bt_keycode.proofs.offered.Order.{same_key}
use Rattle.bt_form.specs.Messages.{Rows, rows_after, with_value}
use Rattle.bt_batch.specs.Batches.{RowMessages}
use Rattle.bt_table.specs.Standing.{AllStand, AreOfSchema, Stands}
use Rattle.bt_fanout.specs.Effects.{row_effect}

where_key-stand : (schema : Schema) (p : Key → Bool) (rows : Rows (List Value)) → AllStand schema rows → AllStand schema (where_key key_cmp p rows)
where_key-stand schema p [] stand = tt
where_key-stand schema p (r ∷ rs) stand =
    let rest = where_key-stand schema p rs stand.1 in
    elim (p r.0) as (λ b. AllStand schema (cond b (r ∷ where_key key_cmp p rs) (where_key key_cmp p rs))) [ true ↦ (stand.0, rest) | false ↦ rest ]

pub put-stand : (schema : Schema) (k : Key) (row : List Value) (rows : Rows (List Value)) → Stands schema k row → AllStand schema rows → AllStand schema (put key_cmp k row rows)
put-stand schema k row [] stands all = (stands, tt)
put-stand schema k row (r ∷ rs) stands all =
    elim (key_cmp k r.0) as (λ o. key_cmp k r.0 ≡ o → AllStand schema (by_order o ((k, row) ∷ r ∷ rs) ((r.0, row) ∷ rs) (r ∷ put key_cmp k row rs))) [
      | Less ↦ λ is. (stands, all)
      | Equal ↦ λ is. (subst (λ (key : Key). Stands schema key row) (same_key k r.0 (ap is_eq is)) stands, all.1)
      | Greater ↦ λ is. (all.0, put-stand schema k row rs stands all.1)
    ] refl

-- the row that is found at a key belongs there
find-stands : (schema : Schema) (k : Key) (rows : Rows (List Value)) → AllStand schema rows → IfSome (find key_cmp k rows) (λ row. Stands schema k row)
find-stands schema k [] all = tt
find-stands schema k (r ∷ rs) all =
    elim (eq_by_cmp key_cmp k r.0) as (λ b. eq_by_cmp key_cmp k r.0 ≡ b → IfSome (cond b (Some r.1) (find key_cmp k rs)) (λ row. Stands schema k row)) [
      | true ↦ λ is. subst (λ (key : Key). Stands schema key r.1) (sym (same_key k r.0 is)) all.0
      | false ↦ λ is. find-stands schema k rs all.1
    ] refl

with_value-stand : (schema : Schema) (k : Key) (new : Option (List Value)) (rows : Rows (List Value)) → IfSome new (λ row. Stands schema k row) → AllStand schema rows
    → AllStand schema (with_value k new rows)
with_value-stand schema k None rows stands all = where_key-stand schema _ rows all
with_value-stand schema k (Some row) rows stands all = put-stand schema k row rows stands all

pub rows_after-stand : (schema : Schema) (batch : RowMessages) (rows : Rows (List Value)) → AreOfSchema schema batch → AllStand schema rows → AllStand schema (rows_after row_effect batch rows)
rows_after-stand schema [] rows fit all = all
rows_after-stand schema (m ∷ ms) rows fit all =
    let old = find key_cmp m.0 rows in
    rows_after-stand schema ms (with_value m.0 (row_effect old m.1) rows) fit.1
    (with_value-stand schema m.0 (row_effect old m.1) rows (fit.0 old (find-stands schema m.0 rows all)) all)
