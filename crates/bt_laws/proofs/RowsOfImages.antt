-- Tables whose rebuilt trees of rows have the same image have the same rows.
use Rattle.std.proofs.Common.{ℕ, ◌≡◌, ◌∙◌, ◌<◌, ◌≤◌, ◌^◌, true, List, [], ◌∷◌, ap, sym, subst, refl, arith, codes, length, map, Result, Ok, Err}
use Rattle.std.proofs.lemmas.Bool.Decides.{nat_tests}
use Rattle.std.specs.List.{AllByRecursion}
use Rattle.bt_row.specs.Schemas.{Schema, is_schema}
use Rattle.bt_value.specs.declared.refusal.Refusal.{Refusal}
use Rattle.bt_value.specs.declared.value.Value.{Value}
use Rattle.bt_keycode.specs.Keys.{Key}
use Rattle.bt_keycode.specs.Standing.{AllStand}
use Rattle.bt_form.specs.Deals.{deal}
use Rattle.bt_flush.specs.Drains.{AreDry, IsDry, packed}
use Rattle.bt_form.specs.Flushes.{first_key, holds, leaves, pivot_first}
use Rattle.bt_form.specs.Messages.{Rows}
use Rattle.bt_form.specs.Shapes.{is_shape}
use Rattle.bt_form.specs.Trees.{Shape, Siblings, Tree, leaf, nodes}
use Rattle.bt_node.proofs.offered.PackedTrees.{crown-dry, packed-has_shape, packed-holds}
use Rattle.bt_fanout.specs.Effects.{RowMessage, row_effect, row_meaning}
use Rattle.bt_table.specs.Calls.{Primary, Rebuild}
use Rattle.bt_table.specs.Tables.{Intact, PlainTable, RowTree}
use Rattle.bt_table.proofs.offered.SoundTables.{rows_sorted}
use Rattle.bt_view.specs.Images.{change_text, row_image}
use Rattle.bt_laws.specs.CanonicalForms.{ImagesTellRows, image_after}
use Rattle.bt_laws.specs.StoredTables.{HasOnlyBytes, IsStored}
use Rattle.bt_laws.proofs.FromScratch.{rebuilt_from_scratch}
use Rattle.bt_laws.proofs.ImageRows.{image_rows}

-- no message is pending in a packed tree
packed-dry : (shape : Shape) (rows : Rows (List Value)) → IsDry (packed {M = RowMessage} shape rows)
packed-dry shape rows = crown-dry shape (leaves shape rows) (under_first (deal shape.leaf rows))
  where
    each : (parts : List (Rows (List Value))) → AreDry {M = RowMessage} (nodes (map (λ part. (first_key (λ r. r.0) part, leaf part)) parts))
    each [] = tt
    each (part ∷ parts) = (tt, each parts)

    under_first : (parts : List (Rows (List Value))) → AreDry {M = RowMessage} (nodes (pivot_first [] (map (λ part. (first_key (λ r. r.0) part, leaf part)) parts)))
    under_first [] = tt
    under_first (part ∷ parts) = (tt, each parts)

small : (shape : Shape) → is_shape shape.measure shape.fanout shape.buffer shape.leaf ≡ true → (shape.leaf < 2 ^ 64) × (shape.fanout < 2 ^ 64)
small shape test =
    let leaf_most : shape.leaf ≤ 1024 = grind (arith, nat_tests) in
    let fanout_most : shape.fanout ≤ 64 = grind (arith, nat_tests) in
    (omega (arith, leaf_most), omega (arith, fanout_most))

some_column : (columns : Schema) → is_schema columns.columns columns.keys ≡ true → 1 ≤ length columns.columns
some_column columns test = grind (arith, nat_tests)

-- the image of a rebuilt tree of rows
rows_image : (table : PlainTable) → IsStored table
    → image_after (Intact table) (Rebuild (codes "primary")) (codes "primary")
    ≡ Ok (row_image table.schema.columns (codes "primary") (packed table.shape table.rows))
rows_image table stored = rebuilt_from_scratch table stored.sound (codes "primary") (Primary table) refl refl

one_text : (first second : List ℕ) (read : Result (List ℕ) Refusal) → read ≡ Ok first → read ≡ Ok second → first ≡ second
one_text first second read one two = cc

-- the rows of a table in the tree that is packed from them
module _ (table : PlainTable) (stored : IsStored table) where
  abbrev tree : RowTree
  tree = packed table.shape table.rows

  held : holds row_effect tree ≡ table.rows
  held = packed-holds row_meaning.weigh table.shape stored.sound.tree.roomy table.rows (rows_sorted table stored.sound) row_effect

pub equal_rows : (first second : PlainTable) → IsStored first → IsStored second → ImagesTellRows first second
equal_rows first second one two schema same =
    let texts : row_image first.schema.columns (codes "primary") (packed first.shape first.rows) ≡ row_image first.schema.columns (codes "primary") (packed second.shape second.rows) =
    one_text _ _ _ (sym same ∙ rows_image first one) (rows_image second two) ∙ ap (λ (s : Schema). row_image s.columns (codes "primary") (packed second.shape second.rows)) (sym schema) in
    let first_small = small first.shape one.shape in
    let second_small = small second.shape two.shape in
    let first_fits = packed-has_shape row_meaning.weigh first.shape one.sound.tree.roomy first.rows (rows_sorted first one.sound) in
    let second_fits = packed-has_shape row_meaning.weigh second.shape two.sound.tree.roomy second.rows (rows_sorted second two.sound) in
    let stand = subst (AllStand first.schema) (sym (held first one)) one.sound.rows in
    let other_stand = subst (λ (s : Schema). AllStand s (holds row_effect (tree second two))) (sym schema) (subst (AllStand second.schema) (sym (held second two)) two.sound.rows) in
    let bytes = subst (λ (rows : Rows (List Value)). AllByRecursion (λ row. AllByRecursion HasOnlyBytes row.1) rows) (sym (held first one)) one.bytes in
    let other_bytes = subst (λ (rows : Rows (List Value)). AllByRecursion (λ row. AllByRecursion HasOnlyBytes row.1) rows) (sym (held second two)) two.bytes in
    sym (held first one)
    ∙ image_rows (change_text first.schema.columns) row_effect row_meaning.weigh first.shape second.shape first.schema (some_column first.schema one.schema)
    first_small.0 first_small.1 second_small.0 second_small.1
    (codes "primary") (tree first one) (tree second two) (packed-dry first.shape first.rows) (packed-dry second.shape second.rows) first_fits.fits.sized
    second_fits.fits.sized stand other_stand bytes other_bytes texts
    ∙ held second two
