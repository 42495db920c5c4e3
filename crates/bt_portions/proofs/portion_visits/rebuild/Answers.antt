use Rattle.std.proofs.Common.{◌≡◌, ◌∙◌, ◌++◌, ◌∷◌, [], None, ap, fold}
use Rattle.std.specs.FinMap.{is_sorted}
use Rattle.bt_keycode.specs.Keys.{key_cmp}
use Rattle.bt_message.specs.Effects.{Rows, effect_of}
use Rattle.bt_message.specs.Meanings.{meaning_of}
use Rattle.bt_flush.specs.Drains.{packed}
use Rattle.bt_form.specs.Flushes.{holds}
use Rattle.bt_form.specs.Messages.{between}
use Rattle.bt_read.proofs.offered.Portions.{between-all, copied_all, true_t}
use Rattle.bt_node.proofs.offered.ShapedTrees.{holds-sorted}
use Rattle.bt_portions.proofs.portion_visits.rebuild.Goals as goal

-- rows that are copied from the first to the last, with no copies before
all_copied : {V : Type 0} (none copies rows held : Rows V) → none ≡ [] → copies ≡ fold (λ all row. all ++ row ∷ []) none (between None None held) → rows ≡ copies → rows ≡ held
all_copied none copies rows held none_is copies_are rows_are = rows_are ∙ copies_are ∙ copied_all none (between None None held) none_is ∙ between-all held

pub pack-requires : goal.pack-requires
pack-requires g c =
    let effect = effect_of g.V.Merge.terms.merged in
    let t = c.args.tree.now in
    let rows = all_copied c.new-none.result c.in_ok-copies.copies c.into_rows-rows.result.items (holds effect t.1) c.new-none.ensures c.in_ok-copies.ensures c.into_rows-rows.ensures in
    ap (is_sorted key_cmp) rows ∙ true_t _ (holds-sorted (meaning_of g.V.Merge.terms) t.0 t.1 c.walk-root.ensures.fits)

pub returns-clause-tree : goal.returns-clause-tree
returns-clause-tree g c =
    let effect = effect_of g.V.Merge.terms.merged in
    let t = c.args.tree.now in
    let rows = all_copied c.new-none.result c.in_ok-copies.copies c.into_rows-rows.result.items (holds effect t.1) c.new-none.ensures c.in_ok-copies.ensures c.into_rows-rows.ensures in
    c.in_ok-pack.ensures.tree ∙ ap (λ s. (s, packed s c.into_rows-rows.result.items)) c.shape.ensures ∙ ap (λ rs. (t.0, packed t.0 rs)) rows

pub returns-clause-rows : goal.returns-clause-rows
returns-clause-rows g c =
    let effect = effect_of g.V.Merge.terms.merged in
    let t = c.args.tree.now in
    let rows = all_copied c.new-none.result c.in_ok-copies.copies c.into_rows-rows.result.items (holds effect t.1) c.new-none.ensures c.in_ok-copies.ensures c.into_rows-rows.ensures in
    c.in_ok-pack.ensures.rows ∙ rows
