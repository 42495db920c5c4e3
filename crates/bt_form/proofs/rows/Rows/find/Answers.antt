use Rattle.std.proofs.Common.{◌≡◌, ◌∙◌, true, subst, sym}
use Rattle.std.specs.FinMap.{is_sorted}
use Rattle.bt_keycode.specs.Keys.{key_cmp}
use Rattle.bt_form.proofs.offered.code.RowPass.{before_of, sorted_from}
use Rattle.bt_form.proofs.offered.code.RowSearch.{found_from, later_entries}
use Rattle.bt_form.proofs.offered.rows.Between.{rows-in_order}
use Rattle.bt_form.proofs.rows.Rows.find.Goals as goal

pub count_before-requires : goal.count_before-requires
count_before-requires g c = rows-in_order c.self.inside.rows.items c.as_slice-rows.result.now c.as_slice-rows.ensures.value c.self.invariant

pub split_first-requires-clause-sorted : goal.split_first-requires-clause-sorted
split_first-requires-clause-sorted g c =
    let later = later_entries c.args.key.now c.count_before.result c.as_slice-rows.ensures.value c.count_before.ensures.from in
    subst (λ rows. is_sorted key_cmp rows ≡ true) (sym later) (sorted_from c.args.key.now c.self.inside.rows.items c.self.invariant)

pub split_first-requires-clause-none_before : goal.split_first-requires-clause-none_before
split_first-requires-clause-none_before g c =
    let later = later_entries c.args.key.now c.count_before.result c.as_slice-rows.ensures.value c.count_before.ensures.from in
    before_of c.args.key.now c.self.inside.rows.items _ later

pub returns : goal.returns
returns g c =
    let later = later_entries c.args.key.now c.count_before.result c.as_slice-rows.ensures.value c.count_before.ensures.from in
    rw (← c.self.view_is) (c.split_first.ensures.value ∙ found_from c.args.key.now c.self.inside.rows.items _ later)
