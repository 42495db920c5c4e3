use Rattle.std.proofs.Common.{◌≡◌, ◌∙◌, true, ap, subst, sym}
use Rattle.std.specs.FinMap.{is_sorted}
use Rattle.bt_keycode.specs.Keys.{key_cmp}
use Rattle.bt_form.specs.Messages.{from}
use Rattle.bt_form.proofs.offered.code.RowPass.{before_of, sorted_from}
use Rattle.bt_form.proofs.offered.code.RowSearch.{found_from}
use Rattle.bt_form.proofs.offered.rows.Between.{rows-in_order}
use Rattle.bt_form.proofs.rows.Rows.find_near.Goals as goal

pub part_from-next-requires-clause-sorted : goal.part_from-next-requires-clause-sorted
part_from-next-requires-clause-sorted g c = rows-in_order c.self.inside.rows.items c.as_slice.result.now c.as_slice.ensures.value c.self.invariant

pub split_first-requires-clause-sorted : goal.split_first-requires-clause-sorted
split_first-requires-clause-sorted g c =
    let later = c.part_from-next.ensures.from ∙ ap (from c.args.key.now) c.as_slice.ensures.value in
    subst (λ rows. is_sorted key_cmp rows ≡ true) (sym later) (sorted_from c.args.key.now c.self.inside.rows.items c.self.invariant)

pub split_first-requires-clause-none_before : goal.split_first-requires-clause-none_before
split_first-requires-clause-none_before g c =
    let later = c.part_from-next.ensures.from ∙ ap (from c.args.key.now) c.as_slice.ensures.value in
    before_of c.args.key.now c.self.inside.rows.items c.part_from-next.result.1.now later

pub returns : goal.returns
returns g c =
    let later = c.part_from-next.ensures.from ∙ ap (from c.args.key.now) c.as_slice.ensures.value in
    rw (← c.self.view_is) (c.split_first.ensures.value ∙ found_from c.args.key.now c.self.inside.rows.items c.part_from-next.result.1.now later)
