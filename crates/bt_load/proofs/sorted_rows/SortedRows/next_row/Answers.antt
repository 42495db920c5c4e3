use Rattle.std.proofs.Common.{◌∙◌, ◌∷◌, ◌≡◌, List, ap, arith, length, map, rules, subst, sym}
use Rattle.std.proofs.lemmas.Grind.{common_steps}
use Rattle.std.proofs.lemmas.List.{nil_from_length}
use Rattle.std.specs.Vec.Iter.{into_iter_items}
use Rattle.bt_keycode.specs.Occurrences.{AreDistinctBelow}
use Rattle.bt_keycode.proofs.offered.Occurrences.{distinct_none}
use Rattle.bt_load.specs.Steps.{Placed}
use Rattle.bt_load.specs.inside.Sorts.{pair_at, places_of}
use Rattle.bt_load.proofs.RowsLeft.{next_is, next_within, others_distinct, others_same}
use Rattle.bt_load.proofs.sorted_rows.SortedRows.next_row.Goals as goal

pub index_mut-requires : goal.index_mut-requires
index_mut-requires c =
    let rows = c.self.inside.rows.items in
    let distinct = subst (λ (ps : List Placed). AreDistinctBelow (length rows) (places_of ps)) c.in-Some.ensures.items c.self.invariant in
    let inside = next_within rows c.in-Some.next _ distinct in
    grind (arith, common_steps)

pub invariant_of-self : goal.invariant_of-self
invariant_of-self c =
    let none : length (into_iter_items c.next.new.self) ≡ 0 = search rules in
    subst (λ (ps : List Placed). AreDistinctBelow (length c.self.inside.rows.items) (places_of ps)) (sym (nil_from_length _ none)) (distinct_none _)

pub invariant_of-self-2 : goal.invariant_of-self-2
invariant_of-self-2 c =
    let rows = c.self.inside.rows.items in
    let distinct = subst (λ (ps : List Placed). AreDistinctBelow (length rows) (places_of ps)) c.in-Some.ensures.items c.self.invariant in
    others_distinct rows c.in-Some.next _ distinct _

pub returns : goal.returns
returns c =
    let rows = c.self.inside.rows.items in
    let next = c.in-Some.next in
    let rest = into_iter_items c.next.new.self in
    let distinct = subst (λ (ps : List Placed). AreDistinctBelow (length rows) (places_of ps)) c.in-Some.ensures.items c.self.invariant in
    let row = next_is rows next rest distinct c.replace-row.result _ (c.replace-row.ensures.value ∙ c.index_mut.ensures.value) in
    sym c.self.view_is ∙ ap (map (pair_at rows)) c.in-Some.ensures.items
    ∙ (λ i. (next.0, sym row i) ∷ sym (others_same rows next rest distinct c.replace-row.new.dest) i)
