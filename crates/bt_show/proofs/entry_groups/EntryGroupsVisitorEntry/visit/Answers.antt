use Rattle.std.proofs.Common.{rules, ◌≡◌, ◌∙◌, ℕ, List, Some, of_z, subst, sym, take, to_z}
use Rattle.std.specs.Int.{w64}
use Rattle.bt_value.specs.declared.value.Value.{Value}
use Rattle.bt_show.specs.Groups.{number_in}
use Rattle.bt_show.specs.inside.Entries.{row_of_entry}
use Rattle.bt_show.specs.inside.Fronts.{IsFrontWhereKept, IsLastOf}
use Rattle.bt_show.specs.inside.Neighbours.{Groups, grouped}
use Rattle.bt_show.proofs.Fronts.{kept_front, new_front}
use Rattle.bt_show.proofs.entry_groups.EntryGroupsVisitorEntry.visit.Goals as goal

pub invariant_of-self : goal.invariant_of-self
invariant_of-self c =
    let kinds = c.self.inside.kinds.now in
    let g = c.self.inside.groups in
    let own : (row : List Value) × ((row_of_entry kinds (c.args.key.now, c.args.entry.now) ≡ Some row) × IsLastOf (take g.0 row) g.2 × (number_in row g.1 ≡ c.in-Some.number)) = search rules in
    let same : c.in-Some.number ≡ to_z w64 (of_z w64 c.in-Some.number) = search rules in
    subst (λ (h : ℕ × ℕ × Groups). IsFrontWhereKept kinds h c.self.inside.front) (sym (c.add_to_last.ensures own.0 own.1.1 (own.1.2 ∙ same)))
    (kept_front kinds g own.0 c.self.inside.front own.1.1 c.self.invariant)

pub invariant_of-self-2 : goal.invariant_of-self-2
invariant_of-self-2 c =
    let kinds = c.self.inside.kinds.now in
    let g = c.self.inside.groups in
    let row = c.in-Some-2.row in
    let shows : row_of_entry kinds (c.args.key.now, c.args.entry.now) ≡ Some row = search rules in
    let added : ◌≡◌ {A = ℕ × ℕ × Groups} c.visit.new.self (g.0, g.1, grouped g.0 g.1 g.2 row) = search rules in
    let front = c.in_ok-self-inside.field-0 in
    subst (λ (h : ℕ × ℕ × Groups). IsFrontWhereKept kinds h front) (sym added)
    (new_front kinds g c.args.key.now c.args.entry.now row front shows (rw added at c.in_ok-self-inside.ensures.few)
    (rw added at c.in_ok-self-inside.ensures.following) (rw added at c.in_ok-self-inside.ensures.code))
