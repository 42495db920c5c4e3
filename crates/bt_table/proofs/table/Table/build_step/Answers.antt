use Rattle.std.proofs.Common.{◌∙◌, ap, refl, subst, sym}
use Rattle.bt_fanout.specs.Covers.{is_whole}
use Rattle.bt_table.specs.inside.Parts.{AreSoundParts}
use Rattle.bt_table.proofs.Steps.{advance_is_step, advanced_index_is_sound, each_has_tree, found_within}
use Rattle.bt_table.proofs.table.Table.build_step.Goals as goal

pub find_index-requires : goal.find_index-requires
find_index-requires g c = rw (c.as_slice.ensures.value, c.as_slice-2.ensures.value)
    (each_has_tree c.self.inside.schema c.self.inside.heads.items c.self.inside.trees c.in-Some.trees c.in-Some.is c.self.invariant)

pub build_step-requires-clause-within : goal.build_step-requires-clause-within
build_step-requires-clause-within g c =
    let found = sym (rw (c.as_slice.ensures.value, c.as_slice-2.ensures.value) at c.in-Some-find_index.ensures.found) in
    found_within c.self.inside.schema c.self.inside.heads.items c.self.inside.trees c.in-Some.trees c.in-Some.is c.self.invariant c.args.self.now
    c.self.view_is c.args.name.now c.in-Some-find_index.place c.in-Some-find_index.index found

-- the table is lost if memory runs out
pub invariant_of-self : goal.invariant_of-self
invariant_of-self g c = subst (AreSoundParts c.self.inside.schema c.self.inside.heads.items) (sym c.take_trees-rows.ensures.none) (tt, tt)

-- the table is sound after the step
pub invariant_of-self-2 : goal.invariant_of-self-2
invariant_of-self-2 g c =
    let step = c.in_ok-packet.field-0 in
    let found = sym (rw (c.as_slice.ensures.value, c.as_slice-2.ensures.value) at c.in-Some-find_index.ensures.found) in
    advanced_index_is_sound c.self.inside.schema c.self.inside.heads.items c.self.inside.trees c.in-Some.trees c.in-Some.is c.self.invariant c.args.self.now
    c.self.view_is c.args.name.now c.in-Some-find_index.place c.in-Some-find_index.index found _ _ c.take_trees-rows.ensures.taken _ c.put_trees.ensures
    refl (rw (c.as_slice.ensures.value) at c.in-Some-find_index.ensures.head)
    (rw (c.as_slice-2.ensures.value) at c.in-Some-find_index.ensures.tree) _ c.take_tree-taken.ensures.taken _ _ c.take_tree-taken.ensures.empty _
    c.put_tree.ensures c.args.count step.packet step.cover c.in_ok-packet.ensures.step.packet c.in_ok-packet.ensures.step.cover _ c.put_cover.ensures
    c.in_ok-tree.ensures.tree

pub returns-clause-done : goal.returns-clause-done
returns-clause-done g c =
    let step = c.in_ok-packet.field-0 in
    let found = sym (rw (c.as_slice.ensures.value, c.as_slice-2.ensures.value) at c.in-Some-find_index.ensures.found) in
    advance_is_step c.self.inside.schema c.self.inside.heads.items c.self.inside.trees c.in-Some.trees c.in-Some.is c.self.invariant c.args.self.now
    c.self.view_is c.args.name.now c.in-Some-find_index.place c.in-Some-find_index.index found _ _ c.take_trees-rows.ensures.taken _ c.put_trees.ensures
    refl (rw (c.as_slice.ensures.value) at c.in-Some-find_index.ensures.head)
    (rw (c.as_slice-2.ensures.value) at c.in-Some-find_index.ensures.tree) _ c.take_tree-taken.ensures.taken _ _ c.take_tree-taken.ensures.empty _
    c.put_tree.ensures c.args.count step.packet step.cover c.in_ok-packet.ensures.step.packet c.in_ok-packet.ensures.step.cover _ c.put_cover.ensures
    c.in_ok-tree.ensures.tree
    c.in_ok-name.name step.read c.is_whole-complete.result c.in_ok-name.ensures c.in_ok-packet.ensures.step.read (c.is_whole-complete.ensures
    ∙ ap is_whole c.in_ok-packet.ensures.step.cover) (sym c.is_whole.ensures ∙ c.if-is_whole.false)
