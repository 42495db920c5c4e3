use Rattle.std.proofs.Common.{◌≡◌, ◌∙◌, Some, ap, refl, sym}
use Rattle.std.proofs.lemmas.Option.{get_or_from_slice_get}
use Rattle.bt_table.specs.Indexes.{index_named, index_of_ref, indexes_of}
use Rattle.bt_table.proofs.Steps.{drop_is_step, each_has_tree, removed_is_sound}
use Rattle.bt_table.proofs.table.Table.drop_index.Goals as goal

pub find_index-requires : goal.find_index-requires
find_index-requires c = rw (c.as_slice.ensures.value, c.as_slice-2.ensures.value)
    (each_has_tree c.self.inside.schema c.self.inside.heads.items c.self.inside.trees c.in-Some.trees c.in-Some.is c.self.invariant)

pub invariant_of-self : goal.invariant_of-self
invariant_of-self c =
    removed_is_sound c.self.inside.schema c.self.inside.heads.items c.self.inside.trees c.in-Some.trees c.in-Some.is c.self.invariant c.args.self.now
    c.self.view_is _ c.take_trees-rows.ensures.taken _ _ _ c.put_trees.ensures refl
    c.in-Some-find_index.place c.remove-name.ensures.items c.remove.ensures.items

pub returns-clause-done : goal.returns-clause-done
returns-clause-done c =
    let index = c.in-Some-find_index._index in
    let found : index_named c.args.name.now (indexes_of c.self.inside.heads.items c.in-Some.trees.entries.items) ≡ Some (c.in-Some-find_index.place, index_of_ref index) =
    sym (rw (c.as_slice.ensures.value, c.as_slice-2.ensures.value) at c.in-Some-find_index.ensures.found) in
    let removed = c.remove-name.ensures.value
    ∙ get_or_from_slice_get c.self.inside.heads.items c.in-Some-find_index.place index.head.now c.remove-name.result
    (rw (c.as_slice.ensures.value) at c.in-Some-find_index.ensures.head) in
    drop_is_step c.self.inside.schema c.self.inside.heads.items c.self.inside.trees c.in-Some.trees c.in-Some.is c.self.invariant c.args.self.now
    c.self.view_is _ c.take_trees-rows.ensures.taken _ _ _ c.put_trees.ensures refl
    c.in-Some-find_index.place c.remove-name.ensures.items c.remove.ensures.items c.args.name.now _ (index_of_ref index) found (ap (λ head. head.name) removed ∙ c.in-Some-find_index.ensures.name)
