use Rattle.std.proofs.Common.{rules, ◌≡◌, Some, false, true}
use Rattle.bt_table.specs.Calls.{is_primary}
use Rattle.bt_table.specs.Indexes.{index_named, index_of_ref, indexes_of}
use Rattle.bt_table.proofs.Steps.{each_has_tree, shows_index, shows_rows}
use Rattle.bt_table.proofs.table.Table.tree.Goals as goal

pub find_index-requires : goal.find_index-requires
find_index-requires c = rw (c.as_slice.ensures.value, c.as_slice-2.ensures.value)
    (each_has_tree c.self.inside.schema c.self.inside.heads.items c.self.inside.trees c.in-Some.trees c.in-Some.is c.self.invariant)

pub returns-then-is_name_of_rows-clause-shown : goal.returns-then-is_name_of_rows-clause-shown
returns-then-is_name_of_rows-clause-shown c =
    let is : c.self.inside.trees ≡ Some c.in-Some.trees = search rules in
    let primary : is_primary c.args.name.now ≡ true = search rules in
    let shows = shows_rows c.self.inside.schema c.self.inside.heads.items c.self.inside.trees c.in-Some.trees is c.self.invariant c.args.self.now c.self.view_is c.args.name.now primary in
    (_, shows.0, shows.1)

pub returns-in-Some-find_index-clause-shown : goal.returns-in-Some-find_index-clause-shown
returns-in-Some-find_index-clause-shown c =
    let is : c.self.inside.trees ≡ Some c.in-Some.trees = search rules in
    let other : is_primary c.args.name.now ≡ false = search rules in
    let found : index_named c.args.name.now (indexes_of c.self.inside.heads.items c.in-Some.trees.entries.items)
    ≡ Some (c.in-Some-find_index._place, index_of_ref c.in-Some-find_index.index) = search rules in
    let shows = shows_index c.self.inside.schema c.self.inside.heads.items c.self.inside.trees c.in-Some.trees is c.self.invariant c.args.self.now c.self.view_is c.args.name.now _ _ other found in
    (_, shows.0, shows.1)
