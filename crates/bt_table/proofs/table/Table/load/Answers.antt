use Rattle.std.proofs.Common.{subst, sym}
use Rattle.std.specs.List.{All}
use Rattle.bt_fanout.specs.Promises.{SuitsRows}
use Rattle.bt_table.specs.declared.index.IndexHead.{IndexHead}
use Rattle.bt_table.proofs.Steps.{load_is_step, loaded_is_sound, loaded_suits}
use Rattle.bt_table.proofs.table.Table.load.Goals as goal

-- the definitions are of the rows that were read
pub loaded_trees-requires-clause-suit : goal.loaded_trees-requires-clause-suit
loaded_trees-requires-clause-suit g c = λ rows pairs read mapped.
    subst (All (λ (head : IndexHead). SuitsRows head.def pairs)) (sym c.as_slice.ensures.value)
    (loaded_suits c.self.inside.schema c.self.inside.heads.items c.self.inside.trees c.in-Some.trees c.in-Some.is c.self.invariant
    c.args.self.now c.self.view_is c.args.text.now rows read pairs mapped)

-- the table is sound with the rows of the text
pub invariant_of-self : goal.invariant_of-self
invariant_of-self g c =
    let loaded = c.in_ok-loaded.ensures.loaded in
    let made = loaded.made in
    loaded_is_sound c.self.inside.schema c.self.inside.heads.items c.self.inside.trees c.in-Some.trees c.in-Some.is c.self.invariant
    c.args.self.now c.self.view_is c.args.text.now loaded.rows loaded.read made.pairs made.mapped (rw (c.as_slice.ensures.value) at loaded.free)
    _ _ c.put_trees.ensures made.packed.tree (rw (c.as_slice.ensures.value) at made.packed.entries)

pub returns-clause-done : goal.returns-clause-done
returns-clause-done g c =
    let loaded = c.in_ok-loaded.ensures.loaded in
    let made = loaded.made in
    load_is_step c.self.inside.schema c.self.inside.heads.items c.self.inside.trees c.in-Some.trees c.in-Some.is c.self.invariant
    c.args.self.now c.self.view_is c.args.text.now loaded.rows loaded.read made.pairs made.mapped (rw (c.as_slice.ensures.value) at loaded.free)
    _ _ c.put_trees.ensures made.packed.tree (rw (c.as_slice.ensures.value) at made.packed.entries) c.in_ok-loaded.count made.packed.number
