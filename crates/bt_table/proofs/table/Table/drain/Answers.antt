use Rattle.std.proofs.Common.{rules, refl, subst, sym}
use Rattle.bt_table.specs.Calls.{Drain, Draining, IsStep}
use Rattle.bt_table.specs.inside.Parts.{AreSoundParts}
use Rattle.bt_table.proofs.Steps.{drained_index_is_sound, drained_index_is_step, each_has_tree, renewed_rows_is_sound, renewed_rows_is_step}
use Rattle.bt_table.specs.declared.reply.Reply.TheVariants.{Drained}
use Rattle.bt_table.proofs.table.Table.drain.Goals.{in-None+in_ok-rows-in-None, in-Some-found+in_ok-tree-in-Some-found}
use Rattle.bt_table.proofs.table.Table.drain.Goals as goal

pub find_tree-requires : goal.find_tree-requires
find_tree-requires g c = rw (c.as_slice.ensures.value, c.as_slice-2.ensures.value)
    (each_has_tree c.self.inside.schema c.self.inside.heads.items c.self.inside.trees c.in-Some.trees c.in-Some.is c.self.invariant)

-- the table is sound with the drained tree of its rows
pub invariant_of-self-in-None : goal.invariant_of-self-in-None
invariant_of-self-in-None g c =
    renewed_rows_is_sound c.self.inside.schema c.self.inside.heads.items c.self.inside.trees c.in-Some.trees c.in-Some.is c.self.invariant c.args.self.now
    c.self.view_is Draining c.args.name.now _ _ _ c.take_trees-rows.ensures.taken c.take_trees-rows.ensures.taken _ c.put_trees.ensures
    c.in_ok-rows-in-None.ensures.tree refl

-- it is sound with the drained tree of an index
pub invariant_of-self-in-Some-found : goal.invariant_of-self-in-Some-found
invariant_of-self-in-Some-found g c =
    drained_index_is_sound c.self.inside.schema c.self.inside.heads.items c.self.inside.trees c.in-Some.trees c.in-Some.is c.self.invariant c.args.self.now
    c.self.view_is c.args.name.now c.in-Some-found.place c.in-Some-found._index (search rules) _ _ c.take_trees-rows-in-Some-found.ensures.taken _
    c.put_trees-in-Some-found.ensures refl
    (search rules) (search rules) _ c.take_tree-taken.ensures.taken _ _ c.take_tree-taken.ensures.empty _ c.put_tree.ensures c.in_ok-tree-in-Some-found.ensures.tree

-- the table is lost if memory runs out
pub invariant_of-self-in_err-tree-in-Some-found : goal.invariant_of-self-in_err-tree-in-Some-found
invariant_of-self-in_err-tree-in-Some-found g c = subst (AreSoundParts c.self.inside.schema c.self.inside.heads.items) (sym c.take_trees-rows-in-Some-found.ensures.none) (tt, tt)

pub returns-clause-done : goal.returns-clause-done
returns-clause-done g c =
    elim c.match-found.branch [
      | in-None+in_ok-rows-in-None w ↦
          subst (λ state. IsStep c.args.self.now state (Drain c.args.name.now) (Drained c.in_ok-drained.drained)) (sym w.self-is)
          (renewed_rows_is_step c.self.inside.schema c.self.inside.heads.items c.self.inside.trees c.in-Some.trees c.in-Some.is c.self.invariant
          c.args.self.now c.self.view_is Draining c.args.name.now _ _ _ w.take_trees-rows.ensures.taken w.take_trees-rows.ensures.taken _
          w.put_trees.ensures w.in_ok-rows-in-None.ensures.tree refl _ c.in_ok-drained.ensures (search rules))
      | in-Some-found+in_ok-tree-in-Some-found w ↦
          subst (λ state. IsStep c.args.self.now state (Drain c.args.name.now) (Drained c.in_ok-drained.drained)) (sym w.self-is)
          (drained_index_is_step c.self.inside.schema c.self.inside.heads.items c.self.inside.trees c.in-Some.trees c.in-Some.is c.self.invariant
          c.args.self.now c.self.view_is c.args.name.now w.in-Some-found.place w.in-Some-found._index (search rules) _ _
          w.take_trees-rows-in-Some-found.ensures.taken _ w.put_trees-in-Some-found.ensures refl
          (search rules) (search rules) _ w.take_tree-taken.ensures.taken _ _ w.take_tree-taken.ensures.empty _ w.put_tree.ensures
          w.in_ok-tree-in-Some-found.ensures.tree _ c.in_ok-drained.ensures (search rules))
    ]
