use Rattle.std.proofs.Common.{rules, ◌≡◌, Some, ap, refl, slice_get, subst, sym}
use Rattle.bt_table.specs.Calls.{IsStep, Rebuild, Rebuilding}
use Rattle.bt_table.specs.Indexes.{index_with}
use Rattle.bt_table.proofs.Indexes.{set_same}
use Rattle.bt_table.proofs.Steps.{each_has_tree, renewed_index_is_sound, renewed_index_is_step, renewed_rows_is_sound, renewed_rows_is_step}
use Rattle.bt_table.specs.declared.reply.Reply.TheVariants.{Rebuilt}
use Rattle.bt_table.proofs.table.Table.rebuild.Goals.{in-None+in_ok-tree-in-None, in-Some-found+in_ok-tree-in-Some-found}
use Rattle.bt_table.proofs.table.Table.rebuild.Goals as goal

pub find_tree-requires : goal.find_tree-requires
find_tree-requires g c = rw (c.as_slice.ensures.value, c.as_slice-2.ensures.value)
    (each_has_tree c.self.inside.schema c.self.inside.heads.items c.self.inside.trees c.in-Some.trees c.in-Some.is c.self.invariant)

-- the table is sound with the new tree of its rows
pub invariant_of-self : goal.invariant_of-self
invariant_of-self g c =
    renewed_rows_is_sound c.self.inside.schema c.self.inside.heads.items c.self.inside.trees c.in-Some.trees c.in-Some.is c.self.invariant c.args.self.now
    c.self.view_is Rebuilding c.args.name.now _ _ _ c.take_trees-rows.ensures.taken c.in-Some.is _ c.put_trees.ensures c.in_ok-tree-in-None.ensures.tree
    refl

-- it is sound with the new tree of an index
pub invariant_of-self-in-Some-found : goal.invariant_of-self-in-Some-found
invariant_of-self-in-Some-found g c =
    let head : slice_get c.self.inside.heads.items c.in-Some-found.place ≡ Some c.in-Some-found.index.head.now = search rules in
    renewed_index_is_sound c.self.inside.schema c.self.inside.heads.items c.self.inside.trees c.in-Some.trees c.in-Some.is c.self.invariant c.args.self.now
    c.self.view_is c.args.name.now c.in-Some-found.place c.in-Some-found.index (search rules) _ _ c.take_trees-rows-in-Some-found.ensures.taken _
    c.put_trees-in-Some-found.ensures refl _ c.in-Some-found.index.head.now _
    (sym (set_same c.in-Some-found.place c.self.inside.heads.items c.in-Some-found.index.head.now head)) c.put_tree.ensures Rebuilding
    (ap (index_with c.in-Some-found.index.head.now) c.in_ok-tree-in-Some-found.ensures.tree)

pub returns-clause-done : goal.returns-clause-done
returns-clause-done g c =
    elim c.match-found.branch [
      | in-None+in_ok-tree-in-None w ↦
          subst (λ state. IsStep c.args.self.now state (Rebuild c.args.name.now) (Rebuilt c.in_ok-rebuilt.rebuilt)) (sym w.self-is)
          (renewed_rows_is_step c.self.inside.schema c.self.inside.heads.items c.self.inside.trees c.in-Some.trees c.in-Some.is c.self.invariant
          c.args.self.now c.self.view_is Rebuilding c.args.name.now _ _ _ w.take_trees-rows.ensures.taken c.in-Some.is _ w.put_trees.ensures
          w.in_ok-tree-in-None.ensures.tree refl _ c.in_ok-rebuilt.ensures (search rules))
      | in-Some-found+in_ok-tree-in-Some-found w ↦
          let head : slice_get c.self.inside.heads.items w.in-Some-found.place ≡ Some w.in-Some-found.index.head.now = search rules in
          subst (λ state. IsStep c.args.self.now state (Rebuild c.args.name.now) (Rebuilt c.in_ok-rebuilt.rebuilt)) (sym w.self-is)
          (renewed_index_is_step c.self.inside.schema c.self.inside.heads.items c.self.inside.trees c.in-Some.trees c.in-Some.is c.self.invariant
          c.args.self.now c.self.view_is c.args.name.now w.in-Some-found.place w.in-Some-found.index (search rules) _ _
          w.take_trees-rows-in-Some-found.ensures.taken _ w.put_trees-in-Some-found.ensures refl _ w.in-Some-found.index.head.now _
          (sym (set_same w.in-Some-found.place c.self.inside.heads.items w.in-Some-found.index.head.now head)) w.put_tree.ensures Rebuilding
          (ap (index_with w.in-Some-found.index.head.now) w.in_ok-tree-in-Some-found.ensures.tree) _ c.in_ok-rebuilt.ensures (search rules))
    ]
