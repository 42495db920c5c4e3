use Rattle.std.proofs.Common.{rules, ◌≡◌, ◌++◌, ◌∷◌, [], None, ap, false, if◌then◌else◌, refl, subst, sym, true}
use Rattle.std.specs.Prelude.{is_ok}
use Rattle.bt_form.specs.Trees.{leaf}
use Rattle.bt_value.specs.Refusals.{lowest}
use Rattle.bt_table.specs.Calls.{index_refusals}
use Rattle.bt_table.specs.inside.IndexTrees.{empty_head}
use Rattle.bt_table.proofs.Steps.{added_is_sound, create_is_step, has_trees, not_added_is}
use Rattle.bt_table.proofs.table.Table.create_index.Goals as goal

-- the table is not lost if an index can be created
pub take_trees-rows-requires : goal.take_trees-rows-requires
take_trees-rows-requires c =
    let free : lowest (index_refusals c.args.self.now c.args.name) ≡ None = search rules in
    has_trees c.self.inside.schema c.self.inside.heads.items c.self.inside.trees c.args.name (subst (λ s. lowest (index_refusals s c.args.name) ≡ None) (sym c.self.view_is) free)

-- the table is sound with the new index, or without it if memory runs out
pub invariant_of-self : goal.invariant_of-self
invariant_of-self c =
    let entries = rw (c.shape-shape.ensures) at c.add_index-added.ensures.entries in
    let free : lowest (index_refusals c.args.self.now c.args.name) ≡ None = search rules in
    added_is_sound c.self.inside.schema c.self.inside.heads.items c.self.inside.trees _ c.take_trees-rows.ensures.taken c.self.invariant c.args.self.now
    c.self.view_is _ c.take_trees-rows.ensures.taken _ _ _ c.put_trees.ensures refl
    c.args.name c.args.def c.requires free (is_ok c.add_index-added.result) c.add_index-added.ensures.heads entries

pub returns-in_err-added-clause-unchanged : goal.returns-in_err-added-clause-unchanged
returns-in_err-added-clause-unchanged c =
    let err : is_ok c.add_index-added.result ≡ false = ap is_ok c.in_err-added.was in
    let heads = subst (λ b. c.add_index-added.new.heads.items
    ≡ (if b then c.self.inside.heads.items ++ empty_head c.args.name c.args.def ∷ [] else c.self.inside.heads.items)) err c.add_index-added.ensures.heads in
    let entries = subst (λ b. c.add_index-added.new.entries.items
    ≡ (if b then c.take_trees-rows.result.entries.items ++ (c.shape-shape.result, leaf []) ∷ [] else c.take_trees-rows.result.entries.items)) err
    c.add_index-added.ensures.entries in
    let wanted = not_added_is c.self.inside.schema c.self.inside.heads.items c.self.inside.trees _ c.take_trees-rows.ensures.taken c.self.invariant
    c.args.self.now c.self.view_is _ c.take_trees-rows.ensures.taken _ _ _ c.put_trees.ensures refl
    c.args.name c.args.def heads entries in
    search (rules, wanted)

pub returns-clause-done : goal.returns-clause-done
returns-clause-done c =
    let ok : is_ok c.add_index-added.result ≡ true = ap is_ok c.in_ok-added.was in
    let free : lowest (index_refusals c.args.self.now c.args.name) ≡ None = search rules in
    let heads = subst (λ b. c.add_index-added.new.heads.items
    ≡ (if b then c.self.inside.heads.items ++ empty_head c.args.name c.args.def ∷ [] else c.self.inside.heads.items)) ok c.add_index-added.ensures.heads in
    let all = rw (c.shape-shape.ensures) at c.add_index-added.ensures.entries in
    let entries = subst (λ b. c.add_index-added.new.entries.items
    ≡ (if b then c.take_trees-rows.result.entries.items ++ (c.take_trees-rows.result.rows.0, leaf []) ∷ [] else c.take_trees-rows.result.entries.items)) ok
    all in
    create_is_step c.self.inside.schema c.self.inside.heads.items c.self.inside.trees _ c.take_trees-rows.ensures.taken c.self.invariant c.args.self.now
    c.self.view_is _ c.take_trees-rows.ensures.taken _ _ _ c.put_trees.ensures refl
    c.args.name c.args.def _ c.in-Ok.ensures heads entries free
