-- The value at a key, looked up along one path from the root.
use Rattle.std.specs.Prelude.{ℕ, suc, cond, List, [], ◌∷◌}
use Rattle.std.specs.FinMap.{find}
use Rattle.std.specs.declared.option.Option.{Option}
use Rattle.std.specs.declared.option.Option.TheVariants.{None, Some}
use Rattle.bt_keycode.specs.Keys.{Key, key_cmp, is_before}
use Rattle.bt_form.specs.Messages.{value_after}
use Rattle.bt_form.specs.Trees.{Tree, leaf, inner, Nodes, none, node}

module _ {V M : Type 0} (effect : Option V → M → Option V) where
  -- A leaf has the value among its rows. An inner node has the value after its messages to the key, applied to the value of the child to which the key
  -- belongs: the one after the last pivot that is at most the key, or the first.
  abbrev mutual
    pub tree_value : Key → Tree V M → Option V
    tree_value k (leaf rows) = find key_cmp k rows
    tree_value k (inner ns buffer) = value_after effect k buffer (value_below k ns)

    pub value_below : Key → Nodes V M → Option V
    value_below k none = None
    value_below k (node p t none) = tree_value k t
    value_below k (node p t (node q u ns)) = cond (is_before k q) (tree_value k t) (value_below k (node q u ns))

-- the number of pivots at the front that are at most a key
abbrev pub pivots_up_to : Key → List Key → ℕ
pivots_up_to k [] = 0
pivots_up_to k (p ∷ ps) = cond (is_before k p) 0 (suc (pivots_up_to k ps))

-- the place of the first child that may have keys at or past a bound: the one to which the bound belongs
abbrev pub first_place : Option Key → List Key → ℕ
first_place None ps = 0
first_place (Some from) ps = pivots_up_to from ps
