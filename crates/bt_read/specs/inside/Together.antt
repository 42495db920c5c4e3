-- Keys that are looked up together.
use Rattle.std.specs.Prelude.{◌≡◌, ℕ, suc, cond, List, [], ◌∷◌, map, Option}
use Rattle.bt_keycode.specs.Keys.{Key, is_between}
use Rattle.bt_read.specs.inside.Lookups.{pivots_up_to, tree_value}
use Rattle.bt_form.specs.Messages.{Messages, value_after}
use Rattle.bt_form.specs.Trees.{Tree}

-- the number of keys at the front that lie between bounds
abbrev pub count_between : Option Key → Option Key → List Key → ℕ
count_between low high [] = 0
count_between low high (k ∷ ks) = cond (is_between low high k) (suc (count_between low high ks)) 0

-- keys that all belong to the child at a place
abbrev pub AllBelong : List Key → ℕ → List Key → Type 0
AllBelong ps place [] = Unit {0}
AllBelong ps place (k ∷ ks) = (place ≡ pivots_up_to k ps) × AllBelong ps place ks

-- values at keys after messages
abbrev pub values_after : {V M : Type 0} → (Option V → M → Option V) → Messages M → List Key → List (Option V) → List (Option V)
values_after effect ms [] olds = []
values_after effect ms (k ∷ ks) [] = []
values_after effect ms (k ∷ ks) (old ∷ olds) = value_after effect k ms old ∷ values_after effect ms ks olds

-- the values at keys
abbrev pub tree_values : {V M : Type 0} → (Option V → M → Option V) → List Key → Tree V M → List (Option V)
tree_values effect ks t = map (λ k. tree_value effect k t) ks
