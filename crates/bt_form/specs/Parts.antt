-- The parts of a node.
use Rattle.std.specs.Prelude.{◌≡◌, true, List, [], ◌∷◌}
use Rattle.bt_value.specs.Lists.{concatenation}
use Rattle.bt_messages.specs.Bins.{LieBetween}
use Rattle.bt_message.specs.declared.message.Message.{Message}
use Rattle.bt_form.specs.declared.node.Parts.{Parts}
use Rattle.bt_form.specs.declared.node.Parts.TheVariants.{Leaf, Inner}
use Rattle.bt_keycode.specs.Keys.{Key, is_before}
use Rattle.bt_form.specs.Trees.{Tree, inner, nodes, pivots_of}
use Rattle.bt_form.specs.Walks.{is_leaf}

-- a leaf is returned as it is, an inner node as its children and the bins between their pivots, which are its buffer
abbrev pub IsApart : {V D : Type 0} → Tree V (Message V D) → Parts V D → Type 0
IsApart t (Leaf node) = (node ≡ t) × (is_leaf t ≡ true)
IsApart t (Inner children bins) = (t ≡ inner (nodes children) (concatenation bins)) × LieBetween (pivots_of children) bins

-- keys, each before the next
abbrev pub AreRising : List Key → Type 0
AreRising [] = Unit {0}
AreRising (k ∷ []) = Unit {0}
AreRising (k ∷ l ∷ ks) = (is_before k l ≡ true) × AreRising (l ∷ ks)
