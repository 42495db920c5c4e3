-- Trees in portions: subtrees with the messages to them from above.
use Rattle.std.specs.Prelude.{◌≡◌, ℕ, suc, Bool, true, cond, List, [], ◌∷◌}
use Rattle.std.specs.FinMap.{find}
use Rattle.std.specs.List.{flat_map}
use Rattle.std.specs.declared.option.Option.{Option}
use Rattle.std.specs.declared.option.Option.TheVariants.{None, Some}
use Rattle.bt_keycode.specs.Keys.{Key, key_cmp, is_between}
use Rattle.bt_form.specs.Messages.{Rows, Messages, between, rows_after}
use Rattle.bt_form.specs.Trees.{Tree}
use Rattle.bt_form.specs.Flushes.{holds}

-- a subtree, the bounds between which it is read, and newer messages to it from the nodes above
pub record Portion (V M : Type 0) : Type 0 where
  pub low : Option Key
  pub high : Option Key
  pub tree : Tree V M
  pub newer : Messages M

module _ {V M : Type 0} where
  -- a tree between two bounds as one portion
  abbrev pub whole : Option Key → Option Key → Tree V M → Portion V M
  whole from to t = record { low = from; high = to; tree = t; newer = [] }

  -- whether a key lies between the bounds of a portion
  abbrev pub owns : Key → Portion V M → Bool
  owns q p = is_between p.low p.high q

  -- the number of portions that own a key
  abbrev pub owners : Key → List (Portion V M) → ℕ
  owners q [] = 0
  owners q (p ∷ ps) = cond (owns q p) (suc (owners q ps)) (owners q ps)

  -- portions side by side: the first begins at one bound, each other one begins where the one before it ends, and the last ends at the other bound
  abbrev pub Chained : Option Key → List (Portion V M) → Option Key → Type 0
  Chained low [] high = low ≡ high
  Chained low (p ∷ ps) high = (p.low ≡ low) × Chained p.high ps high

module _ {V M : Type 0} (effect : Option V → M → Option V) where
  -- the rows of the subtree of a portion when its messages, and then the newer ones, have had their effect
  abbrev pub subtree_rows : Portion V M → Rows V
  subtree_rows p = rows_after effect p.newer (holds effect p.tree)

  -- the rows of a portion between its bounds
  abbrev pub rows_of : Portion V M → Rows V
  rows_of p = between p.low p.high (subtree_rows p)

  -- the rows of portions, joined in their order
  abbrev pub all_rows : List (Portion V M) → Rows V
  all_rows ps = flat_map rows_of ps

  -- the value of a portion at a key
  abbrev pub value_in : Key → Portion V M → Option V
  value_in q p = find key_cmp q (subtree_rows p)

  -- each portion that owns the key has this value there
  abbrev pub HaveThere : Key → Option V → List (Portion V M) → Type 0
  HaveThere q value [] = Unit {0}
  HaveThere q value (p ∷ ps) = (owns q p ≡ true → value_in q p ≡ value) × HaveThere q value ps

  -- Portions that together hold what others hold: the same rows in the same order, as many owners of each key, the same value in each owner, and side by side
  -- if the others are.
  pub record Divide (whole parts : List (Portion V M)) : Type 0 where
    pub rows : all_rows parts ≡ all_rows whole
    pub owned : (q : Key) → owners q parts ≡ owners q whole
    pub values : (q : Key) (value : Option V) → HaveThere q value whole → HaveThere q value parts
    pub chained : (low high : Option Key) → Chained low whole high → Chained low parts high
