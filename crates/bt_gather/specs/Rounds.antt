-- The result for several trees, each with its own packet.
use Rattle.std.specs.Prelude.{◌≡◌, ℕ, List, map}
use Rattle.std.specs.List.{All}
use Rattle.std.specs.declared.option.Option.{Option}
use Rattle.bt_keycode.specs.Keys.{Key}
use Rattle.bt_form.specs.Fits.{HasShape}
use Rattle.bt_form.specs.Flushes.{holds, sunk}
use Rattle.bt_form.specs.Messages.{Meaning, Messages, Rows, rows_after}
use Rattle.bt_form.specs.Trees.{Shape, Tree}

-- each tree fits its shape
abbrev pub AllHaveShape : {V M : Type 0} → (Key × M → ℕ) → List (Shape × Tree V M) → Type 0
AllHaveShape weigh = All (λ tree. HasShape weigh tree.0 tree.1)

module _ {V M : Type 0} (meaning : Meaning V M) where
  -- a tree after its packet, with its shape
  abbrev pub sunk_tree : (Shape × Tree V M) × Messages M → Shape × Tree V M
  sunk_tree x = (x.0.0, sunk meaning x.0.0 x.0.1 x.1)

  -- trees, each after its packet
  abbrev pub all_sunk : List ((Shape × Tree V M) × Messages M) → List (Shape × Tree V M)
  all_sunk = map sunk_tree

module _ {V M : Type 0} (effect : Option V → M → Option V) where
  -- the rows of trees
  abbrev pub rows_of_all : List (Shape × Tree V M) → List (Rows V)
  rows_of_all = map (λ tree. holds effect tree.1)

  -- the rows of trees, each after its packet
  abbrev pub rows_after_all : List ((Shape × Tree V M) × Messages M) → List (Rows V)
  rows_after_all = map (λ x. rows_after effect x.1 (holds effect x.0.1))

  -- the later trees hold the rows of the trees, each after its packet
  abbrev pub AllHoldAfter : List ((Shape × Tree V M) × Messages M) → List (Shape × Tree V M) → Type 0
  AllHoldAfter trees later = rows_of_all later ≡ rows_after_all trees
