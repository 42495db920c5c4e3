-- Trees after their packets fit their shapes and hold their rows after the packets. A drained tree also has no pending messages.
use Rattle.std.proofs.Common.{◌≡◌, ◌∙◌, List, [], ◌∷◌, ◌++◌, ap, append_assoc, map, refl, subst, sym}
use Rattle.std.proofs.lemmas.List.Elements.{All-from_recursion, recursion_from_All}
use Rattle.std.specs.List.{All, AllByRecursion as Each}
use Rattle.bt_flush.specs.Drains.{IsDry, drain, drained}
use Rattle.bt_form.specs.Fits.{HasShape}
use Rattle.bt_form.specs.Flushes.{holds}
use Rattle.bt_flush.specs.Laws.{HoldsTheSame}
use Rattle.bt_form.specs.Messages.{Meaning, Messages, rows_after}
use Rattle.bt_form.specs.Trees.{Shape, Tree}
use Rattle.bt_node.proofs.offered.PackedTrees.{crown-dry, drain-dry, drained-has_shape, drained-holds}
use Rattle.bt_node.proofs.offered.ShapedTrees.{sunk-has_shape, sunk-holds}
use Rattle.bt_gather.specs.Rounds.{AllHaveShape, AllHoldAfter, all_sunk, rows_after_all, rows_of_all, sunk_tree}

-- one more item is mapped
next-mapped : {X Y : Type 0} (f : X → Y) (so_far so_far' : List Y) (y : Y) → so_far' ≡ so_far ++ y ∷ [] → (x : X) (rest rest' : List X) → rest ≡ x ∷ rest' → y ≡ f x →
    (all : List Y) → so_far ++ map f rest ≡ all → so_far' ++ map f rest' ≡ all
next-mapped f so_far so_far' y pushed x rest rest' next is all equal =
    ap (λ ys. ys ++ map f rest') pushed
    ∙ append_assoc so_far (y ∷ []) (map f rest')
    ∙ ap (λ z. so_far ++ z ∷ map f rest') is
    ∙ ap (λ xs. so_far ++ map f xs) (sym next)
    ∙ equal

module _ {V M : Type 0} (meaning : Meaning V M) where
  -- one more tree is sunk
  module _ (so_far so_far' : List (Shape × Tree V M)) (u : Shape × Tree V M) (pushed : so_far' ≡ so_far ++ u ∷ []) (x : (Shape × Tree V M) × Messages M)
      (rest rest' : List ((Shape × Tree V M) × Messages M)) (next : rest ≡ x ∷ rest') where
    pub sunk-next : u ≡ sunk_tree meaning x → (all : List (Shape × Tree V M)) → so_far ++ all_sunk meaning rest ≡ all → so_far' ++ all_sunk meaning rest' ≡ all
    sunk-next = next-mapped (sunk_tree meaning) so_far so_far' u pushed x rest rest' next

  each-shaped : (xs : List ((Shape × Tree V M) × Messages M)) → Each (λ x. HasShape meaning.weigh x.0.0 x.0.1) xs → Each (λ tree. HasShape meaning.weigh tree.0 tree.1) (all_sunk meaning xs)
  each-shaped [] e = tt
  each-shaped (x ∷ xs) e = (sunk-has_shape meaning x.0.0 x.0.1 e.0 x.1, each-shaped xs e.1)

  each-holds : (xs : List ((Shape × Tree V M) × Messages M)) → Each (λ x. HasShape meaning.weigh x.0.0 x.0.1) xs → rows_of_all meaning.effect (all_sunk meaning xs) ≡ rows_after_all meaning.effect xs
  each-holds [] e = refl
  each-holds (x ∷ xs) e =
      ap (λ rows. rows ∷ rows_of_all meaning.effect (all_sunk meaning xs)) (sunk-holds meaning x.0.0 x.0.1 e.0 x.1)
      ∙ ap (λ all. rows_after meaning.effect x.1 (holds meaning.effect x.0.1) ∷ all) (each-holds xs e.1)

  module _ (xs : List ((Shape × Tree V M) × Messages M)) (have : All (λ x. HasShape meaning.weigh x.0.0 x.0.1) xs) (trees : List (Shape × Tree V M)) (are : trees ≡ all_sunk meaning xs) where
    each : Each (λ x. HasShape meaning.weigh x.0.0 x.0.1) xs
    each = recursion_from_All (λ x. HasShape meaning.weigh x.0.0 x.0.1) xs have

    -- trees after their packets fit
    pub all-sunk-fit : AllHaveShape meaning.weigh trees
    all-sunk-fit = subst (AllHaveShape meaning.weigh) (sym are) (All-from_recursion (λ tree. HasShape meaning.weigh tree.0 tree.1) (all_sunk meaning xs) (each-shaped xs each))

    -- and hold their rows after their packets
    pub all-sunk-hold : AllHoldAfter meaning.effect xs trees
    all-sunk-hold = ap (rows_of_all meaning.effect) are ∙ each-holds xs each

  module _ (tree : Shape × Tree V M) (has : HasShape meaning.weigh tree.0 tree.1) (u : Shape × Tree V M) (is : u ≡ (tree.0, drained meaning tree.0 tree.1)) where
    pub drained_fits : HasShape meaning.weigh u.0 u.1
    drained_fits = subst (λ (x : Shape × Tree V M). HasShape meaning.weigh x.0 x.1) (sym is) (drained-has_shape meaning tree.0 tree.1 has)

    pub drained_holds : HoldsTheSame meaning.effect tree.1 u.1
    drained_holds = ap (λ x. holds meaning.effect x.1) is ∙ drained-holds meaning tree.0 tree.1 has

    pub drained_dry : IsDry u.1
    drained_dry = subst (λ (x : Shape × Tree V M). IsDry x.1) (sym is) (crown-dry tree.0 (drain meaning tree.0 tree.1 []) (drain-dry meaning tree.0 tree.1 []))
