-- Nodes of a tree in pieces are larger than what is below them.
use Rattle.std.specs.Prelude.{◌≤◌, ◌+◌, suc, max, length, List, [], ◌∷◌}
use Rattle.std.specs.List.{zip}
use Rattle.std.proofs.Common.{arith}
use denote.Param.Weighed.{most}
use Rattle.bt_keycode.specs.Keys.{Key}
use Rattle.bt_message.specs.declared.message.Merge.{Ghosts}
use Rattle.bt_plan.specs.declared.holed.HoledParts.{HoledParts}
use Rattle.bt_plan.specs.declared.holed.HoledParts.TheVariants.{Whole, Hole, Opened}
use Rattle.bt_plan.specs.declared.holed.HoledNode.TheDeep.{deep-HoledParts}
use Rattle.bt_plan.specs.Pieces.{Holed, holed_nodes}
use Rattle.bt_plan.specs.DepthBounds.{depth_bound, depth_bound_below}
use Rattle.bt_plan.specs.Views.{HasPivotsAndBins, holed_of}

zipped : {V M H : Type 0} (ks : List Key) (hs : List (Holed V M H)) → length hs ≤ length ks → most (λ h. depth_bound h + 1) hs ≤ suc (depth_bound_below (holed_nodes (zip ks hs)))
zipped [] [] few = omega arith
zipped [] (h ∷ hs) few = absurd (omega (arith, few))
zipped (k ∷ ks) [] few = omega arith
zipped (k ∷ ks) (h ∷ hs) few = omega (arith, zipped ks hs (omega (arith, few)))

pub below_node : {V D : Type 0} (merge : Ghosts V D) (p : HoledParts V D) → HasPivotsAndBins p → max (deep-HoledParts V D merge p) 0 ≤ depth_bound (holed_of p)
below_node merge (Whole node) divided = omega arith
below_node merge (Hole place) divided = omega arith
below_node merge (Opened children pivots bins) divided = omega (arith, zipped ([] ∷ pivots.items) children.items (omega (arith, divided.0)))
