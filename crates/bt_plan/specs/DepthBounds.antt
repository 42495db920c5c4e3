-- The depth of trees in pieces, which bounds recursion over them.
use Rattle.std.specs.Prelude.{◌+◌, ◌*◌, ℕ, max}
use Rattle.bt_form.specs.Trees.{height}
use Rattle.bt_plan.specs.Pieces.{Holed, HoledNodes, whole, hole, opened, childless, child}

-- a bound on the depth of a tree in pieces
abbrev mutual
  pub depth_bound : {V M H : Type 0} → Holed V M H → ℕ
  depth_bound (whole t) = 2 * height t + 1
  depth_bound (hole h) = 0
  depth_bound (opened hs buffer) = depth_bound_below hs + 2

  pub depth_bound_below : {V M H : Type 0} → HoledNodes V M H → ℕ
  depth_bound_below childless = 0
  depth_bound_below (child k h hs) = max (depth_bound h) (depth_bound_below hs)
