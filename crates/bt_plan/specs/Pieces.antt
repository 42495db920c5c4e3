-- Trees in pieces: a node that was moved out of a tree leaves a hole.
use Rattle.std.specs.Prelude.{◌≡◌, ◌≤◌, ℕ, zero, suc, List, [], ◌∷◌, ◌++◌, drop, length}
use Rattle.std.specs.Cmp.Lexicographic.{slice_cmp}
use Rattle.std.specs.FinMap.{find}
use Rattle.std.specs.Option.{unwrap_or}
use Rattle.std.specs.Ordering.{nat_cmp}
use Rattle.std.specs.declared.cmp.Ordering.{Ordering}
use Rattle.std.specs.declared.option.Option.{Option}
use Rattle.std.specs.declared.option.Option.TheVariants.{Some}
use Rattle.bt_keycode.specs.Keys.{Key, AllWithin, IsSorted, SideBySide}
use Rattle.bt_messages.specs.Bins.{parts}
use Rattle.bt_form.specs.Fits.{NodeFits, SiblingsFit}
use Rattle.bt_form.specs.Flushes.{pivot_first, shared, grouped}
use Rattle.bt_form.specs.Messages.{Messages, load}
use Rattle.bt_form.specs.Trees.{Shape, Tree, Siblings}

-- the place of a node: the number of its tree, and the numbers of the children on the path from the root, before any change
pub record Place : Type 0 where
  pub tree : ℕ
  pub path : List ℕ

-- the order of places: by tree, and within a tree from left to right
abbrev pub node_place_cmp : Place → Place → Ordering
node_place_cmp p q = slice_cmp nat_cmp (p.tree ∷ p.path) (q.tree ∷ q.path)

-- A node that stays with everything below it, a node that was moved out, or an inner node that stays and has holes below it, with what is left of its buffer.
-- H is the type of what a hole says about the node that was there.
mutual
  pub data Holed (V M H : Type 0) : Type 0 where
    whole : Tree V M → Holed V M H
    hole : H → Holed V M H
    opened : HoledNodes V M H → Messages M → Holed V M H

  pub data HoledNodes (V M H : Type 0) : Type 0 where
    childless : HoledNodes V M H
    child : Key → Holed V M H → HoledNodes V M H → HoledNodes V M H

-- a list of children, each with the pivot before it, as the children of a node with holes below it
abbrev pub holed_nodes : {V M H : Type 0} → List (Key × Holed V M H) → HoledNodes V M H
holed_nodes [] = childless
holed_nodes (x ∷ xs) = child x.0 x.1 (holed_nodes xs)

-- what the holes say, from left to right
abbrev mutual
  pub holes : {V M H : Type 0} → Holed V M H → List H
  holes (whole t) = []
  holes (hole h) = h ∷ []
  holes (opened hs buffer) = holes_below hs

  pub holes_below : {V M H : Type 0} → HoledNodes V M H → List H
  holes_below childless = []
  holes_below (child k h hs) = holes h ++ holes_below hs

-- the same tree in pieces with something else in each hole
abbrev mutual
  pub with_holes : {V M H G : Type 0} → (H → G) → Holed V M H → Holed V M G
  with_holes f (whole t) = whole t
  with_holes f (hole h) = hole (f h)
  with_holes f (opened hs buffer) = opened (with_holes_below f hs) buffer

  pub with_holes_below : {V M H G : Type 0} → (H → G) → HoledNodes V M H → HoledNodes V M G
  with_holes_below f childless = childless
  with_holes_below f (child k h hs) = child k (with_holes f h) (with_holes_below f hs)

-- ---- fit

-- the pivots before nodes side by side
abbrev pub pivots_below : {V M H : Type 0} → HoledNodes V M H → List Key
pivots_below childless = []
pivots_below (child k h hs) = k ∷ pivots_below hs

-- a child of an opened node, and the messages that are left in its bin
pub record HoledChild (V M H : Type 0) : Type 0 where
  pub pivot : Key
  pub node : Holed V M H
  pub pending : Messages M

-- children, each with its bin
abbrev pub with_bins : {V M H : Type 0} → HoledNodes V M H → List (Messages M) → List (HoledChild V M H)
with_bins childless bins = []
with_bins (child k h hs) [] = []
with_bins (child k h hs) (b ∷ bs) = record { pivot = k; node = h; pending = b } ∷ with_bins hs bs

-- the children of an opened node, each with its share of what is left in the buffer
abbrev pub shared_below : {V M H : Type 0} → HoledNodes V M H → Messages M → List (HoledChild V M H)
shared_below hs buffer = with_bins hs (parts (drop 1 (pivots_below hs)) buffer)

-- nothing is pending for a node that does not stay whole
abbrev pub IsSent : {V M H : Type 0} → Holed V M H → Messages M → Type 0
IsSent (whole t) pending = Unit {0}
IsSent (hole h) pending = pending ≡ []
IsSent (opened hs buffer) pending = pending ≡ []

-- A tree in pieces with this many levels below it, between two limits. A node that stays whole fits there, and each hole satisfies `Asked`. An opened node
-- has two children or more, which fit between their pivots in the same way. Its buffer has room for what is pending, and nothing is pending for a child in
-- pieces.
abbrev pub HoledFits : {V M H : Type 0} → (Key × M → ℕ) → (ℕ → Option Key → Option Key → H → Type 0) → Shape → ℕ → Option Key → Option Key → Holed V M H → Type 0
HoledFits weigh Asked shape levels low high (whole t) = NodeFits weigh shape levels low high t
HoledFits weigh Asked shape levels low high (hole h) = Asked levels low high h
HoledFits weigh Asked shape zero low high (opened hs buffer) = ⊥
HoledFits weigh Asked shape (suc levels) low high (opened hs buffer) =
    (2 ≤ length (pivots_below hs)) × (load weigh shape.measure buffer ≤ shape.buffer) × IsSorted buffer
    × SideBySide (λ c. c.pivot) (λ l h c. HoledFits weigh Asked shape levels l h c.node × AllWithin l h c.pending × IsSorted c.pending × IsSent c.node c.pending)
    low high (shared_below hs buffer)

-- ---- filling

-- A hole gives the siblings of its piece, a node that stayed whole gives itself. The children of an opened node are replaced by what they give, and dealt
-- under inner nodes, each part with its share of the buffer.
abbrev mutual
  pub filled_with : {V M H : Type 0} → Shape → (H → Siblings V M) → Holed V M H → Siblings V M
  filled_with shape piece (whole t) = ([], t) ∷ []
  filled_with shape piece (hole h) = piece h
  filled_with shape piece (opened hs buffer) = grouped shape (shared (filled_below shape piece hs) buffer)

  pub filled_below : {V M H : Type 0} → Shape → (H → Siblings V M) → HoledNodes V M H → Siblings V M
  filled_below shape piece childless = []
  filled_below shape piece (child k h hs) = pivot_first k (filled_with shape piece h) ++ filled_below shape piece hs

-- siblings by places
abbrev pub Pieces : Type 0 → Type 0 → Type 0
Pieces V M = List (Place × Siblings V M)

-- the siblings at a place, or none if it has none
abbrev pub piece_at : {V M : Type 0} → Pieces V M → Place → Siblings V M
piece_at pieces place = unwrap_or (find node_place_cmp place pieces) []

-- a tree in pieces, each hole filled with the siblings at its place
abbrev pub filled : {V M : Type 0} → Shape → Holed V M Place → Pieces V M → Siblings V M
filled shape holed pieces = filled_with shape (piece_at pieces) holed

-- siblings at the place of a hole fit there: they have as many levels below them as the node that was there, and lie between the pivots around it
abbrev pub FitsHole : {V M : Type 0} → (Key × M → ℕ) → Shape → Pieces V M → ℕ → Option Key → Option Key → Place → Type 0
FitsHole {V} {M} weigh shape pieces levels low high place = (xs : Siblings V M) → find node_place_cmp place pieces ≡ Some xs → SiblingsFit weigh shape levels low high xs
