-- Trees whose keys lie in their places, and whose nodes are no larger than their shape allows.
use Rattle.std.specs.Prelude.{◌≡◌, ℕ, zero, suc, ◌≤◌, List, [], ◌∷◌, length}
use Rattle.std.specs.declared.option.Option.{Option}
use Rattle.std.specs.declared.option.Option.TheVariants.{None}
use Rattle.bt_keycode.specs.Keys.{Key, Within, AllWithin, IsSorted, SideBySide}
use Rattle.bt_form.specs.Messages.{Rows, Messages, load}
use Rattle.bt_form.specs.Trees.{Shape, Tree, leaf, inner, Nodes, none, node, Siblings, children, nodes, height}

-- keys strictly rising from one limit to the other
abbrev pub RowsLie : {V : Type 0} → Option Key → Option Key → Rows V → Type 0
RowsLie = SideBySide (λ r. r.0) (λ low high r. Within low high r.0)

-- one node or more, and the first has the empty key as its pivot
abbrev pub IsLed : {X : Type 0} → List (Key × X) → Type 0
IsLed [] = ⊥
IsLed (x ∷ xs) = x.0 ≡ []

-- All leaves are this many levels below the root. Pivots and the keys of rows and messages lie between the limits. Those of a child lie between the pivots
-- around it. Rows, pivots and messages are in order.
abbrev pub Lies : {V M : Type 0} → ℕ → Option Key → Option Key → Tree V M → Type 0
Lies zero low high (leaf rows) = RowsLie low high rows
Lies zero low high (inner ns buffer) = ⊥
Lies (suc levels) low high (leaf rows) = ⊥
Lies (suc levels) low high (inner ns buffer) =
    AllWithin low high buffer × IsSorted buffer × SideBySide (λ x. x.0) (λ l h x. Lies levels l h x.1) low high (children ns) × IsLed (children ns)

-- siblings, each with this many levels below it, between the limits
abbrev pub SiblingsLie : {V M : Type 0} → ℕ → Option Key → Option Key → Siblings V M → Type 0
SiblingsLie levels = SideBySide (λ x. x.0) (λ l h x. Lies levels l h x.1)

-- in order between some limits, all leaves equally deep
abbrev pub IsInOrder : {V M : Type 0} → Tree V M → Type 0
IsInOrder t = (levels : ℕ) × (low : Option Key) × (high : Option Key) × Lies levels low high t

-- no node is larger than the shape allows, and no inner node has fewer than two children
abbrev mutual
  pub IsSized : {V M : Type 0} → (Key × M → ℕ) → Shape → Tree V M → Type 0
  IsSized weigh shape (leaf rows) = length rows ≤ shape.leaf
  IsSized weigh shape (inner ns buffer) =
      (2 ≤ length (children ns)) × (length (children ns) ≤ shape.fanout) × (load weigh shape.measure buffer ≤ shape.buffer) × AreSized weigh shape ns

  pub AreSized : {V M : Type 0} → (Key × M → ℕ) → Shape → Nodes V M → Type 0
  AreSized weigh shape none = Unit {0}
  AreSized weigh shape (node k t ns) = IsSized weigh shape t × AreSized weigh shape ns

-- a node that fits between two limits, with this many levels below it
pub record NodeFits {V M : Type 0} (weigh : Key × M → ℕ) (shape : Shape) (levels : ℕ) (low high : Option Key) (t : Tree V M) : Type 0 where
  pub lies : Lies levels low high t
  pub sized : IsSized weigh shape t

-- siblings that fit as the children of one node, for any number of them
pub record SiblingsFit {V M : Type 0} (weigh : Key × M → ℕ) (shape : Shape) (levels : ℕ) (low high : Option Key) (xs : Siblings V M) : Type 0 where
  pub lie : SiblingsLie levels low high xs
  pub led : IsLed xs
  pub sized : AreSized weigh shape (nodes xs)

-- siblings of this height
abbrev pub AreHigh : {V M : Type 0} → ℕ → Siblings V M → Type 0
AreHigh high [] = Unit {0}
AreHigh high (x ∷ xs) = (height x.1 ≡ high) × AreHigh high xs

-- an inner node has room for three children, so that no deal leaves a node with one child, and a leaf has room for a row
pub record IsRoomy (shape : Shape) : Type 0 where
  pub fanout : 3 ≤ shape.fanout
  pub leaf : 1 ≤ shape.leaf

-- a tree that fits its shape, and a shape with room
pub record HasShape {V M : Type 0} (weigh : Key × M → ℕ) (shape : Shape) (t : Tree V M) : Type 0 where
  pub roomy : IsRoomy shape
  pub levels : ℕ
  pub fits : NodeFits weigh shape levels None None t

-- siblings of a whole tree that fit
abbrev pub AreFit : {V M : Type 0} → (Key × M → ℕ) → Shape → Siblings V M → Type 0
AreFit weigh shape xs = (levels : ℕ) × SiblingsFit weigh shape levels None None xs

-- a fact about a node and a packet, if the node fits between two limits and the packet lies between them
abbrev pub WhereFits : {V M : Type 0} → (Key × M → ℕ) → Shape → Tree V M → Messages M → (ℕ → Option Key → Option Key → Type 0) → Type 0
WhereFits weigh shape t packet Fact =
    (levels : ℕ) (low high : Option Key) → NodeFits weigh shape levels low high t → AllWithin low high packet → Fact levels low high

-- a fact about siblings and messages, if the siblings fit between two limits and the messages lie between them
abbrev pub WhereSiblingsFit : {V M : Type 0} → (Key × M → ℕ) → Shape → Siblings V M → Messages M → (ℕ → Option Key → Option Key → Type 0) → Type 0
WhereSiblingsFit weigh shape xs messages Fact =
    (levels : ℕ) (low high : Option Key) → SiblingsFit weigh shape levels low high xs → AllWithin low high messages → Fact levels low high
