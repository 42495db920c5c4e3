-- What calls on trees promise besides the definitions, one named fact each.
use Rattle.std.specs.Prelude.{◌≡◌, ℕ, suc, ◌<◌, ◌≤◌, List, [], ◌∷◌, length}
use Rattle.std.specs.declared.option.Option.{Option}
use Rattle.bt_keycode.specs.Keys.{Key}
use Rattle.bt_form.specs.Messages.{Meaning, Messages, rows_after, with_messages}
use Rattle.bt_form.specs.Plans.{total, planned}
use Rattle.bt_form.specs.Loops.{items_at, opened_items}
use Rattle.bt_form.specs.Trees.{Shape, Tree, inner, Nodes, Siblings, children, height}
use Rattle.bt_form.specs.Flushes.{Child, Flush, loads, pending_load, shared, none_pending, flushed, flushed_in, flushed_over, flush_in, fullest_flushed, grouped, crown, holds, all_hold}
use Rattle.bt_form.specs.declared.mode.Mode.{Mode}
use Rattle.bt_form.specs.Fits.{SiblingsFit, AreHigh, WhereFits, WhereSiblingsFit}

-- ---- children that are flushed

-- The bound on the steps of the loop suffices. If the buffer has room for what is pending, nothing changes. Otherwise the loop continues from the children
-- after a flush of the fullest, and the choice is made again.
pub record FlushesInTurn (V : Type 0) {M : Type 0} (weigh : Key × M → ℕ) : Type 0 where
  pub within : (shape : Shape) (flush : Flush V M) (cs : List (Child V M)) → total (loads weigh shape cs) ≤ shape.buffer → flushed_over weigh shape flush cs ≡ cs
  pub over : (shape : Shape) (flush : Flush V M) (cs : List (Child V M)) → shape.buffer < total (loads weigh shape cs) →
      flushed_over weigh shape flush cs ≡ flushed_over weigh shape flush (fullest_flushed weigh shape flush cs)

-- The children that the loop flushes are those at the planned places, in this order.
abbrev pub ChosenArePlanned : (V : Type 0) {M : Type 0} → (Key × M → ℕ) → Type 0
ChosenArePlanned V {M} weigh = (shape : Shape) (flush : Flush V M) (cs : List (Child V M)) →
    opened_items (pending_load weigh shape) (flushed flush) shape.buffer (total (loads weigh shape cs)) cs ≡ items_at (planned (loads weigh shape cs) shape.buffer) cs

-- ---- a node after a packet

module _ {V M : Type 0} (weigh : Key × M → ℕ) (shape : Shape) (t : Tree V M) (packet : Messages M) where
  -- the siblings fit between the limits of the node and the packet
  abbrev pub FitThere : Siblings V M → Type 0
  FitThere xs = WhereFits weigh shape t packet (λ levels low high. SiblingsFit weigh shape levels low high xs)

  -- the siblings are as high as the node, if it fits
  abbrev pub KeepHeight : Siblings V M → Type 0
  KeepHeight xs = WhereFits weigh shape t packet (λ levels low high. AreHigh (height t) xs)

  -- an empty packet leaves a node that fits as it is
  abbrev pub StayWithoutPacket : Siblings V M → Type 0
  StayWithoutPacket xs = packet ≡ [] → WhereFits weigh shape t packet (λ levels low high. xs ≡ ([], t) ∷ [])

module _ {V M : Type 0} (meaning : Meaning V M) (shape : Shape) (t : Tree V M) (packet : Messages M) where
  -- the siblings hold the rows of the node after the packet, if it fits
  abbrev pub HoldRowsAfter : Siblings V M → Type 0
  HoldRowsAfter xs =
      WhereFits meaning.weigh shape t packet (λ levels low high. all_hold meaning.effect xs ≡ rows_after meaning.effect packet (holds meaning.effect t))

  -- the children of an inner node take their messages by the same rule as the node, for any tree
  abbrev pub ComeByOneRule : Mode → Siblings V M → Type 0
  ComeByOneRule mode xs = (ns : Nodes V M) (buffer : Messages M) → t ≡ inner ns buffer →
      xs ≡ grouped shape (flushed_in meaning.weigh shape mode (flush_in meaning mode shape) (shared (children ns) (with_messages packet buffer)))

-- ---- siblings with their pending messages, dealt as children of inner nodes

-- the nodes fit one level higher, if the siblings fit and the messages lie between the limits
abbrev pub FitAbove : {V M : Type 0} → (Key × M → ℕ) → Shape → Siblings V M → Messages M → Siblings V M → Type 0
FitAbove weigh shape xs messages ys = WhereSiblingsFit weigh shape xs messages (λ levels low high. SiblingsFit weigh shape (suc levels) low high ys)

-- the nodes hold the rows of the siblings after the messages, if these fit
abbrev pub HoldAllAfter : {V M : Type 0} → Meaning V M → Shape → Siblings V M → Messages M → Siblings V M → Type 0
HoldAllAfter meaning shape xs messages ys =
    WhereSiblingsFit meaning.weigh shape xs messages (λ levels low high. all_hold meaning.effect ys ≡ rows_after meaning.effect messages (all_hold meaning.effect xs))

-- ---- what trees hold

module _ {V M : Type 0} (effect : Option V → M → Option V) where
  -- the tree holds the rows of the siblings
  abbrev pub HoldsAll : Siblings V M → Tree V M → Type 0
  HoldsAll xs t = holds effect t ≡ all_hold effect xs

  -- the second tree holds the rows of the first one after the packet
  abbrev pub HoldsAfter : Tree V M → Messages M → Tree V M → Type 0
  HoldsAfter t packet u = holds effect u ≡ rows_after effect packet (holds effect t)

  -- the second tree holds the rows of the first one
  abbrev pub HoldsTheSame : Tree V M → Tree V M → Type 0
  HoldsTheSame t u = holds effect u ≡ holds effect t

-- ---- one node above siblings

-- A single node is its own crown. Several have the crown of the nodes under which they are dealt, with empty buffers.
pub record StandsAbove {V M : Type 0} (shape : Shape) (xs : Siblings V M) (t : Tree V M) : Type 0 where
  pub one : (x : Key × Tree V M) → xs ≡ x ∷ [] → t ≡ x.1
  pub several : 2 ≤ length xs → t ≡ crown shape (grouped shape (none_pending xs))
