-- Nodes that messages may enter, and children with their shares of the incoming messages.
use Rattle.std.specs.Prelude.{ℕ, List, [], ◌∷◌, drop, take}
use Rattle.bt_form.specs.Fits.{IsInOrder}
use Rattle.bt_form.specs.Flushes.{Child}
use Rattle.bt_form.specs.Messages.{Messages, with_messages}
use Rattle.bt_form.specs.Trees.{Tree}
use Rattle.bt_form.specs.declared.mode.Mode.{Mode}
use Rattle.bt_form.specs.declared.mode.Mode.TheVariants.{Absorb, Drain}

module _ {V M : Type 0} where
  -- if messages may stay on the way, the keys are in order
  abbrev pub IsReady : Mode → Tree V M → Type 0
  IsReady Absorb t = IsInOrder t
  IsReady Drain t = Unit {0}

  abbrev pub AreReady : Mode → List (Child V M) → Type 0
  AreReady mode [] = Unit {0}
  AreReady mode (c ∷ cs) = IsReady mode c.tree × AreReady mode cs

  -- children with this many of the incoming messages each, in order
  abbrev pub with_shares : List (Child V M) → List ℕ → Messages M → List (Child V M)
  with_shares [] shares ms = []
  with_shares (c ∷ cs) [] ms = []
  with_shares (c ∷ cs) (n ∷ ns) ms = record { pivot = c.pivot; tree = c.tree; pending = with_messages (take n ms) c.pending } ∷ with_shares cs ns (drop n ms)
