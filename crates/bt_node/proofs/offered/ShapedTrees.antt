-- Trees that fit a shape with room: they stay so after a packet, and their rows are in rising order.
use Rattle.std.proofs.Common.{◌≡◌, ◌∙◌, ◌≤◌, T, refl, subst, length, None, ℕ}
use Rattle.std.specs.FinMap.{is_sorted}
use Rattle.bt_form.specs.Fits.{AreFit, HasShape, IsInOrder, IsSized, SiblingsFit}
use Rattle.bt_form.specs.Flushes.{absorb, holds, sunk}
use Rattle.bt_keycode.specs.Keys.{Key, key_cmp}
use Rattle.bt_form.specs.Messages.{Meaning, Messages, load, rows_after}
use Rattle.bt_flush.specs.Laws.{FitThere}
use Rattle.bt_form.specs.Trees.{Shape, Tree, Siblings, inner, nodes}
use Rattle.bt_form.specs.declared.mode.Mode.TheVariants.{Absorb}
use Rattle.bt_node.proofs.lemmas.crowns.CrownedRows.{crown-fits, crown-holds}
use Rattle.bt_form.proofs.offered.flushes.Groups.{children-nodes}
use Rattle.bt_flush.proofs.offered.Laws.{anywhere, fit_there, hold_rows_after}
use Rattle.bt_form.proofs.offered.flushes.RowsKept.{holds-lie}
use Rattle.bt_form.proofs.offered.rows.RowsAfter.{rows-sorted}

module _ {V M : Type 0} (weigh : Key × M → ℕ) (shape : Shape) (t : Tree V M) (has : HasShape weigh shape t) where
  -- its keys are in order
  pub shaped-in_order : IsInOrder t
  shaped-in_order = (has.levels, None, None, has.fits.lies)

  -- if its root is an inner node, it has two children or more, and no more pending than it has room for
  pub shaped-inner : (xs : Siblings V M) (buffer : Messages M) → t ≡ inner (nodes xs) buffer → (2 ≤ length xs) × (load weigh shape.measure buffer ≤ shape.buffer)
  shaped-inner xs buffer is =
      let sized = subst (IsSized weigh shape) is has.fits.sized in
      (subst (λ ys. 2 ≤ length ys) (children-nodes xs) sized.0, sized.2)

module _ {V M : Type 0} (meaning : Meaning V M) (shape : Shape) (t : Tree V M) (has : HasShape meaning.weigh shape t) where
  -- its keys are strictly rising
  pub holds-sorted : T (is_sorted key_cmp (holds meaning.effect t))
  holds-sorted = rows-sorted None None (holds meaning.effect t) (holds-lie meaning.effect has.levels None None t has.fits.lies)

  module _ (packet : Messages M) where
    absorbed-fit : SiblingsFit meaning.weigh shape has.levels None None (absorb meaning shape t packet)
    absorbed-fit = fit_there meaning Absorb shape has.roomy t packet _ refl has.levels None None has.fits (anywhere packet)

    -- a tree after a packet fits
    pub sunk-has_shape : HasShape meaning.weigh shape (sunk meaning shape t packet)
    sunk-has_shape =
        let top = crown-fits meaning.weigh shape has.roomy has.levels None None _ absorbed-fit in
        record { roomy = has.roomy; levels = top.0; fits = top.1 }

    -- a tree after a packet holds its old rows after the packet
    pub sunk-holds : holds meaning.effect (sunk meaning shape t packet) ≡ rows_after meaning.effect packet (holds meaning.effect t)
    sunk-holds =
        crown-holds meaning.weigh shape has.roomy meaning.effect has.levels None None _ absorbed-fit
        ∙ hold_rows_after meaning Absorb shape has.roomy t packet _ refl has.levels None None has.fits (anywhere packet)

-- siblings that fit where a whole tree fits, fit as those of a whole tree
pub whole-fit : {V M : Type 0} (weigh : Key × M → ℕ) (shape : Shape) (t : Tree V M) (has : HasShape weigh shape t) (packet : Messages M) (xs : Siblings V M) →
    FitThere weigh shape t packet xs → AreFit weigh shape xs
whole-fit weigh shape t has packet xs fits = (has.levels, fits has.levels None None has.fits (anywhere packet))
