-- Trees that are drained, packed and rebuilt: they fit their shape, and hold the rows that they are built from.
use Rattle.std.proofs.Common.{◌≡◌, ◌∙◌, T, [], refl, Option, None, ℕ}
use Rattle.std.specs.FinMap.{is_sorted}
use Rattle.bt_keycode.specs.Keys.{Key, key_cmp}
use Rattle.bt_flush.specs.Drains.{drain, drained, packed, rebuilt}
use Rattle.bt_form.specs.Fits.{HasShape, IsRoomy, SiblingsFit}
use Rattle.bt_form.specs.Flushes.{holds, leaves}
use Rattle.bt_form.specs.Messages.{Meaning, Rows}
use Rattle.bt_form.specs.Trees.{Shape, Tree}
use Rattle.bt_form.specs.declared.mode.Mode.TheVariants.{Drain}
use Rattle.bt_node.proofs.lemmas.crowns.CrownedRows.{crown-fits, crown-holds}
use Rattle.bt_form.proofs.offered.flushes.Groups.{leaves-hold}
use Rattle.bt_flush.proofs.offered.Laws.{fit_there, hold_rows_after, leaves-fit}
use Rattle.bt_node.proofs.offered.ShapedTrees.{holds-sorted}
-- the crown of siblings without pending messages has none, and neither have drained siblings
pub use Rattle.bt_flush.proofs.offered.Drains.{crown-dry, drain-dry}

module _ {V M : Type 0} (weigh : Key × M → ℕ) (shape : Shape) (roomy : IsRoomy shape) (rows : Rows V) (sorted : T (is_sorted key_cmp rows)) where
  -- a packed tree fits
  pub packed-has_shape : HasShape weigh shape (packed shape rows)
  packed-has_shape =
      let top = crown-fits weigh shape roomy 0 None None (leaves shape rows) (leaves-fit weigh shape rows roomy sorted) in
      record { roomy = roomy; levels = top.0; fits = top.1 }

  -- a packed tree holds its rows
  pub packed-holds : (effect : Option V → M → Option V) → holds effect (packed shape rows) ≡ rows
  packed-holds effect = crown-holds weigh shape roomy effect 0 None None (leaves shape rows) (leaves-fit weigh shape rows roomy sorted) ∙ leaves-hold effect shape rows

module _ {V M : Type 0} (meaning : Meaning V M) (shape : Shape) (t : Tree V M) (has : HasShape meaning.weigh shape t) where
  drained-fit : SiblingsFit meaning.weigh shape has.levels None None (drain meaning shape t [])
  drained-fit = fit_there meaning Drain shape has.roomy t [] _ refl has.levels None None has.fits tt

  -- a drained tree fits
  pub drained-has_shape : HasShape meaning.weigh shape (drained meaning shape t)
  drained-has_shape =
      let top = crown-fits meaning.weigh shape has.roomy has.levels None None _ drained-fit in
      record { roomy = has.roomy; levels = top.0; fits = top.1 }

  -- a drained tree holds the same rows
  pub drained-holds : holds meaning.effect (drained meaning shape t) ≡ holds meaning.effect t
  drained-holds =
      crown-holds meaning.weigh shape has.roomy meaning.effect has.levels None None _ drained-fit
      ∙ hold_rows_after meaning Drain shape has.roomy t [] _ refl has.levels None None has.fits tt

  -- a rebuilt tree fits
  pub rebuilt-has_shape : HasShape meaning.weigh shape (rebuilt meaning.effect shape t)
  rebuilt-has_shape = packed-has_shape meaning.weigh shape has.roomy (holds meaning.effect t) (holds-sorted meaning shape t has)

  -- a rebuilt tree holds the rows of the old one
  pub rebuilt-holds : holds meaning.effect (rebuilt meaning.effect shape t) ≡ holds meaning.effect t
  rebuilt-holds = packed-holds meaning.weigh shape has.roomy (holds meaning.effect t) (holds-sorted meaning shape t has) meaning.effect
