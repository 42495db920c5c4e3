-- Trees that fit, with their shape.
use Rattle.std.proofs.Common.{◌≡◌, ◌≤◌, ◌&&◌, ℕ, Bool, true, false, nat_le, refl, sym, ap, subst, ◌∙◌, arith, true≢false, Option}
use Rattle.std.proofs.lemmas.Bool.Decides.{nat_tests}
use Rattle.std.specs.declared.option.Option.TheVariants.{None}
use Rattle.bt_keycode.specs.Keys.{Key}
use Rattle.bt_message.specs.declared.message.Message.{Message}
use Rattle.bt_form.specs.Trees.{Shape, Tree, Siblings}
use Rattle.bt_form.specs.Flushes.{crown, holds, all_hold}
use Rattle.bt_form.specs.Fits.{AreFit, HasShape, IsRoomy}
use Rattle.bt_form.specs.Shapes.{is_shape, largest_buffer, largest_fanout, largest_leaf, smallest_buffer, smallest_fanout, smallest_leaf}
use Rattle.bt_node.proofs.lemmas.crowns.CrownedRows.{crown-fits, crown-holds}

both : (a b : Bool) → a && b ≡ true → (a ≡ true) × (b ≡ true)
both true b e = (refl, e)
both false b e = absurd (true≢false (sym e))

abbrev is_between : ℕ → ℕ → ℕ → Bool
is_between a n b = nat_le a n && nat_le n b

up_to : (a b : ℕ) → nat_le a b ≡ true → a ≤ b
up_to a b e = grind (arith, nat_tests)

-- a shape has room
pub has_room : (shape : Shape) → is_shape shape.measure shape.fanout shape.buffer shape.leaf ≡ true → IsRoomy shape
has_room shape e =
    let f = shape.fanout in
    let b = shape.buffer in
    let l = shape.leaf in
    let fanout = is_between smallest_fanout f largest_fanout in
    let buffer = is_between smallest_buffer b (largest_buffer shape.measure) in
    let leaf = is_between smallest_leaf l largest_leaf in
    let parts = both (fanout && buffer) leaf e in
    let four = up_to smallest_fanout f (both (nat_le smallest_fanout f) (nat_le f largest_fanout) (both fanout buffer parts.0).0).0 in
    let two = up_to smallest_leaf l (both (nat_le smallest_leaf l) (nat_le l largest_leaf) parts.1).0 in
    record { fanout = omega (arith, four); leaf = omega (arith, two) }

module _ {V D : Type 0} (weigh : Key × Message V D → ℕ) (shape : Shape) where
  pub crown_has_shape : (t : Tree V (Message V D)) (xs : Siblings V (Message V D)) → IsRoomy shape → AreFit weigh shape xs → t ≡ crown shape xs → HasShape weigh shape t
  crown_has_shape t xs roomy fit e =
      let top = crown-fits weigh shape roomy fit.0 None None xs fit.1 in
      subst (HasShape weigh shape) (sym e) (record { roomy = roomy; levels = top.0; fits = top.1 })

  pub crown_holds : (effect : Option V → Message V D → Option V) (t : Tree V (Message V D)) (xs : Siblings V (Message V D)) → IsRoomy shape → AreFit weigh shape xs → t ≡ crown shape xs →
      holds effect t ≡ all_hold effect xs
  crown_holds effect t xs roomy fit e = ap (holds effect) e ∙ crown-holds weigh shape roomy effect fit.0 None None xs fit.1
