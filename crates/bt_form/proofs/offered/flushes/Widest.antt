-- What lies between limits also lies between no limits.
use Rattle.std.proofs.Common.{◌≡◌, ℕ, zero, suc, List, [], ◌∷◌, refl, subst}
use Rattle.std.specs.declared.option.Option.{Option}
use Rattle.std.specs.declared.option.Option.TheVariants.{None, Some}
use Rattle.bt_keycode.specs.Keys.{AllWithin, Key, SideBySide}
use Rattle.bt_form.specs.Fits.{IsInOrder, Lies, SiblingsLie}
use Rattle.bt_form.specs.Messages.{Messages}
use Rattle.bt_form.specs.Trees.{Siblings, Tree, inner, leaf, nodes}
use Rattle.bt_form.proofs.offered.flushes.Groups.{children-nodes}

module _ {X : Type 0} (key : X → Key) (P : Option Key → Option Key → X → Type 0) where
  no_low : (low high : Option Key) (xs : List X) → ((h : Option Key) (x : X) → P low h x → P None h x) → SideBySide key P low high xs → SideBySide key P None high xs
  no_low low high [] each b = tt
  no_low low high (x ∷ []) each b = each high x b
  no_low low high (x ∷ y ∷ ys) each b = (tt, b.1, each (Some (key y)) x b.2, b.3)

  no_high : (low high : Option Key) (xs : List X) → ((l : Option Key) (x : X) → P l high x → P l None x) → SideBySide key P low high xs → SideBySide key P low None xs
  no_high low high [] each b = tt
  no_high low high (x ∷ []) each b = each low x b
  no_high low high (x ∷ y ∷ ys) each b = (b.0, refl, b.2, no_high (Some (key y)) high (y ∷ ys) each b.3)

within-no_low : {X : Type 0} (low high : Option Key) (xs : List (Key × X)) → AllWithin low high xs → AllWithin None high xs
within-no_low low high [] w = tt
within-no_low low high (x ∷ xs) w = (record { from = refl; below = w.0.below }, within-no_low low high xs w.1)

within-no_high : {X : Type 0} (low high : Option Key) (xs : List (Key × X)) → AllWithin low high xs → AllWithin low None xs
within-no_high low high [] w = tt
within-no_high low high (x ∷ xs) w = (record { from = w.0.from; below = refl }, within-no_high low high xs w.1)

module _ {V M : Type 0} where
  lies-no_low : (levels : ℕ) (low high : Option Key) (t : Tree V M) → Lies levels low high t → Lies levels None high t
  lies-no_low zero low high (leaf rows) lies = no_low (λ r. r.0) _ low high rows (λ h r w. record { from = refl; below = w.below }) lies
  lies-no_low zero low high (inner ns b) lies = absurd lies
  lies-no_low (suc levels) low high (leaf rows) lies = absurd lies
  lies-no_low (suc levels) low high (inner ns b) lies =
      (within-no_low low high b lies.0, lies.1, no_low (λ x. x.0) (λ l h x. Lies levels l h x.1) low high _ (λ h x p. lies-no_low levels low h x.1 p) lies.2, lies.3)

  lies-no_high : (levels : ℕ) (low high : Option Key) (t : Tree V M) → Lies levels low high t → Lies levels low None t
  lies-no_high zero low high (leaf rows) lies = no_high (λ r. r.0) _ low high rows (λ l r w. record { from = w.from; below = refl }) lies
  lies-no_high zero low high (inner ns b) lies = absurd lies
  lies-no_high (suc levels) low high (leaf rows) lies = absurd lies
  lies-no_high (suc levels) low high (inner ns b) lies =
      (within-no_high low high b lies.0, lies.1, no_high (λ x. x.0) (λ l h x. Lies levels l h x.1) low high _ (λ l x p. lies-no_high levels l high x.1 p) lies.2, lies.3)

  siblings-widest : (levels : ℕ) (low high : Option Key) (xs : Siblings V M) → SiblingsLie levels low high xs → SiblingsLie levels None None xs
  siblings-widest levels low high xs b =
      no_high (λ x. x.0) (λ l h x. Lies levels l h x.1) None high xs (λ l x p. lies-no_high levels l high x.1 p)
      (no_low (λ x. x.0) (λ l h x. Lies levels l h x.1) low high xs (λ h x p. lies-no_low levels low h x.1 p) b)

  -- the children of a node in order, as those of a whole tree
  pub siblings_widest : (t : Tree V M) (xs : Siblings V M) (buffer : Messages M) → t ≡ inner (nodes xs) buffer → IsInOrder t → (levels : ℕ) × SiblingsLie levels None None xs
  siblings_widest t xs buffer here order = go order.0 (subst (Lies order.0 order.1 order.2) here order.3)
    where
      go : (levels : ℕ) → Lies levels order.1 order.2 (inner (nodes xs) buffer) → (lower : ℕ) × SiblingsLie lower None None xs
      go zero lies = absurd lies
      go (suc levels) lies = (levels, siblings-widest levels order.1 order.2 xs (subst (SiblingsLie levels order.1 order.2) (children-nodes xs) lies.2))
