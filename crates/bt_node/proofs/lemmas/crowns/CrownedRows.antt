-- Siblings under one node: it fits if they fit, and holds the same rows.
use Rattle.std.proofs.Common.{◌≡◌, ℕ, zero, suc, ◌<◌, ◌≤◌, [], ◌∷◌, length, sym, ap, subst, ◌∙◌, arith, append-nil}
use Rattle.std.specs.declared.option.Option.{Option}
use Rattle.bt_keycode.specs.Keys.{Key}
use Rattle.bt_messages.proofs.offered.Loads.{load-none}
use Rattle.bt_form.specs.Trees.{Shape, Tree, Siblings}
use Rattle.bt_form.specs.Flushes.{shared, none_pending, grouped, crown_within, crown, holds, all_hold}
use Rattle.bt_form.specs.Fits.{NodeFits, SiblingsFit, IsRoomy}
use Rattle.bt_flush.proofs.offered.Levels.{raised-shorter, shared-nothing}
use Rattle.bt_node.proofs.lemmas.flushes.Regrouped.{grouped_fits, grouped_holds}

module _ {V M : Type 0} (weigh : Key × M → ℕ) (s : Shape) (roomy : IsRoomy s) where
  -- one more level: the siblings under inner nodes
  abbrev raised : Key × Tree V M → Key × Tree V M → Siblings V M → Siblings V M
  raised x y xs = grouped s (none_pending (x ∷ y ∷ xs))

  -- the same as shares of an empty buffer
  raised-shared : (x y : Key × Tree V M) (xs : Siblings V M) → raised x y xs ≡ grouped s (shared (x ∷ y ∷ xs) [])
  raised-shared x y xs = ap (grouped s) (sym (shared-nothing (x ∷ y ∷ xs)))

  raised-fit : (levels : ℕ) (low high : Option Key) (x y : Key × Tree V M) (xs : Siblings V M) → SiblingsFit weigh s levels low high (x ∷ y ∷ xs)
      → SiblingsFit weigh s (suc levels) low high (raised x y xs)
  raised-fit levels low high x y xs fit =
      subst (SiblingsFit weigh s (suc levels) low high) (sym (raised-shared x y xs))
      (grouped_fits weigh s roomy levels low high (x ∷ y ∷ xs) [] (omega arith) fit.lie tt tt fit.sized (omega (arith, load-none weigh s.measure)))

  raised-fewer : (x y : Key × Tree V M) (xs : Siblings V M) → length (raised x y xs) < length (x ∷ y ∷ xs)
  raised-fewer x y xs = raised-shorter s (omega (arith, roomy.fanout)) (x ∷ y ∷ xs) (omega arith)

  crown_within-fits : (bound levels : ℕ) (low high : Option Key) (xs : Siblings V M) → SiblingsFit weigh s levels low high xs → length xs ≤ suc bound
      → (top : ℕ) × NodeFits weigh s top low high (crown_within bound s xs)
  crown_within-fits bound levels low high [] fit few = absurd fit.led
  crown_within-fits bound levels low high (x ∷ []) fit few = (levels, record { lies = fit.lie; sized = fit.sized.0 })
  crown_within-fits zero levels low high (x ∷ y ∷ xs) fit few = absurd (omega arith)
  crown_within-fits (suc bound) levels low high (x ∷ y ∷ xs) fit few =
      crown_within-fits bound (suc levels) low high (raised x y xs) (raised-fit levels low high x y xs fit) (omega (arith, raised-fewer x y xs))

  pub crown-fits : (levels : ℕ) (low high : Option Key) (xs : Siblings V M) → SiblingsFit weigh s levels low high xs → (top : ℕ) × NodeFits weigh s top low high (crown s xs)
  crown-fits levels low high xs fit = crown_within-fits (length xs) levels low high xs fit (omega arith)

  module _ (effect : Option V → M → Option V) where
    raised-holds : (levels : ℕ) (low high : Option Key) (x y : Key × Tree V M) (xs : Siblings V M) → SiblingsFit weigh s levels low high (x ∷ y ∷ xs)
        → all_hold effect (raised x y xs) ≡ all_hold effect (x ∷ y ∷ xs)
    raised-holds levels low high x y xs fit =
        ap (all_hold effect) (raised-shared x y xs) ∙ grouped_holds weigh s roomy levels low high (x ∷ y ∷ xs) [] (omega arith) fit.lie tt tt effect

    crown_within-holds : (bound levels : ℕ) (low high : Option Key) (xs : Siblings V M) → SiblingsFit weigh s levels low high xs → length xs ≤ suc bound
        → holds effect (crown_within bound s xs) ≡ all_hold effect xs
    crown_within-holds bound levels low high [] fit few = absurd fit.led
    crown_within-holds bound levels low high (x ∷ []) fit few = sym (append-nil (holds effect x.1))
    crown_within-holds zero levels low high (x ∷ y ∷ xs) fit few = absurd (omega arith)
    crown_within-holds (suc bound) levels low high (x ∷ y ∷ xs) fit few =
        crown_within-holds bound (suc levels) low high (raised x y xs) (raised-fit levels low high x y xs fit) (omega (arith, raised-fewer x y xs))
        ∙ raised-holds levels low high x y xs fit

    pub crown-holds : (levels : ℕ) (low high : Option Key) (xs : Siblings V M) → SiblingsFit weigh s levels low high xs → holds effect (crown s xs) ≡ all_hold effect xs
    crown-holds levels low high xs fit = crown_within-holds (length xs) levels low high xs fit (omega arith)
