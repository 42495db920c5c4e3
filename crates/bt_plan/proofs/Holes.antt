-- A tree in pieces with something else in its holes fits, if what is in each hole now does.
use Rattle.std.proofs.Common.{◌≡◌, ◌≤◌, ℕ, zero, suc, List, [], ◌∷◌, drop, length, refl, ap, subst, sym, arith}
use Rattle.std.specs.List.{AllByRecursion as Each}
use Rattle.std.specs.declared.option.Option.{Option}
use Rattle.std.specs.declared.option.Option.TheVariants.{Some}
use Rattle.bt_keycode.specs.Keys.{Key, AllWithin, IsSorted, SideBySide}
use Rattle.bt_messages.specs.Bins.{parts}
use Rattle.bt_messages.proofs.offered.Parts.{lie_length, parts_lie}
use Rattle.bt_form.specs.Messages.{Messages}
use Rattle.bt_form.specs.Trees.{Shape}
use Rattle.bt_plan.specs.Pieces.{Holed, HoledChild, HoledFits, HoledNodes, IsSent, child, childless, hole, holes, holes_below, opened, pivots_below, whole, with_bins, with_holes, with_holes_below}
use Rattle.bt_plan.proofs.offered.Each.{each-append, each-first, each-rest}

-- what is asked of a hole implies what is wanted of its new content
abbrev pub Turns : {H G : Type 0} → (H → G) → (ℕ → Option Key → Option Key → H → Type 0) → (ℕ → Option Key → Option Key → G → Type 0) → H → Type 0
Turns answer Asked Wanted h = (levels : ℕ) (low high : Option Key) → Asked levels low high h → Wanted levels low high (answer h)

-- a tree in pieces with this many levels fits with the new content of its holes
abbrev Tells : (V M : Type 0) {H G : Type 0} → (Key × M → ℕ) → Shape → (H → G) → (ℕ → Option Key → Option Key → H → Type 0) → (ℕ → Option Key → Option Key → G → Type 0) → ℕ → Type 0
Tells V M {H} weigh shape answer Asked Wanted levels = (low high : Option Key) (h : Holed V M H) → Each (Turns answer Asked Wanted) (holes h) → HoledFits weigh Asked shape levels low high h →
    HoledFits weigh Wanted shape levels low high (with_holes answer h)

module _ {V M H G : Type 0} (weigh : Key × M → ℕ) (shape : Shape) (answer : H → G) where
  pub pivots-with_holes : (hs : HoledNodes V M H) → pivots_below (with_holes_below answer hs) ≡ pivots_below hs
  pivots-with_holes childless = refl
  pivots-with_holes (child k h hs) = ap (λ ks. k ∷ ks) (pivots-with_holes hs)

  sent-with_holes : (h : Holed V M H) (pending : Messages M) → IsSent h pending → IsSent (with_holes answer h) pending
  sent-with_holes (whole t) pending s = s
  sent-with_holes (hole h) pending s = s
  sent-with_holes (opened hs buffer) pending s = s

  module _ (Asked : ℕ → Option Key → Option Key → H → Type 0) (Wanted : ℕ → Option Key → Option Key → G → Type 0) where
    -- a child in its place
    abbrev Child : {K : Type 0} → (ℕ → Option Key → Option Key → K → Type 0) → ℕ → Option Key → Option Key → HoledChild V M K → Type 0
    Child P levels low high c = HoledFits weigh P shape levels low high c.node × AllWithin low high c.pending × IsSorted c.pending × IsSent c.node c.pending

    child-with_holes : (levels : ℕ) → Tells V M weigh shape answer Asked Wanted levels → (low high : Option Key) (k : Key) (h : Holed V M H) (b : Messages M)
        → Each (Turns answer Asked Wanted) (holes h) →
        Child Asked levels low high (record { pivot = k; node = h; pending = b }) → Child Wanted levels low high (record { pivot = k; node = with_holes answer h; pending = b })
    child-with_holes levels tells low high k h b e f = (tells low high h e f.0, f.1, f.2, sent-with_holes h b f.3)

    children-with_holes : (levels : ℕ) → Tells V M weigh shape answer Asked Wanted levels
        → (low high : Option Key) (hs : HoledNodes V M H) (bs : List (Messages M)) → Each (Turns answer Asked Wanted) (holes_below hs) →
        SideBySide (λ c. c.pivot) (Child Asked levels) low high (with_bins hs bs) → SideBySide (λ c. c.pivot) (Child Wanted levels) low high (with_bins (with_holes_below answer hs) bs)
    children-with_holes levels tells low high childless bs e s = tt
    children-with_holes levels tells low high (child k h hs) [] e s = tt
    children-with_holes levels tells low high (child k h childless) (b ∷ bs) e s = child-with_holes levels tells low high k h b (each-first (Turns answer Asked Wanted) (holes h) [] e) s
    children-with_holes levels tells low high (child k h (child j i hs)) (b ∷ []) e s =
        child-with_holes levels tells low high k h b (each-first (Turns answer Asked Wanted) (holes h) (holes_below (child j i hs)) e) s
    children-with_holes levels tells low high (child k h (child j i hs)) (b ∷ c ∷ bs) e s = (
      s.0,
      s.1,
      child-with_holes levels tells low (Some j) k h b (each-first (Turns answer Asked Wanted) (holes h) (holes_below (child j i hs)) e) s.2,
      children-with_holes levels tells (Some j) high (child j i hs) (c ∷ bs) (each-rest (Turns answer Asked Wanted) (holes h) (holes_below (child j i hs)) e) s.3,
    )

    pub with_holes-fits : (levels : ℕ) → Tells V M weigh shape answer Asked Wanted levels
    with_holes-fits levels low high (whole t) e f = f
    with_holes-fits levels low high (hole h) e f = e.0 levels low high f
    with_holes-fits zero low high (opened hs buffer) e f = absurd f
    with_holes-fits (suc levels) low high (opened hs buffer) e f = (
      subst (λ ks. 2 ≤ length ks) (sym (pivots-with_holes hs)) f.0,
      f.1,
      f.2,
      subst (λ ks. SideBySide (λ c. c.pivot) (Child Wanted levels) low high (with_bins (with_holes_below answer hs) (parts (drop 1 ks) buffer))) (sym (pivots-with_holes hs))
          (children-with_holes levels (with_holes-fits levels) low high hs (parts (drop 1 (pivots_below hs)) buffer) e f.3),
    )

-- ---- each hole

-- a bin for each child
pub bins-long : {V M H : Type 0} (hs : HoledNodes V M H) (buffer : Messages M) → 2 ≤ length (pivots_below hs) → IsSorted buffer →
    length (parts (drop 1 (pivots_below hs)) buffer) ≡ length (pivots_below hs)
bins-long childless buffer two sorted = absurd (omega (arith, two))
bins-long (child k h hs) buffer two sorted = omega (arith, lie_length (pivots_below hs) (parts (pivots_below hs) buffer) (parts_lie (pivots_below hs) buffer sorted))

-- what is asked of a hole, at some height and limits
abbrev pub Somewhere : {H : Type 0} → (ℕ → Option Key → Option Key → H → Type 0) → H → Type 0
Somewhere Asked h = (levels : ℕ) × (low : Option Key) × (high : Option Key) × Asked levels low high h

module _ {V M H : Type 0} (weigh : Key × M → ℕ) (shape : Shape) (Asked : ℕ → Option Key → Option Key → H → Type 0) where
  -- a child in its place
  abbrev Placed : ℕ → Option Key → Option Key → HoledChild V M H → Type 0
  Placed levels low high c = HoledFits weigh Asked shape levels low high c.node × AllWithin low high c.pending × IsSorted c.pending × IsSent c.node c.pending

  below-asked : (levels : ℕ) → ((low high : Option Key) (h : Holed V M H) → HoledFits weigh Asked shape levels low high h → Each (Somewhere Asked) (holes h)) →
      (low high : Option Key) (hs : HoledNodes V M H) (bs : List (Messages M)) → length bs ≡ length (pivots_below hs) → SideBySide (λ c. c.pivot) (Placed levels) low high (with_bins hs bs) →
      Each (Somewhere Asked) (holes_below hs)
  below-asked levels asked low high childless bs e s = tt
  below-asked levels asked low high (child k h hs) [] e s = absurd (omega (arith, e))
  below-asked levels asked low high (child k h childless) (b ∷ []) e s = each-append (Somewhere Asked) (holes h) [] (asked low high h s.0) tt
  below-asked levels asked low high (child k h childless) (b ∷ c ∷ bs) e s = absurd (omega (arith, e))
  below-asked levels asked low high (child k h (child j i hs)) (b ∷ []) e s = absurd (omega (arith, e))
  below-asked levels asked low high (child k h (child j i hs)) (b ∷ c ∷ bs) e s =
      each-append (Somewhere Asked) (holes h) (holes_below (child j i hs)) (asked low (Some j) h s.2.0)
      (below-asked levels asked (Some j) high (child j i hs) (c ∷ bs) (omega (arith, e)) s.3)

  -- in a tree in pieces that fits, each hole satisfies what is asked, at some height and limits
  pub each-asked : (levels : ℕ) (low high : Option Key) (h : Holed V M H) → HoledFits weigh Asked shape levels low high h → Each (Somewhere Asked) (holes h)
  each-asked levels low high (whole t) f = tt
  each-asked levels low high (hole h) f = ((levels, low, high, f), tt)
  each-asked zero low high (opened hs buffer) f = absurd f
  each-asked (suc levels) low high (opened hs buffer) f =
      below-asked levels (each-asked levels) low high hs (parts (drop 1 (pivots_below hs)) buffer) (bins-long hs buffer f.0 f.2) f.3
