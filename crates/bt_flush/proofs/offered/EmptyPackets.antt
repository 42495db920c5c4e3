-- An empty packet leaves a node that fits as it is.
use Rattle.std.proofs.Common.{◌≡◌, ℕ, zero, suc, ◌≤◌, true, false, cond, not, List, [], ◌∷◌, ◌++◌, map, length, refl, sym, ap, ◌∙◌, arith, append-nil}
use Rattle.std.specs.declared.option.Option.{Option}
use Rattle.bt_keycode.specs.Keys.{Key, is_before, AllFrom, IsSorted}
use Rattle.bt_form.specs.Messages.{Meaning, Messages, before, from, load}
use Rattle.bt_form.specs.Plans.{total}
use Rattle.bt_form.specs.declared.mode.Mode.TheVariants.{Absorb}
use Rattle.bt_form.specs.Trees.{Shape, Tree, leaf, inner, Nodes, Siblings, children, nodes}
use Rattle.bt_form.specs.Flushes.{Child, Flush, pivot_first, loads, pending_load, shared, flushed, flushed_in, flush_at, gathered, grouped, absorb}
use Rattle.bt_form.specs.Fits.{IsLed, Lies, IsSized, NodeFits, IsRoomy}
use Rattle.bt_keycode.proofs.offered.Order.{from_earlier}
use Rattle.bt_form.proofs.offered.keys.SortedLists.{sorted-where}
use Rattle.bt_form.proofs.offered.deals.PartSizes.{deal-one}
use Rattle.bt_flush.proofs.lemmas.plans.Capacity.{after_turns-still}
use Rattle.bt_form.proofs.offered.flushes.Children.{all_pending}
use Rattle.bt_form.proofs.offered.flushes.Groups.{some_length, led-full, stripped, as_leaf, nodes-children}
use Rattle.bt_form.proofs.offered.flushes.Passes.{flushed-light}
use Rattle.bt_flush.proofs.offered.NodeSizes.{total-loads}
use Rattle.bt_form.proofs.offered.flushes.Shares.{length-shared}
use Rattle.bt_form.proofs.offered.flushes.RowsKept.{flush-at-levels}

module _ {M : Type 0} where
  before-none : (k : Key) (ms : Messages M) → AllFrom k ms → before k ms ≡ []
  before-none k [] w = refl
  before-none k (m ∷ ms) w = ap (λ b. cond b (m ∷ before k ms) (before k ms)) w.0 ∙ before-none k ms w.1

  from-all : (k : Key) (ms : Messages M) → AllFrom k ms → from k ms ≡ ms
  from-all k [] w = refl
  from-all k (m ∷ ms) w = ap (λ b. cond (not b) (m ∷ from k ms) (from k ms)) w.0 ∙ ap (λ z. m ∷ z) (from-all k ms w.1)

  -- a sorted buffer is its two sides joined
  divided : (k : Key) (ms : Messages M) → IsSorted ms → before k ms ++ from k ms ≡ ms
  divided k [] r = refl
  divided k (m ∷ ms) r = elim (is_before m.0 k) as (λ b. is_before m.0 k ≡ b → cond b (m ∷ before k ms) (before k ms) ++ cond (not b) (m ∷ from k ms) (from k ms) ≡ m ∷ ms) [
    | true ↦ λ e. ap (λ z. m ∷ z) (divided k ms r.1)
    | false ↦ λ e.
        let rest = from_earlier k m.0 ms e r.0 in
        ap (λ z. z ++ m ∷ from k ms) (before-none k ms rest) ∙ ap (λ z. m ∷ z) (from-all k ms rest)
  ] refl

  from-sorted : (k : Key) (ms : Messages M) → IsSorted ms → IsSorted (from k ms)
  from-sorted k ms r = sorted-where (λ x. not (is_before x k)) ms r

pub led-first : {X : Type 0} (xs : List (Key × X)) → IsLed xs → pivot_first [] xs ≡ xs
led-first [] l = absurd l
led-first (x ∷ xs) l = ap (λ k. (k, x.1) ∷ xs) (sym l)

module _ {V M : Type 0} where
  -- a sorted buffer is its shares joined
  pub all_pending-shared : (xs : Siblings V M) (b : Messages M) → 1 ≤ length xs → IsSorted b → all_pending (shared xs b) ≡ b
  all_pending-shared [] b some r = absurd (omega (arith, some))
  all_pending-shared (x ∷ []) b some r = append-nil b
  all_pending-shared (x ∷ y ∷ ys) b some r = ap (λ z. before y.0 b ++ z) (all_pending-shared (y ∷ ys) (from y.0 b) (omega arith) (from-sorted y.0 b r)) ∙ divided y.0 b r

  pub stripped-shared : (xs : Siblings V M) (b : Messages M) → stripped (shared xs b) ≡ xs
  stripped-shared [] b = refl
  stripped-shared (x ∷ []) b = refl
  stripped-shared (x ∷ y ∷ ys) b = ap (λ z. x ∷ z) (stripped-shared (y ∷ ys) (from y.0 b))

  -- one group of children, with their shares of a buffer, is the node that they came from
  gathered-shared : (xs : Siblings V M) (b : Messages M) → IsLed xs → IsSorted b → (gathered (shared xs b)).1 ≡ inner (nodes xs) b
  gathered-shared xs b l r =
      ap (λ ys. inner (nodes (pivot_first [] ys)) (all_pending (shared xs b))) (stripped-shared xs b)
      ∙ ap (λ ys. inner (nodes ys) (all_pending (shared xs b))) (led-first xs l)
      ∙ ap (inner (nodes xs)) (all_pending-shared xs b (some_length xs (led-full xs l)) r)

  -- children within the fanout are one group
  grouped-one : (s : Shape) (cs : List (Child V M)) → 1 ≤ s.fanout → length cs ≤ s.fanout → grouped s cs ≡ ([], (gathered cs).1) ∷ []
  grouped-one s cs some fits = ap (λ gs. pivot_first [] (map gathered gs)) (deal-one s.fanout cs some fits)

  pub grouped-shared : (s : Shape) (xs : Siblings V M) (b : Messages M) → IsLed xs → IsSorted b → 1 ≤ s.fanout → length xs ≤ s.fanout → grouped s (shared xs b) ≡ ([], inner (nodes xs) b) ∷ []
  grouped-shared s xs b l r some few =
      grouped-one s (shared xs b) some (omega (arith, length-shared xs b, few)) ∙ ap (λ t. ([], t) ∷ []) (gathered-shared xs b l r)

  -- the flush of a node whose children and messages are within its shape is the node itself
  pub still-here : (weigh : Key × M → ℕ) (s : Shape) (ns : Nodes V M) (b : Messages M) → IsLed (children ns) → IsSorted b → 1 ≤ s.fanout
      → length (children ns) ≤ s.fanout → load weigh s.measure b ≤ s.buffer → (flush : Flush V M) →
      grouped s (flushed_in weigh s Absorb flush (shared (children ns) b)) ≡ ([], inner ns b) ∷ []
  still-here weigh s ns b l r some few fits flush =
      let cs = shared (children ns) b in
      let pending : total (loads weigh s cs) ≤ s.buffer =
      omega (
        arith,
        total-loads weigh s cs,
        ap (load weigh s.measure)
            (all_pending-shared (children ns) b (some_length (children ns) (led-full (children ns) l)) r),
        fits,
      ) in
      ap (grouped s) (after_turns-still (pending_load weigh s) (flushed flush) (flushed-light weigh s flush) s.buffer (total (loads weigh s cs)) cs pending)
      ∙ grouped-shared s (children ns) b l r some few ∙ ap (λ ms. ([], inner ms b) ∷ []) (nodes-children ns)

module _ {V M : Type 0} (meaning : Meaning V M) (s : Shape) (roomy : IsRoomy s) where
  flush_at-still : (levels : ℕ) (low high : Option Key) (t : Tree V M) → Lies levels low high t → IsSized meaning.weigh s t → flush_at meaning Absorb (suc levels) s t [] ≡ ([], t) ∷ []
  flush_at-still zero low high (leaf rs) lies z = ap (λ gs. pivot_first [] (map (as_leaf M) gs)) (deal-one s.leaf rs roomy.leaf z)
  flush_at-still zero low high (inner ns b) lies z = absurd lies
  flush_at-still (suc levels) low high (leaf rs) lies z = absurd lies
  flush_at-still (suc levels) low high (inner ns b) lies z =
      still-here meaning.weigh s ns b lies.3 lies.1 (omega (arith, roomy.fanout)) z.1 z.2 (flush_at meaning Absorb (suc levels) s)

  pub absorb-still : (levels : ℕ) (low high : Option Key) (t : Tree V M) → NodeFits meaning.weigh s levels low high t → absorb meaning s t [] ≡ ([], t) ∷ []
  absorb-still levels low high t fits = flush-at-levels meaning Absorb s levels low high t [] fits.lies ∙ flush_at-still levels low high t fits.lies fits.sized
