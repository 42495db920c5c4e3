-- The code's result for an inner node that takes messages is the node's flush.
use Rattle.std.proofs.Common.{◌≡◌, ◌≤◌, ◌<◌, ◌+◌, ◌*◌, ℕ, Bool, true, false, List, [], ◌∷◌, ◌++◌, drop, length, refl, take, sym, ap, subst, ◌∙◌, arith, true≢false}
use Rattle.std.proofs.lemmas.Bool.{leb-true}
use Rattle.std.proofs.lemmas.List.{length-map}
use Rattle.std.specs.List.{zip}
use Rattle.std.specs.declared.option.Option.TheVariants.{None}
use Rattle.bt_keycode.specs.Keys.{IsSorted}
use Rattle.bt_value.specs.Lists.{concatenation}
use Rattle.bt_messages.specs.Bins.{LieBetween}
use Rattle.bt_message.specs.Meanings.{Meaning}
use Rattle.bt_messages.specs.Parts.{total}
use Rattle.bt_messages.specs.Shares.{AreShares, counts}
use Rattle.bt_message.specs.declared.message.Message.{Message}
use Rattle.bt_messages.specs.declared.share.Share.{Share}
use Rattle.bt_messages.proofs.offered.Parts.{concatenation_sorted}
use Rattle.bt_messages.proofs.offered.Placed.{sorted-with_messages}
use Rattle.bt_form.specs.declared.mode.Mode.{Mode}
use Rattle.bt_form.specs.declared.mode.Mode.TheVariants.{Absorb, Drain}
use Rattle.bt_flush.specs.declared.opening.Opened as code
use Rattle.bt_flush.specs.declared.opening.Step.{Step}
use Rattle.bt_flush.specs.declared.opening.Step.TheVariants.{Stays, Opens}
use Rattle.bt_form.specs.Children.{AreDivided}
use Rattle.bt_form.specs.Fits.{IsInOrder, IsLed}
use Rattle.bt_form.specs.Flushes.{Child, Flush, flush_in, flushed, flushed_in, grouped, loads, none_pending, pending_load, pivot_first, shared}
use Rattle.bt_form.specs.Messages.{Messages, with_messages}
use Rattle.bt_flush.specs.Steps.{IsKept, IsOpened, IsStep}
use Rattle.bt_form.specs.Trees.{Shape, Siblings, Tree, height, height_below, inner, nodes, pivots_of}
use Rattle.bt_form.specs.inside.Flushing.{AreReady, IsReady, with_shares}
use Rattle.bt_form.specs.Passes.{after_pass}
use Rattle.bt_form.proofs.offered.deals.Parts.{NonEmpty}
use Rattle.bt_form.proofs.offered.flushes.Children.{ChildrenLie}
use Rattle.bt_form.proofs.offered.flushes.Divisions.{bins-length, divided-lie, divided-none, joined-pending, length-with_pending, shares-length}
use Rattle.bt_form.proofs.offered.flushes.Divisions.{stripped-with_pending, with_pending-ready, with_shares-shared}
use Rattle.bt_flush.proofs.offered.Drains.{all_pending-flushed}
use Rattle.bt_flush.proofs.offered.EmptyPackets.{still-here}
use Rattle.bt_form.proofs.offered.flushes.Groups.{children-nodes, led-full, some_length, stripped}
use Rattle.bt_flush.proofs.offered.Laws.{anywhere}
use Rattle.bt_form.proofs.offered.flushes.Passes.{Keeps, after_pass-lie, flushed-slots, names-slots, slots}
use Rattle.bt_flush.proofs.offered.Recursion.{flush-led, flush_recurs}
use Rattle.bt_form.proofs.offered.flushes.RowsKept.{flush-keeps}
use Rattle.bt_form.proofs.offered.flushes.Shares.{length-shared, shared-lie}
use Rattle.bt_form.proofs.offered.flushes.Widest.{siblings_widest}
use Rattle.bt_form.proofs.offered.plans.Marks.{length-flush_marks}

-- one pass over children with marks
abbrev pub pass : {V D : Type 0} → Meaning V (Message V D) → Mode → Shape → List (Child V (Message V D) × Bool) → List (Child V (Message V D))
pass meaning mode s = after_pass (flushed (flush_in meaning mode s))

-- the height of the highest of these children
abbrev pub highest : {V M : Type 0} → List (Child V M) → ℕ
highest cs = height_below (nodes (stripped cs))

-- a child is no higher than the highest
pub among : {V M : Type 0} (c : Child V M) (cs ds : List (Child V M)) (bound : ℕ) → ds ≡ c ∷ cs → highest ds ≤ bound → (height c.tree ≤ bound) × (highest cs ≤ bound)
among c cs ds bound e h = let all = ap highest e in (omega (arith, all, h), omega (arith, all, h))

-- an inner node that takes the first messages of a stream, and a shape whose nodes have room for two children and for a row
pub record Enters {V D : Type 0} (mode : Mode) (s : Shape) (xs : Siblings V (Message V D)) (bins : List (Messages (Message V D))) (ms
    : Messages (Message V D)) (count : ℕ) (node : Tree V (Message V D)) : Type 0 where
  pub fanout : 2 ≤ s.fanout
  pub leaf : 1 ≤ s.leaf
  pub here : node ≡ inner (nodes xs) (concatenation bins)
  pub lie : LieBetween (pivots_of xs) bins
  pub enough : count ≤ length ms
  pub ready : IsReady mode node

module _ {V D : Type 0} (meaning : Meaning V (Message V D)) {mode : Mode} {s : Shape} {xs : Siblings V (Message V D)} {bins : List (Messages (Message V D))}
    {ms : Messages (Message V D)} {count : ℕ} {node : Tree V (Message V D)} (entered : Enters mode s xs bins ms count node) where
  abbrev f : Flush V (Message V D)
  f = flush_in meaning mode s

  abbrev after : Messages (Message V D)
  after = with_messages (take count ms) (concatenation bins)

  -- its children with their pending messages then
  abbrev cs : List (Child V (Message V D))
  cs = shared xs after

  after-sorted : IsSorted after
  after-sorted = sorted-with_messages (take count ms) (concatenation bins) (concatenation_sorted (pivots_of xs) bins entered.lie)

  becomes : f node (take count ms) ≡ grouped s (flushed_in meaning.weigh s mode f cs)
  becomes =
      ap (λ t. f t (take count ms)) entered.here ∙ flush_recurs meaning mode s (nodes xs) (concatenation bins) (take count ms)
      ∙ ap (λ ys. grouped s (flushed_in meaning.weigh s mode f (shared ys after))) (children-nodes xs)

  -- ---- it stays

  still : (m : Mode) (t : Tree V (Message V D)) (flush : Flush V (Message V D)) → IsKept meaning.weigh m s xs bins after t → grouped s (flushed_in meaning.weigh s m flush cs) ≡ ([], t) ∷ []
  still Drain t flush kept = absurd (true≢false (sym kept.room))
  still Absorb t flush kept =
      let ns = nodes xs in
      let same = children-nodes xs in
      ap (λ ys. grouped s (flushed_in meaning.weigh s Absorb flush (shared ys after))) (sym same)
      ∙ still-here meaning.weigh s ns after (subst IsLed (sym same) kept.led) after-sorted (omega (arith, entered.fanout))
      (subst (λ ys. length ys ≤ s.fanout) (sym same) kept.few) (leb-true _ _ kept.room) flush
      ∙ ap (λ u. ([], u) ∷ []) (sym kept.node)

  pub stays_here : (left : Messages (Message V D)) {step : Step V D} (t : Tree V (Message V D)) → step ≡ Stays t
      → IsStep meaning.weigh mode s xs bins ms count left step → ([], t) ∷ [] ≡ f node (take count ms)
  stays_here left t is done = sym (becomes ∙ still mode t f (subst (IsStep meaning.weigh mode s xs bins ms count left) is done).1)

  -- ---- it is opened

  module _ (left : Messages (Message V D)) {step : Step V D} (o : code.Opened V D) (is : step ≡ Opens o) (done : IsStep meaning.weigh mode s xs bins ms count left step) where
    opens : (left ≡ ms) × IsOpened meaning.weigh mode s xs bins ms count o
    opens = subst (IsStep meaning.weigh mode s xs bins ms count left) is done

    opened : IsOpened meaning.weigh mode s xs bins ms count o
    opened = opens.1

    -- the stream is as it was
    pub shares_weighed : AreShares meaning.weigh left o.shares.items
    shares_weighed = subst (λ zs. AreShares meaning.weigh zs o.shares.items) (sym opens.0) opened.weighed

    -- that many messages are gone from it when the shares are
    pub shares_gone : drop (total (counts o.shares.items)) left ≡ drop count ms
    shares_gone = ap (drop (total (counts o.shares.items))) opens.0 ∙ ap (λ n. drop n ms) opened.total

    some : 1 ≤ length xs
    some = some_length xs (led-full xs opened.led)

    as_many : length bins ≡ length xs
    as_many = bins-length xs bins some entered.lie

    long : length o.children ≡ length xs
    long = omega (arith, ap length opened.children, length-with_pending xs bins as_many)

    pub shares_long : length o.shares.items ≡ length o.children
    shares_long = omega (arith, shares-length xs (counts o.shares.items) ms (take count ms) some opened.shares, length-map o.shares.items (λ (s : Share). s.count), long)

    -- the children with their shares
    loaded_are : with_shares o.children (counts o.shares.items) ms ≡ cs
    loaded_are = ap (λ ds. with_shares ds (counts o.shares.items) ms) opened.children ∙ with_shares-shared xs bins (counts o.shares.items) ms (take count ms) entered.lie opened.shares

    slots_are : zip (with_shares o.children (counts o.shares.items) ms) o.marks.items ≡ slots meaning.weigh s mode cs
    slots_are = ap (λ ds. zip ds o.marks.items) loaded_are ∙ ap (zip cs) opened.marks

    slots_long : length (slots meaning.weigh s mode cs) ≡ length cs
    slots_long = sym (length-map (slots meaning.weigh s mode cs) (λ (x : Child V (Message V D) × Bool). x.0)) ∙ ap length (names-slots meaning.weigh s mode cs)

    pub marks_long : length o.marks.items ≡ length o.children
    marks_long = omega (arith, ap length opened.marks, length-flush_marks mode s.buffer (loads meaning.weigh s cs), length-map cs (pending_load meaning.weigh s), length-shared xs after, long)

    -- messages may enter them
    pub children_ready : AreReady mode o.children
    children_ready = subst (AreReady mode) (sym opened.children) (with_pending-ready mode node xs (concatenation bins) bins entered.here entered.ready)

    -- they are lower than the node
    pub children_lower : 4 * highest o.children + 3 < 4 * height node
    children_lower = omega (arith, ap height entered.here, ap highest opened.children, ap (λ ys. height_below (nodes ys)) (stripped-with_pending xs bins as_many))

    module _ (made : List (Child V (Message V D))) (made_is : made ≡ pass meaning mode s (zip (with_shares o.children (counts o.shares.items) left) o.marks.items)) where
      passed_are : made ≡ pass meaning mode s (slots meaning.weigh s mode cs)
      passed_are = made_is ∙ ap (λ zs. pass meaning mode s (zip (with_shares o.children (counts o.shares.items) zs) o.marks.items)) opens.0 ∙ ap (pass meaning mode s) slots_are

      flushed_are : made ≡ flushed_in meaning.weigh s mode f cs
      flushed_are = passed_are ∙ sym (flushed-slots meaning.weigh s mode f cs)

      pass-some : (ss : List (Child V (Message V D) × Bool)) → 1 ≤ length ss → NonEmpty (pass meaning mode s ss)
      pass-some [] some = absurd (omega (arith, some))
      pass-some ((c, false) ∷ ss) some = tt
      pass-some ((c, true) ∷ ss) some = of (f c.tree c.pending) (flush-led meaning s mode (omega (arith, entered.leaf)) (omega (arith, entered.fanout)) c.tree c.pending)
        where
          of : (ys : Siblings V (Message V D)) → IsLed ys → NonEmpty (none_pending (pivot_first c.pivot ys) ++ pass meaning mode s ss)
          of [] led = absurd led
          of (y ∷ ys) led = tt

      pub made_some : 1 ≤ length made
      made_some = omega (arith, some_length _ (pass-some (slots meaning.weigh s mode cs) (omega (arith, slots_long, some, length-shared xs after))), ap length passed_are)

      -- what is pending still lies between the pivots
      pub made_divided : AreDivided made
      made_divided = of mode refl
        where
          of : (m : Mode) → mode ≡ m → AreDivided made
          of Drain is =
              let all : made ≡ flushed_in meaning.weigh s Drain f cs = flushed_are ∙ ap (λ n. flushed_in meaning.weigh s n f cs) is in
              let parts : List (Child V (Message V D)) = flushed_in meaning.weigh s Drain f cs in
              subst AreDivided (sym all) (divided-none parts (joined-pending parts ∙ all_pending-flushed f cs))
          of Absorb is =
              let order : IsInOrder node = subst (λ n. IsReady n node) is entered.ready in
              let side = siblings_widest node xs (concatenation bins) entered.here order in
              let placed = shared-lie side.0 None None xs after side.1 (anywhere after) after-sorted in
              let keeps : Keeps meaning.effect side.0 f =
              λ low high t p lies within. flush-keeps meaning mode s (omega (arith, entered.leaf)) (omega (arith, entered.fanout)) side.0 low high t p lies within in
              subst AreDivided (sym passed_are)
              (divided-lie side.0 None None (pass meaning mode s (slots meaning.weigh s mode cs))
              (after_pass-lie meaning.effect side.0 f keeps None None (slots meaning.weigh s mode cs)
              (subst (ChildrenLie side.0 None None) (sym (names-slots meaning.weigh s mode cs)) placed)))

      pub grouped_anew : grouped s made ≡ f node (take count ms)
      grouped_anew = ap (grouped s) flushed_are ∙ sym becomes
