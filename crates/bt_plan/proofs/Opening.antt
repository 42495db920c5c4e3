-- An inner node whose children are cut one by one, as the code does it.
use Rattle.std.proofs.Common.{◌≡◌, ◌==◌, ◌≤◌, ◌+◌, ◌-◌, ℕ, zero, suc, Bool, true, false, cond, List, [], ◌∷◌, ◌++◌, drop, length, map, take, refl, sym, ap, subst, ◌∙◌, arith, true≢false}
use Rattle.std.proofs.lemmas.Bool.{cond-false}
use Rattle.std.proofs.lemmas.List.{length-map}
use Rattle.std.specs.List.{flat_map, zip}
use Rattle.bt_keycode.specs.Keys.{AllFrom, IsSorted, Key}
use Rattle.bt_value.specs.Lists.{concatenation}
use Rattle.bt_messages.specs.Bins.{LieBetween, added, each_with, parts}
use Rattle.bt_messages.specs.Parts.{parted, total}
use Rattle.bt_messages.specs.Shares.{AreShares, counts}
use Rattle.bt_message.specs.declared.message.Message.{Message}
use Rattle.bt_messages.specs.declared.share.Share.{Share}
use Rattle.bt_messages.proofs.offered.Fronts.{sorted_take}
use Rattle.bt_messages.proofs.offered.Parts.{added_lie, concatenation-added, lie_length}
use Rattle.bt_messages.proofs.offered.Placed.{alone}
use Rattle.bt_messages.proofs.offered.Totals.{nothing_pending}
use Rattle.bt_form.specs.Children.{with_pending}
use Rattle.bt_form.specs.Fits.{AreSized, IsLed, IsSized}
use Rattle.bt_form.specs.Flushes.{loads, pending_load, shared}
use Rattle.bt_form.specs.Marks.{flush_marks, has_room}
use Rattle.bt_form.specs.Messages.{Messages, load, with_messages}
use Rattle.bt_flush.specs.Steps.{IsStep}
use Rattle.bt_form.specs.Trees.{Shape, Siblings, Tree, inner, leaf, nodes, pivots_of, with_pivots}
use Rattle.bt_form.specs.Walks.{is_leaf}
use Rattle.bt_form.specs.declared.mode.Mode.{Mode}
use Rattle.bt_flush.specs.declared.opening.Opened as code
use Rattle.bt_flush.specs.declared.opening.Step.{Step}
use Rattle.bt_flush.specs.declared.opening.Step.TheVariants.{Opens}
use Rattle.bt_node.proofs.offered.FlushSteps.{bins-length, children-nodes, led-full, length-flush_marks, length-shared, pending-with_pending}
use Rattle.bt_node.proofs.offered.FlushSteps.{pivots-with_pending, shares-length, some_length, with_pending-shared, from-back, from-joined, from-prefix}
use Rattle.bt_plan.specs.Cuts.{Job, child_place, cut_out, hole_of, left_pending}
use Rattle.bt_plan.specs.Pieces.{Holed, Place, child, hole, holed_nodes, holes, holes_below, opened, whole, with_holes, with_holes_below}
use Rattle.bt_plan.specs.inside.Cutting.{AreSizedNodes, cut_each, kept_bins}
use Rattle.bt_plan.proofs.Filling.{opened_children, opened_node}

-- ---- children with their pivots

module _ {V M H : Type 0} where
  with_holes-zip : {G : Type 0} (f : H → G) (ks : List Key) (hs : List (Holed V M H)) →
      with_holes_below f (holed_nodes (zip ks hs)) ≡ holed_nodes (zip ks (map (with_holes f) hs))
  with_holes-zip f [] hs = refl
  with_holes-zip f (k ∷ ks) [] = refl
  with_holes-zip f (k ∷ ks) (h ∷ hs) = ap (λ z. child k (with_holes f h) z) (with_holes-zip f ks hs)

  -- the holes of an opened node are those of its children
  pub holes-zip : (ks : List Key) (hs : List (Holed V M H)) → length hs ≤ length ks → holes_below (holed_nodes (zip ks hs)) ≡ flat_map holes hs
  holes-zip [] [] few = refl
  holes-zip [] (h ∷ hs) few = absurd (omega (arith, few))
  holes-zip (k ∷ ks) [] few = refl
  holes-zip (k ∷ ks) (h ∷ hs) few = ap (λ z. holes h ++ z) (holes-zip ks hs (omega (arith, few)))

-- ---- bins that are emptied

module _ {M : Type 0} where
  from-kept : (k : Key) (bs : List (Messages M)) (ms : List Bool) → AllFrom k (concatenation bs) → AllFrom k (concatenation (kept_bins bs ms))
  from-kept k [] ms h = tt
  from-kept k (b ∷ bs) [] h = tt
  from-kept k (b ∷ bs) (true ∷ ms) h = from-kept k bs ms (from-back k b (concatenation bs) h)
  from-kept k (b ∷ bs) (false ∷ ms) h = from-joined k b (concatenation (kept_bins bs ms)) (from-prefix k b (concatenation bs) h) (from-kept k bs ms (from-back k b (concatenation bs) h))

  kept_lie : (ks : List Key) (bs : List (Messages M)) (ms : List Bool) → length ms ≡ length bs → LieBetween ks bs → LieBetween ks (kept_bins bs ms)
  kept_lie ks [] ms e h = absurd h
  kept_lie ks (b ∷ bs) [] e h = absurd (omega (arith, e))
  kept_lie [] (b ∷ []) (true ∷ ms) e h = tt
  kept_lie [] (b ∷ []) (false ∷ ms) e h = h
  kept_lie [] (b ∷ c ∷ bs) (m ∷ ms) e h = absurd h
  kept_lie (k ∷ ks) (b ∷ bs) (true ∷ ms) e h = (tt, tt, from-kept k bs ms h.2, kept_lie ks bs ms (omega (arith, e)) h.3)
  kept_lie (k ∷ ks) (b ∷ bs) (false ∷ ms) e h = (h.0, h.1, from-kept k bs ms h.2, kept_lie ks bs ms (omega (arith, e)) h.3)

-- ---- siblings with their bins and marks

module _ {V M : Type 0} where
  siblings_long : (xs : Siblings V M) → IsLed xs → length xs ≡ length (pivots_of xs) + 1
  siblings_long [] led = absurd led
  siblings_long (x ∷ xs) led = omega (arith, length-map xs (λ (y : Key × Tree V M). y.0))

  led_keys : (xs : Siblings V M) → IsLed xs → map (λ x. x.0) xs ≡ [] ∷ pivots_of xs
  led_keys [] led = absurd led
  led_keys (x ∷ xs) led = ap (λ k. k ∷ map (λ (y : Key × Tree V M). y.0) xs) led

  all-sized : (weigh : Key × M → ℕ) (s : Shape) (xs : Siblings V M) → AreSized weigh s (nodes xs) → AreSizedNodes weigh s (map (λ x. x.1) xs)
  all-sized weigh s [] sized = tt
  all-sized weigh s (x ∷ xs) sized = (sized.0, all-sized weigh s xs sized.1)

  trees-with_pending : (xs : Siblings V M) (bs : List (Messages M)) → length bs ≡ length xs → map (λ c. c.tree) (with_pending xs bs) ≡ map (λ x. x.1) xs
  trees-with_pending [] bs e = refl
  trees-with_pending (x ∷ xs) [] e = absurd (omega (arith, e))
  trees-with_pending (x ∷ xs) (b ∷ bs) e = ap (λ z. x.1 ∷ z) (trees-with_pending xs bs (omega (arith, e)))

  rest-with_pending : (xs : Siblings V M) (bs : List (Messages M)) → length bs ≡ length xs → map (λ c. c.pivot) (drop 1 (with_pending xs bs)) ≡ pivots_of xs
  rest-with_pending [] bs e = refl
  rest-with_pending (x ∷ xs) [] e = absurd (omega (arith, e))
  rest-with_pending (x ∷ xs) (b ∷ bs) e = pivots-with_pending xs bs (omega (arith, e))

  left-kept : (xs : Siblings V M) (bs : List (Messages M)) (ms : List Bool) → length bs ≡ length xs → left_pending (zip (with_pending xs bs) ms) ≡ concatenation (kept_bins bs ms)
  left-kept [] [] ms e = refl
  left-kept [] (b ∷ bs) ms e = absurd (omega (arith, e))
  left-kept (x ∷ xs) [] ms e = absurd (omega (arith, e))
  left-kept (x ∷ xs) (b ∷ bs) [] e = refl
  left-kept (x ∷ xs) (b ∷ bs) (m ∷ ms) e = ap (λ z. cond m [] b ++ z) (left-kept xs bs ms (omega (arith, e)))

  module _ (weigh : Key × M → ℕ) (depth : ℕ) (mode : Mode) (s : Shape) (place : Place) where
    each-opened : (i : ℕ) (xs : Siblings V M) (bs : List (Messages M)) (ms : List Bool) →
        opened_children weigh depth mode s place i (zip (with_pending xs bs) ms) ≡ zip (map (λ x. x.0) xs) (cut_each weigh depth mode s place i (map (λ x. x.1) xs) bs ms)
    each-opened i [] bs ms = refl
    each-opened i (x ∷ xs) [] ms = refl
    each-opened i (x ∷ xs) (b ∷ bs) [] = refl
    each-opened i (x ∷ xs) (b ∷ bs) (m ∷ ms) = ap (λ z. (x.0, cond m (cut_out weigh depth mode s (child_place place i) x.1 b) (whole x.1)) ∷ z)
        (let next : suc i ≡ i + 1 = omega arith in ap (λ j. opened_children weigh depth mode s place j (zip (with_pending xs bs) ms)) next ∙ each-opened (i + 1) xs bs ms)

    each-long : (i : ℕ) (ts : List (Tree V M)) (bs : List (Messages M)) (ms : List Bool) → length bs ≡ length ts → length ms ≡ length ts →
        length (cut_each weigh depth mode s place i ts bs ms) ≡ length ts
    each-long i [] bs ms e f = refl
    each-long i (t ∷ ts) [] ms e f = absurd (omega (arith, e))
    each-long i (t ∷ ts) (b ∷ bs) [] e f = absurd (omega (arith, f))
    each-long i (t ∷ ts) (b ∷ bs) (m ∷ ms) e f = omega (arith, each-long (i + 1) ts bs ms (omega (arith, e)) (omega (arith, f)))

-- ---- a node that is taken apart

-- if nothing is pending for a node, its messages are the incoming ones
pub only-come : {M : Type 0} (n : ℕ) (ms pending : Messages M) (empty : Bool) → empty ≡ (length pending == 0) → empty ≡ true → IsSorted ms → take n ms ≡ with_messages (take n ms) pending
only-come n ms pending empty told is sorted =
    sym (ap (with_messages (take n ms)) (nothing_pending pending empty told is) ∙ alone (take n ms) (sorted_take n ms sorted))

module _ {V M : Type 0} where
  -- a leaf is moved out
  pub leaf-cut : (weigh : Key × M → ℕ) (depth : ℕ) (mode : Mode) (s : Shape) (place : Place) {t u : Tree V M} (packet : Messages M) → u ≡ t → is_leaf t ≡ true →
      cut_out weigh depth mode s place t packet ≡ hole (record { place = place; node = u; packet = packet; mode = mode })
  leaf-cut weigh zero mode s place packet same is = ap (λ n. hole (record { place = place; node = n; packet = packet; mode = mode })) (sym same)
  leaf-cut weigh (suc depth) mode s place {t = leaf rows} packet same is = ap (λ n. hole (record { place = place; node = n; packet = packet; mode = mode })) (sym same)
  leaf-cut weigh (suc depth) mode s place {t = inner ns buffer} packet same is = absurd (true≢false (sym is))

  -- an inner node is opened
  pub inner-cut : (weigh : Key × M → ℕ) (depth : ℕ) (mode : Mode) (s : Shape) (place : Place) {t : Tree V M} (xs : Siblings V M) (bins : List (Messages M)) {ms packet : Messages M} → 1 ≤ depth →
      t ≡ inner (nodes xs) (concatenation bins) → ms ≡ packet → cut_out weigh (suc (depth - 1)) mode s place (inner (nodes xs) (concatenation bins)) ms ≡ cut_out weigh depth mode s place t packet
  inner-cut weigh depth mode s place xs bins some here all =
      let deep : suc (depth - 1) ≡ depth = omega (arith, some) in
      (λ i. cut_out weigh (deep i) mode s place (sym here i) (all i))

-- An inner node that is opened: its nodes, the pivots between them and its bins, what is left of the stream whose first messages enter it, its shares of
-- them, and its marks.
pub record IsOpen {V M : Type 0} (weigh : Key × M → ℕ) (mode : Mode) (s : Shape) (xs : Siblings V M) (bins : List (Messages M)) (stream : Messages M) (count
    : ℕ) (rest : Messages M) (ts : List (Tree V M))
    (ks : List Key) (bs : List (Messages M)) (ss : List Share) (ms : List Bool) : Type 0 where
  pub led : IsLed xs
  pub lie : LieBetween (pivots_of xs) bins
  pub sized : IsSized weigh s (inner (nodes xs) (concatenation bins))
  pub room : has_room mode s (load weigh s.measure (with_messages (take count stream) (concatenation bins))) ≡ false
  pub marks : ms ≡ flush_marks mode s.buffer (loads weigh s (shared xs (with_messages (take count stream) (concatenation bins))))
  pub left : rest ≡ stream
  pub all : total (counts ss) ≡ count
  pub weighed : AreShares weigh rest ss
  pub shares : parted (counts ss) rest ≡ parts (pivots_of xs) (take count stream)
  pub trees : ts ≡ map (λ x. x.1) xs
  pub pivots : ks ≡ pivots_of xs
  pub buffers : bs ≡ bins

-- so it is when the code opens it and takes its children apart
module _ {V D : Type 0} {weigh : Key × Message V D → ℕ} (mode : Mode) {s : Shape} {xs : Siblings V (Message V D)} {bins : List (Messages (Message V D))} (stream : Messages (Message V D)) (count : ℕ)
    {rest : Messages (Message V D)} {step : Step V D} {node : code.Opened V D} {ts : List (Tree V (Message V D))} {ks : List Key} {bs
    : List (Messages (Message V D))} {ss : List Share} {ms : List Bool} where
  pub is_open : step ≡ Opens node → IsStep weigh mode s xs bins stream count rest step → LieBetween (pivots_of xs) bins → IsSized weigh s (inner (nodes xs) (concatenation bins)) →
      ts ≡ map (λ c. c.tree) node.children → ks ≡ map (λ c. c.pivot) (drop 1 node.children) → bs ≡ map (λ c. c.pending) node.children →
      ss ≡ node.shares.items → ms ≡ node.marks.items → IsOpen weigh mode s xs bins stream count rest ts ks bs ss ms
  is_open opens ensured lie sized trees pivots buffers shares marks =
      let known = subst (IsStep weigh mode s xs bins stream count rest) opens ensured in
      let is = known.1 in
      let long = bins-length xs bins (some_length xs (led-full xs is.led)) lie in
      record {
        led = is.led;
        lie = lie;
        sized = sized;
        room = is.full (subst (λ ys. length ys ≤ s.fanout) (children-nodes xs) sized.1);
        marks = marks ∙ is.marks;
        left = known.0;
        all = ap (λ zs. total (counts zs)) shares ∙ is.total;
        weighed = subst (AreShares weigh rest) (sym shares) (subst (λ ys. AreShares weigh ys node.shares.items) (sym known.0) is.weighed);
        shares = ap (λ zs. parted (counts zs) rest) shares ∙ ap (parted (counts node.shares.items)) known.0 ∙ is.shares;
        trees = trees ∙ ap (map (λ c. c.tree)) is.children ∙ trees-with_pending xs bins long;
        pivots = pivots ∙ ap (λ cs. map (λ c. c.pivot) (drop 1 cs)) is.children ∙ rest-with_pending xs bins long;
        buffers = buffers ∙ ap (map (λ c. c.pending)) is.children ∙ pending-with_pending xs bins long;
      }

module _ {V M : Type 0} {weigh : Key × M → ℕ} {mode : Mode} {s : Shape} {xs : Siblings V M} {bins : List (Messages M)} {stream : Messages M} {count : ℕ} {rest : Messages M} {ts : List (Tree V M)}
    {ks : List Key} {bs : List (Messages M)} {ss : List Share} {ms : List Bool} (opening : IsOpen weigh mode s xs bins stream count rest ts ks bs ss ms) where
  abbrev packet : Messages M
  packet = take count stream

  pub nodes_sized : AreSizedNodes weigh s ts
  nodes_sized = subst (AreSizedNodes weigh s) (sym opening.trees) (all-sized weigh s xs opening.sized.3)

  nodes_long : length ts ≡ length xs
  nodes_long = ap length opening.trees ∙ length-map xs _

  pub nodes_few : length ts ≤ s.fanout
  nodes_few = omega (arith, nodes_long, opening.sized.1, ap length (children-nodes xs))

  pivots_long : length ts ≡ length ks + 1
  pivots_long = omega (arith, nodes_long, siblings_long xs opening.led, ap length opening.pivots)

  pub rest_left : drop (total (counts ss)) rest ≡ drop count stream
  rest_left i = drop (opening.all i) (opening.left i)

  pub bins_long : length bs ≡ length ts
  bins_long = omega (arith, ap length opening.buffers, lie_length (pivots_of xs) bins opening.lie, pivots_long, ap length opening.pivots)

  pub shares_long : length ss ≡ length ts
  shares_long =
      sym (length-map ss (λ (z : Share). z.count))
      ∙ shares-length xs (counts ss) rest packet (omega (arith, siblings_long xs opening.led)) opening.shares ∙ sym nodes_long

  pub marks_long : length ms ≡ length ts
  marks_long =
      let cs = shared xs (with_messages packet (concatenation bins)) in
      ap length opening.marks ∙ length-flush_marks mode s.buffer (loads weigh s cs) ∙ length-map cs (pending_load weigh s)
      ∙ length-shared xs (with_messages packet (concatenation bins)) ∙ sym nodes_long

  -- its bins after the shares are added to them
  abbrev after : List (Messages M)
  after = each_with (parted (counts ss) rest) bs

  after-is : after ≡ added (pivots_of xs) packet bins
  after-is i = each_with (opening.shares i) (opening.buffers i)

  after_lies : LieBetween ks after
  after_lies = subst (LieBetween ks) (sym after-is) (subst (λ js. LieBetween js (added (pivots_of xs) packet bins)) (sym opening.pivots) (added_lie (pivots_of xs) packet bins opening.lie))

  after_long : length after ≡ length ts
  after_long = omega (arith, lie_length ks after after_lies, pivots_long)

  after-shared : with_pending xs after ≡ shared xs (with_messages packet (concatenation bins))
  after-shared =
      ap (with_pending xs) after-is
      ∙ with_pending-shared xs (added (pivots_of xs) packet bins) (added_lie (pivots_of xs) packet bins opening.lie)
      ∙ ap (shared xs) (concatenation-added (pivots_of xs) packet bins opening.lie)

  pub kept_divided : LieBetween ks (kept_bins after ms)
  kept_divided = kept_lie ks after ms (marks_long ∙ sym after_long) after_lies

  module _ (depth : ℕ) (place : Place) where
    abbrev cuts : List (Holed V M (Job V M))
    cuts = cut_each weigh depth mode s place 0 ts after ms

    pub cuts_long : length cuts ≡ length ks + 1
    cuts_long = each-long weigh depth mode s place 0 ts after ms after_long marks_long ∙ pivots_long

    node-cut : cut_out weigh (suc depth) mode s place (inner (nodes xs) (concatenation bins)) packet ≡ opened (holed_nodes (with_pivots ks cuts)) (concatenation (kept_bins after ms))
    node-cut =
        let all = with_messages packet (concatenation bins) in
        let keys : map (λ x. x.0) xs ≡ [] ∷ ks = led_keys xs opening.led ∙ ap (λ js. [] ∷ js) (sym opening.pivots) in
        cond-false _ _ _ opening.room
        ∙ ap (λ ys. opened_node weigh depth mode s place (zip (shared ys all) (flush_marks mode s.buffer (loads weigh s (shared ys all))))) (children-nodes xs)
        ∙ (λ i. opened_node weigh depth mode s place (zip (sym after-shared i) (sym opening.marks i)))
        ∙ (λ i. opened (holed_nodes (each-opened weigh depth mode s place 0 xs after ms i)) (left-kept xs after ms (after_long ∙ nodes_long) i))
        ∙ (λ i. opened (holed_nodes (zip (keys i) (cut_each weigh depth mode s place 0 (sym opening.trees i) after ms))) (concatenation (kept_bins after ms)))

    -- what the holes say
    pub node-with_holes : opened (holed_nodes (with_pivots ks (map (with_holes hole_of) cuts))) (concatenation (kept_bins after ms))
        ≡ with_holes hole_of (cut_out weigh (suc depth) mode s place (inner (nodes xs) (concatenation bins)) packet)
    node-with_holes = ap (λ hs. opened hs (concatenation (kept_bins after ms))) (sym (with_holes-zip hole_of ([] ∷ ks) cuts)) ∙ ap (with_holes hole_of) (sym node-cut)

    pub node-jobs : flat_map holes cuts ≡ holes (cut_out weigh (suc depth) mode s place (inner (nodes xs) (concatenation bins)) packet)
    node-jobs = sym (ap holes node-cut ∙ holes-zip ([] ∷ ks) cuts (omega (arith, cuts_long)))
