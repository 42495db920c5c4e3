-- Children with their bins, and with their shares of the incoming messages: the pending messages of each.
use Rattle.std.proofs.Common.{◌≡◌, ◌≤◌, ℕ, zero, suc, List, [], ◌∷◌, ◌++◌, drop, length, map, take, refl, sym, ap, subst, ◌∙◌, arith}
use Rattle.std.proofs.lemmas.List.{length-map}
use Rattle.std.specs.declared.option.Option.{Option}
use Rattle.std.specs.declared.option.Option.TheVariants.{None, Some}
use Rattle.bt_keycode.specs.Keys.{AllFrom, AllWithin, IsSorted, Key}
use Rattle.bt_value.specs.Lists.{concatenation}
use Rattle.bt_messages.specs.Bins.{AllBefore, LieBetween, each_with, parts}
use Rattle.bt_messages.specs.Parts.{parted}
use Rattle.bt_messages.proofs.offered.Parts.{added_is, lie_length, parts-concatenation}
use Rattle.bt_form.specs.Fits.{SiblingsLie}
use Rattle.bt_form.specs.Flushes.{Child, loads, shared}
use Rattle.bt_form.specs.Messages.{Messages, before, from, load, with_messages}
use Rattle.bt_form.specs.Trees.{Shape, Siblings, Tree, inner, nodes, pivots_of}
use Rattle.bt_form.specs.Children.{AreDivided, with_pending}
use Rattle.bt_form.specs.inside.Flushing.{AreReady, IsReady, with_shares}
use Rattle.bt_form.specs.declared.mode.Mode.{Mode}
use Rattle.bt_form.specs.declared.mode.Mode.TheVariants.{Absorb, Drain}
use Rattle.bt_form.proofs.offered.flushes.Children.{ChildrenLie, all_pending}
use Rattle.bt_form.proofs.offered.flushes.Groups.{all_pending-within, stripped}
use Rattle.bt_form.proofs.offered.flushes.Widest.{siblings_widest}
use Rattle.bt_form.proofs.offered.keys.SortedLists.{from-back, from-joined, from-prefix}

pub length-first : {X : Type 0} (n : ℕ) (xs : List X) → n ≤ length xs → length (take n xs) ≡ n
length-first zero xs few = refl
length-first (suc n) [] few = absurd (omega (arith, few))
length-first (suc n) (x ∷ xs) few = omega (arith, length-first n xs (omega (arith, few)))

within-before : {M : Type 0} (low : Option Key) (k : Key) (ms : Messages M) → AllWithin low (Some k) ms → AllBefore k ms
within-before low k [] w = tt
within-before low k (m ∷ ms) w = (w.0.below, within-before low k ms w.1)

within-from : {M : Type 0} (k : Key) (high : Option Key) (ms : Messages M) → AllWithin (Some k) high ms → AllFrom k ms
within-from k high [] w = tt
within-from k high (m ∷ ms) w = (w.0.from, within-from k high ms w.1)

-- as many bins with their shares as without
pub each-long : {M : Type 0} (ns : List ℕ) (ms : Messages M) (bs : List (Messages M)) → length ns ≡ length bs → length (each_with (parted ns ms) bs) ≡ length bs
each-long [] ms [] e = refl
each-long [] ms (b ∷ bs) e = absurd (omega (arith, e))
each-long (n ∷ ns) ms [] e = absurd (omega (arith, e))
each-long (n ∷ ns) ms (b ∷ bs) e = omega (arith, each-long ns (drop n ms) bs (omega (arith, e)))

module _ {V M : Type 0} where
  -- a buffer divided at the pivots gives the same pending messages as when it is shared
  with_pending-parts : (xs : Siblings V M) (b : Messages M) → with_pending xs (parts (pivots_of xs) b) ≡ shared xs b
  with_pending-parts [] b = refl
  with_pending-parts (x ∷ []) b = refl
  with_pending-parts (x ∷ y ∷ ys) b = ap (λ z. record { pivot = x.0; tree = x.1; pending = before y.0 b } ∷ z) (with_pending-parts (y ∷ ys) (from y.0 b))

  -- bins between pivots are the shares of all their messages
  pub with_pending-shared : (xs : Siblings V M) (bs : List (Messages M)) → LieBetween (pivots_of xs) bs → with_pending xs bs ≡ shared xs (concatenation bs)
  with_pending-shared xs bs h = ap (with_pending xs) (sym (parts-concatenation (pivots_of xs) bs h)) ∙ with_pending-parts xs (concatenation bs)

  with_shares-with_pending : (xs : Siblings V M) (bs : List (Messages M)) (ns : List ℕ) (ms : Messages M) → with_shares (with_pending xs bs) ns ms ≡ with_pending xs (each_with (parted ns ms) bs)
  with_shares-with_pending [] bs ns ms = refl
  with_shares-with_pending (x ∷ xs) [] [] ms = refl
  with_shares-with_pending (x ∷ xs) [] (n ∷ ns) ms = refl
  with_shares-with_pending (x ∷ xs) (b ∷ bs) [] ms = refl
  with_shares-with_pending (x ∷ xs) (b ∷ bs) (n ∷ ns) ms =
      ap (λ z. record { pivot = x.0; tree = x.1; pending = with_messages (take n ms) b } ∷ z) (with_shares-with_pending xs bs ns (drop n ms))

  -- bins with the shares of a packet are the shares of all messages
  pub with_shares-shared : (xs : Siblings V M) (bs : List (Messages M)) (ns : List ℕ) (ms packet : Messages M) → LieBetween (pivots_of xs) bs →
      parted ns ms ≡ parts (pivots_of xs) packet → with_shares (with_pending xs bs) ns ms ≡ shared xs (with_messages packet (concatenation bs))
  with_shares-shared xs bs ns ms packet h sizes =
      with_shares-with_pending xs bs ns ms ∙ ap (λ ps. with_pending xs (each_with ps bs)) sizes
      ∙ ap (with_pending xs) (added_is (pivots_of xs) packet bs h) ∙ with_pending-parts xs (with_messages packet (concatenation bs))

  pub stripped-with_pending : (xs : Siblings V M) (bs : List (Messages M)) → length bs ≡ length xs → stripped (with_pending xs bs) ≡ xs
  stripped-with_pending [] bs e = refl
  stripped-with_pending (x ∷ xs) [] e = absurd (omega (arith, e))
  stripped-with_pending (x ∷ xs) (b ∷ bs) e = ap (λ z. x ∷ z) (stripped-with_pending xs bs (omega (arith, e)))

  pub length-with_pending : (xs : Siblings V M) (bs : List (Messages M)) → length bs ≡ length xs → length (with_pending xs bs) ≡ length xs
  length-with_pending [] bs e = refl
  length-with_pending (x ∷ xs) [] e = absurd (omega (arith, e))
  length-with_pending (x ∷ xs) (b ∷ bs) e = omega (arith, length-with_pending xs bs (omega (arith, e)))

  -- a bin for each of the siblings
  pub bins-length : (xs : Siblings V M) (bs : List (Messages M)) → 1 ≤ length xs → LieBetween (pivots_of xs) bs → length bs ≡ length xs
  bins-length [] bs some h = absurd (omega (arith, some))
  bins-length (x ∷ xs) bs some h = omega (arith, lie_length (pivots_of (x ∷ xs)) bs h, length-map xs (λ (y : Key × Tree V M). y.0))

  -- ---- loads

  loads-with_pending : (weigh : Key × M → ℕ) (s : Shape) (xs : Siblings V M) (bs : List (Messages M)) → length bs ≡ length xs → loads weigh s (with_pending xs bs) ≡ map (load weigh s.measure) bs
  loads-with_pending weigh s [] [] e = refl
  loads-with_pending weigh s [] (b ∷ bs) e = absurd (omega (arith, e))
  loads-with_pending weigh s (x ∷ xs) [] e = absurd (omega (arith, e))
  loads-with_pending weigh s (x ∷ xs) (b ∷ bs) e = ap (λ ns. load weigh s.measure b ∷ ns) (loads-with_pending weigh s xs bs (omega (arith, e)))

  -- a share for each of the siblings
  pub shares-length : (xs : Siblings V M) (ns : List ℕ) (ms packet : Messages M) → 1 ≤ length xs → parted ns ms ≡ parts (pivots_of xs) packet → length ns ≡ length xs
  shares-length [] ns ms packet some sizes = absurd (omega (arith, some))
  shares-length (x ∷ xs) ns ms packet some sizes = omega (arith, parted-long ns ms, ap length sizes, parts-long (pivots_of (x ∷ xs)) packet, length-map xs (λ (y : Key × Tree V M). y.0))
    where
      parted-long : (ns : List ℕ) (ms : Messages M) → length (parted ns ms) ≡ length ns
      parted-long [] ms = refl
      parted-long (n ∷ ns) ms = ap suc (parted-long ns (drop n ms))

      parts-long : (ks : List Key) (ms : Messages M) → length (parts ks ms) ≡ suc (length ks)
      parts-long [] ms = refl
      parts-long (k ∷ ks) ms = ap suc (parts-long ks (from k ms))

  -- the loads of the bins with their shares are those of the children
  pub loads-are : (weigh : Key × M → ℕ) (s : Shape) (xs : Siblings V M) (bs : List (Messages M)) (ns : List ℕ) (ms packet : Messages M)
      → LieBetween (pivots_of xs) bs → parted ns ms ≡ parts (pivots_of xs) packet →
      length bs ≡ length xs → length ns ≡ length bs → map (load weigh s.measure) (each_with (parted ns ms) bs) ≡ loads weigh s (shared xs (with_messages packet (concatenation bs)))
  loads-are weigh s xs bs ns ms packet h sizes e few =
      sym (loads-with_pending weigh s xs (each_with (parted ns ms) bs) (omega (arith, each-long ns ms bs few, e)))
      ∙ ap (loads weigh s) (sym (with_shares-with_pending xs bs ns ms) ∙ with_shares-shared xs bs ns ms packet h sizes)

  -- ---- order

  -- siblings in their places are in order
  with_pending-in_order : (levels : ℕ) (low high : Option Key) (xs : Siblings V M) (bs : List (Messages M)) → SiblingsLie levels low high xs → AreReady Absorb (with_pending xs bs)
  with_pending-in_order levels low high [] bs p = tt
  with_pending-in_order levels low high (x ∷ xs) [] p = tt
  with_pending-in_order levels low high (x ∷ []) (b ∷ bs) p = ((levels, low, high, p), tt)
  with_pending-in_order levels low high (x ∷ y ∷ ys) (b ∷ bs) p = ((levels, low, Some y.0, p.2), with_pending-in_order levels (Some y.0) high (y ∷ ys) bs p.3)

  with_pending-drained : (xs : Siblings V M) (bs : List (Messages M)) → AreReady Drain (with_pending xs bs)
  with_pending-drained [] bs = tt
  with_pending-drained (x ∷ xs) [] = tt
  with_pending-drained (x ∷ xs) (b ∷ bs) = (tt, with_pending-drained xs bs)

  -- the children of a node that messages may enter
  pub with_pending-ready : (mode : Mode) (t : Tree V M) (xs : Siblings V M) (buffer : Messages M) (bs : List (Messages M)) → t ≡ inner (nodes xs) buffer
      → IsReady mode t → AreReady mode (with_pending xs bs)
  with_pending-ready Absorb t xs buffer bs here order = let side = siblings_widest t xs buffer here order in with_pending-in_order side.0 None None xs bs side.1
  with_pending-ready Drain t xs buffer bs here order = with_pending-drained xs bs

  -- ---- between the pivots

  pub joined-pending : (cs : List (Child V M)) → concatenation (map (λ c. c.pending) cs) ≡ all_pending cs
  joined-pending [] = refl
  joined-pending (c ∷ cs) = ap (λ z. c.pending ++ z) (joined-pending cs)

  -- the pending messages of children in their places
  pub divided-lie : (levels : ℕ) (low high : Option Key) (cs : List (Child V M)) → ChildrenLie levels low high cs → AreDivided cs
  divided-lie levels low high [] p = tt
  divided-lie levels low high (c ∷ []) p = p.2
  divided-lie levels low high (c ∷ d ∷ cs) p = (
    p.2.2,
    within-before low d.pivot c.pending p.2.1,
    subst (AllFrom d.pivot) (sym (joined-pending (d ∷ cs))) (within-from d.pivot high (all_pending (d ∷ cs)) (all_pending-within levels (Some d.pivot) high (d ∷ cs) p.3)),
    divided-lie levels (Some d.pivot) high (d ∷ cs) p.3,
  )

  pub pivots-with_pending : (xs : Siblings V M) (bs : List (Messages M)) → length bs ≡ length xs → map (λ c. c.pivot) (with_pending xs bs) ≡ map (λ x. x.0) xs
  pivots-with_pending [] bs e = refl
  pivots-with_pending (x ∷ xs) [] e = absurd (omega (arith, e))
  pivots-with_pending (x ∷ xs) (b ∷ bs) e = ap (λ z. x.0 ∷ z) (pivots-with_pending xs bs (omega (arith, e)))

  pub pending-with_pending : (xs : Siblings V M) (bs : List (Messages M)) → length bs ≡ length xs → map (λ c. c.pending) (with_pending xs bs) ≡ bs
  pending-with_pending [] [] e = refl
  pending-with_pending [] (b ∷ bs) e = absurd (omega (arith, e))
  pending-with_pending (x ∷ xs) [] e = absurd (omega (arith, e))
  pending-with_pending (x ∷ xs) (b ∷ bs) e = ap (λ z. b ∷ z) (pending-with_pending xs bs (omega (arith, e)))

  -- the bins of siblings, as pending messages of children
  pub divided-with_pending : (xs : Siblings V M) (bs : List (Messages M)) → LieBetween (pivots_of xs) bs → AreDivided (with_pending xs bs)
  divided-with_pending [] bs h = tt
  divided-with_pending (x ∷ xs) [] h = tt
  divided-with_pending (x ∷ xs) (b ∷ bs) h =
      let same : length bs ≡ length xs = omega (arith, lie_length (pivots_of (x ∷ xs)) (b ∷ bs) h, length-map xs (λ (y : Key × Tree V M). y.0)) in
      subst (λ ks. LieBetween ks (b ∷ map (λ c. c.pending) (with_pending xs bs))) (sym (pivots-with_pending xs bs same))
      (subst (λ cs. LieBetween (map (λ y. y.0) xs) (b ∷ cs)) (sym (pending-with_pending xs bs same)) h)

  first_from : (k : Key) (cs ds : List (Child V M)) → AllFrom k (concatenation (map (λ c. c.pending) (cs ++ ds))) → AllFrom k (concatenation (map (λ c. c.pending) cs))
  first_from k [] ds h = tt
  first_from k (c ∷ cs) ds h =
      let more = concatenation (map (λ c. c.pending) (cs ++ ds)) in
      from-joined k c.pending _ (from-prefix k c.pending more h) (first_from k cs ds (from-back k c.pending more h))

  -- the first of children
  pub divided-first : (cs ds : List (Child V M)) → AreDivided (cs ++ ds) → AreDivided cs
  divided-first [] ds h = tt
  divided-first (c ∷ []) [] h = h
  divided-first (c ∷ []) (d ∷ ds) h = h.0
  divided-first (c ∷ d ∷ cs) ds h = (h.0, h.1, first_from d.pivot (d ∷ cs) ds h.2, divided-first (d ∷ cs) ds h.3)

  one_less : (c : Child V M) (cs : List (Child V M)) → AreDivided (c ∷ cs) → AreDivided cs
  one_less c [] h = tt
  one_less c (d ∷ cs) h = h.3

  -- the last of children
  pub divided-rest : (cs ds : List (Child V M)) → AreDivided (cs ++ ds) → AreDivided ds
  divided-rest [] ds h = h
  divided-rest (c ∷ cs) ds h = divided-rest cs ds (one_less c (cs ++ ds) h)

  -- children without pending messages
  pub divided-none : (cs : List (Child V M)) → concatenation (map (λ c. c.pending) cs) ≡ [] → AreDivided cs
  divided-none [] e = tt
  divided-none (c ∷ cs) e = go c cs e
    where
      empty : (b c : Messages M) → b ++ c ≡ [] → (b ≡ []) × (c ≡ [])
      empty [] c e = (refl, e)
      empty (m ∷ ms) c e = absurd (omega (arith, ap length e))

      go : (c : Child V M) (cs : List (Child V M)) → concatenation (map (λ c. c.pending) (c ∷ cs)) ≡ [] → AreDivided (c ∷ cs)
      go c [] e = subst IsSorted (sym (empty c.pending [] e).0) tt
      go c (d ∷ cs) e =
          let both = empty c.pending (concatenation (map (λ c. c.pending) (d ∷ cs))) e in (
            subst IsSorted (sym both.0) tt,
            subst (AllBefore d.pivot) (sym both.0) tt,
            subst (AllFrom d.pivot) (sym both.1) tt,
            go d cs both.1,
          )
