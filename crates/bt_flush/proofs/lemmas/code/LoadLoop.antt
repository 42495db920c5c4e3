-- The load of each child is known without moving messages: that of its bin plus that of its share of the incoming ones.
use Rattle.std.proofs.Common.{◌≡◌, ◌<◌, ◌≤◌, ◌+◌, ℕ, zero, suc, Bool, true, false, nat_le, List, [], ◌∷◌, ◌++◌, ◌∙◌, arith, ap, drop, get_or, length, map, refl, replicate, subst, sym, take}
use Rattle.std.proofs.lemmas.List.{length-drop, length-map, length-take, take_all}
use Rattle.bt_keycode.specs.Keys.{Key}
use Rattle.bt_value.specs.Lists.{concatenation}
use Rattle.bt_messages.specs.Bins.{LieBetween, added, each_with, parts}
use Rattle.bt_messages.specs.Parts.{parted, total}
use Rattle.bt_message.specs.Messages.{Messages, with_messages}
use Rattle.bt_messages.specs.Shares.{counts, load_of, share_of}
use Rattle.bt_message.specs.Terms.{Terms}
use Rattle.bt_message.specs.Weights.{load, weigh_of}
use Rattle.bt_message.specs.declared.measure.Measure.{Measure}
use Rattle.bt_message.specs.declared.measure.Measure.TheVariants as measures
use Rattle.bt_message.specs.declared.message.Message.{Message}
use Rattle.bt_messages.specs.declared.share.Share.{Share}
use Rattle.bt_messages.proofs.offered.Loads.{load-with_messages, weight-small}
use Rattle.bt_messages.proofs.offered.Parts.{added_lie, concatenation-added, concatenation_sorted, lie_length}
use Rattle.bt_messages.proofs.offered.Placed.{sorted-with_messages}
use Rattle.bt_form.specs.Flushes.{loads as of_children, pending_load, shared}
use Rattle.bt_form.specs.Marks.{flush_marks, has_room}
use Rattle.bt_form.specs.Trees.{Shape, Siblings, pivots_of}
use Rattle.bt_form.specs.declared.mode.Mode.{Mode}
use Rattle.bt_form.specs.declared.mode.Mode.TheVariants.{Absorb, Drain}
use Rattle.bt_form.proofs.offered.flushes.Divisions.{bins-length, loads-are}
use Rattle.bt_flush.proofs.offered.EmptyPackets.{all_pending-shared}
use Rattle.bt_flush.proofs.offered.NodeSizes.{total-loads}
use Rattle.bt_form.proofs.offered.flushes.Shares.{length-shared}
use Rattle.bt_form.proofs.offered.plans.Marks.{all-marked}

-- the first messages are no more than all
part-within : {X : Type 0} (ns : List ℕ) (ms : List X) (i : ℕ) → length (get_or (parted ns ms) i []) ≤ length ms
part-within [] ms i = omega arith
part-within (n ∷ ns) ms zero = omega (arith, length-take n ms)
part-within (n ∷ ns) ms (suc i) = omega (arith, part-within ns (drop n ms) i, length-drop n ms)

-- messages that fit in a list in the code, and a part of them
load-small : {V D : Type 0} (terms : Terms V D) (measure : Measure) (ms : Messages (Message V D)) → length ms < 9223372036854775808 →
    load (weigh_of terms) measure ms < 154742504910672534362390528
load-small terms measures.Messages ms l = omega (arith, l)
load-small terms measures.Bytes ms l = weight-small terms ms l

part-small : {V D : Type 0} (terms : Terms V D) (measure : Measure) (ns : List ℕ) (ms : Messages (Message V D)) (i : ℕ) → length ms < 9223372036854775808 →
    load (weigh_of terms) measure (get_or (parted ns ms) i []) < 154742504910672534362390528
part-small terms measure ns ms i l = load-small terms measure _ (omega (arith, part-within ns ms i, l))

module _ {M : Type 0} (weigh : Key × M → ℕ) (measure : Measure) where
  -- the load of each bin with its share
  abbrev pub loads : List (Messages M) → List (Messages M) → List ℕ
  loads parts bins = map (load weigh measure) (each_with parts bins)

  loads_long : (parts bins : List (Messages M)) → length parts ≡ length bins → length (loads parts bins) ≡ length parts
  loads_long [] bins e = refl
  loads_long (p ∷ ps) [] e = absurd (omega (arith, e))
  loads_long (p ∷ ps) (b ∷ bs) e = omega (arith, loads_long ps bs (omega (arith, e)))

  -- the load of a share is that of its messages
  one-share : (p : Messages M) → load_of measure (share_of weigh measure p) ≡ load weigh measure p
  one-share p = elim measure as (λ m. load_of m (share_of weigh m p) ≡ load weigh m p) [ measures.Messages ↦ refl | measures.Bytes ↦ refl ]

  share-load : (parts : List (Messages M)) (i : ℕ) (none : Share) → i < length parts → load_of measure (get_or (map (share_of weigh measure) parts) i none) ≡ load weigh measure (get_or parts i [])
  share-load [] i none within = absurd (omega (arith, within))
  share-load (p ∷ ps) zero none within = one-share p
  share-load (p ∷ ps) (suc i) none within = share-load ps i none (omega (arith, within))

  -- the next one
  next_load : (parts bins : List (Messages M)) (i : ℕ) → i < length parts → length parts ≡ length bins →
      take (suc i) (loads parts bins) ≡ take i (loads parts bins) ++ (load weigh measure (get_or bins i []) + load weigh measure (get_or parts i [])) ∷ []
  next_load [] bins i within e = absurd (omega (arith, within))
  next_load (p ∷ ps) [] i within e = absurd (omega (arith, e))
  next_load (p ∷ ps) (b ∷ bs) zero within e =
      let one : load weigh measure (with_messages p b) ≡ load weigh measure b + load weigh measure p = omega (arith, load-with_messages weigh measure p b) in
      ap (λ n. n ∷ []) one
  next_load (p ∷ ps) (b ∷ bs) (suc i) within e = ap (λ ns. load weigh measure (with_messages p b) ∷ ns) (next_load ps bs i (omega (arith, within)) (omega (arith, e)))

  all_loads : (parts bins : List (Messages M)) (i : ℕ) → length parts ≤ i → length parts ≡ length bins → take i (loads parts bins) ≡ loads parts bins
  all_loads parts bins i past e = take_all i (loads parts bins) (omega (arith, past, loads_long parts bins e))

-- The shares of a stream that the code reads along with the bins. The load of each is that of its messages.
module _ {V D : Type 0} (terms : Terms V D) (measure : Measure) (shares : List Share) (ms : Messages (Message V D)) (bins : List (Messages (Message V D)))
    (weighed : shares ≡ map (share_of (weigh_of terms) measure) (parted (counts shares) ms)) where
  abbrev divided : List (Messages (Message V D))
  divided = parted (counts shares) ms

  abbrev all : List ℕ
  all = loads (weigh_of terms) measure divided bins

  divided-long : length divided ≡ length shares
  divided-long = omega (arith, ap length weighed, length-map divided (share_of (weigh_of terms) measure))

  own-share : (i n : ℕ) (none : Share) → i < length shares → n ≡ load_of measure (get_or shares i none) → n ≡ load (weigh_of terms) measure (get_or divided i [])
  own-share i n none within is = is ∙ ap (λ ss. load_of measure (get_or ss i none)) weighed ∙ share-load (weigh_of terms) measure divided i none (omega (arith, within, divided-long))

  -- it is at most the load of a list in the code
  pub one_small : (i n : ℕ) (none : Share) → i < length shares → n ≡ load_of measure (get_or shares i none) → length ms < 9223372036854775808 → n < 154742504910672534362390528
  one_small i n none within is few = omega (arith, own-share i n none within is, part-small terms measure (counts shares) ms i few)

  pub one_more_load : (i n m : ℕ) (none : Share) (made after : List ℕ) → length shares ≡ length bins → i < length shares → n ≡ load (weigh_of terms) measure (get_or bins i []) →
      m ≡ load_of measure (get_or shares i none) → made ≡ take i all → after ≡ made ++ (n + m) ∷ [] → after ≡ take (i + 1) all
  one_more_load i n m none made after each within bin share so_far pushed =
      let one : suc i ≡ i + 1 = omega arith in
      let w = weigh_of terms in
      pushed ∙ ap (λ z. z ++ (n + m) ∷ []) so_far ∙ ap (λ k. take i all ++ (k + m) ∷ []) bin
      ∙ ap (λ k. take i all ++ (load w measure (get_or bins i []) + k) ∷ []) (own-share i m none within share)
      ∙ sym (next_load w measure divided bins i (omega (arith, within, divided-long)) (omega (arith, each, divided-long))) ∙ ap (λ j. take j all) one

  pub all_made : (i : ℕ) (made : List ℕ) → length shares ≡ length bins → length shares ≤ i → made ≡ take i all → made ≡ all
  all_made i made each past so_far = so_far ∙ all_loads (weigh_of terms) measure divided bins i (omega (arith, past, divided-long)) (omega (arith, each, divided-long))

-- ---- a node that takes messages

pub has_room-absorb : (mode : Mode) (s : Shape) (n : ℕ) {b : Bool} → mode ≡ Absorb → nat_le n s.buffer ≡ b → has_room mode s n ≡ b
has_room-absorb mode s n is room = ap (λ m. has_room m s n) is ∙ room

pub has_room-drain : (mode : Mode) (s : Shape) (n : ℕ) → mode ≡ Drain → has_room mode s n ≡ false
has_room-drain mode s n is = ap (λ m. has_room m s n) is

-- Its children, its bins, and the shares of the incoming messages, as the code finds them. The code knows the measure and the pivots of the children.
pub record Come {V D : Type 0} (weigh : Key × Message V D → ℕ) (s : Shape) (xs : Siblings V (Message V D)) (bins : List (Messages (Message V D))) (stream : Messages (Message V D)) (count : ℕ)
    (measure : Measure) (ks : List Key) (shares : List Share) : Type 0 where
  pub measured : measure ≡ s.measure
  pub pivots : ks ≡ pivots_of xs
  pub some : 1 ≤ length xs
  pub lie : LieBetween (pivots_of xs) bins
  pub each : shares ≡ map (share_of weigh measure) (parts ks (take count stream))
  pub divided : parted (counts shares) stream ≡ parts ks (take count stream)
  pub long : length shares ≡ length ks + 1

module _ {V D : Type 0} {weigh : Key × Message V D → ℕ} {s : Shape} {xs : Siblings V (Message V D)} {bins : List (Messages (Message V D))} {stream : Messages (Message V D)} {count : ℕ}
    {measure : Measure} {ks : List Key} {shares : List Share} (come : Come weigh s xs bins stream count measure ks shares) where
  pub share_each : length shares ≡ length bins
  share_each = omega (arith, come.long, ap length come.pivots, lie_length (pivots_of xs) bins come.lie)

  pub bin_each : length bins ≡ length xs
  bin_each = bins-length xs bins come.some come.lie

  pub shares_weighed : shares ≡ map (share_of weigh measure) (parted (counts shares) stream)
  shares_weighed = come.each ∙ ap (map (share_of weigh measure)) (sym come.divided)

  pub at_pivots : parted (counts shares) stream ≡ parts (pivots_of xs) (take count stream)
  at_pivots = come.divided ∙ ap (λ js. parts js (take count stream)) come.pivots

  -- the bins with their shares
  bins_after : each_with (parted (counts shares) stream) bins ≡ added (pivots_of xs) (take count stream) bins
  bins_after = ap (λ ps. each_with ps bins) at_pivots

  pub after_lie : (made : List (Messages (Message V D))) → made ≡ each_with (parted (counts shares) stream) bins → LieBetween (pivots_of xs) made
  after_lie made is = subst (LieBetween (pivots_of xs)) (sym (is ∙ bins_after)) (added_lie (pivots_of xs) (take count stream) bins come.lie)

  pub after_joined : (made : List (Messages (Message V D))) → made ≡ each_with (parted (counts shares) stream) bins → concatenation made ≡ with_messages (take count stream) (concatenation bins)
  after_joined made is = ap concatenation (is ∙ bins_after) ∙ concatenation-added (pivots_of xs) (take count stream) bins come.lie

  -- the load of each child then, and their total
  pub loads_after : (made : List ℕ) → made ≡ map (load weigh measure) (each_with (parted (counts shares) stream) bins)
      → made ≡ of_children weigh s (shared xs (with_messages (take count stream) (concatenation bins)))
  loads_after made is =
      is ∙ ap (λ m. map (load weigh m) (each_with (parted (counts shares) stream) bins)) come.measured
      ∙ loads-are weigh s xs bins (counts shares) stream (take count stream) come.lie at_pivots bin_each (omega (arith, length-map shares (λ (s : Share). s.count), share_each))

  pub loads_total : total (of_children weigh s (shared xs (with_messages (take count stream) (concatenation bins)))) ≡ load weigh s.measure (with_messages (take count stream) (concatenation bins))
  loads_total =
      total-loads weigh s (shared xs (with_messages (take count stream) (concatenation bins)))
      ∙ ap (load weigh s.measure) (all_pending-shared xs (with_messages (take count stream) (concatenation bins)) come.some
      (sorted-with_messages (take count stream) (concatenation bins) (concatenation_sorted (pivots_of xs) bins come.lie)))

  -- the code's test whether there is room for all
  pub room_test : (made : List ℕ) (room : ℕ) (test : Bool) → made ≡ map (load weigh measure) (each_with (parted (counts shares) stream) bins) → room ≡ s.buffer → test ≡ nat_le (total made) room →
      nat_le (load weigh s.measure (with_messages (take count stream) (concatenation bins))) s.buffer ≡ test
  room_test made room test is same tested =
      sym (tested ∙ ap (λ ns. nat_le (total ns) room) (loads_after made is) ∙ ap (λ n. nat_le n room) loads_total
      ∙ ap (nat_le (load weigh s.measure (with_messages (take count stream) (concatenation bins)))) same)

  -- the code's marks of the children
  pub marks_planned : (mode : Mode) (made : List ℕ) (room : ℕ) (marks : List Bool) → mode ≡ Absorb
      → made ≡ map (load weigh measure) (each_with (parted (counts shares) stream) bins) → room ≡ s.buffer →
      marks ≡ flush_marks Absorb room made → marks ≡ flush_marks mode s.buffer (of_children weigh s (shared xs (with_messages (take count stream) (concatenation bins))))
  marks_planned mode made room marks absorbs is same marked =
      marked ∙ ap (λ n. flush_marks Absorb n made) same ∙ ap (flush_marks Absorb s.buffer) (loads_after made is)
      ∙ ap (λ m. flush_marks m s.buffer (of_children weigh s (shared xs (with_messages (take count stream) (concatenation bins))))) (sym absorbs)

  pub marks_all : (mode : Mode) (n : ℕ) (marks : List Bool) → mode ≡ Drain → n ≡ length shares → marks ≡ replicate n true →
      marks ≡ flush_marks mode s.buffer (of_children weigh s (shared xs (with_messages (take count stream) (concatenation bins))))
  marks_all mode n marks drains as_many marked =
      let cs = shared xs (with_messages (take count stream) (concatenation bins)) in
      let long : n ≡ length (of_children weigh s cs) =
      omega (arith, as_many, share_each, bin_each, length-map cs (pending_load weigh s), length-shared xs (with_messages (take count stream) (concatenation bins))) in
      marked ∙ ap (λ k. replicate k true) long ∙ all-marked (of_children weigh s cs) ∙ ap (λ m. flush_marks m s.buffer (of_children weigh s cs)) (sym drains)
