-- Runs: a place found among them, and the messages taken off them.
use Rattle.std.proofs.Common.{◌≡◌, ◌==◌, ℕ, zero, suc, ◌<◌, ◌≤◌, ◌+◌, ◌-◌, ◌^◌, Bool, true, false, List, [], ◌∷◌, ◌++◌, append_assoc, append-nil}
use Rattle.std.proofs.Common.{length, take, drop, get_or, refl, sym, ap, subst, ◌∙◌, Option, None, Some, true≢false, arith}
use Rattle.std.proofs.lemmas.List.{length-append, length-take-le}
use Rattle.std.specs.List.Sorted.{IsPartitionedBy, IsPartitionPoint}
use Rattle.std.specs.Option.{MatchOption, option_to_list}
use Rattle.bt_keycode.specs.Keys.{AllFrom, IsSorted, is_before}
use Rattle.bt_keycode.proofs.offered.Order.{from_earlier, later_chain}
use Rattle.bt_value.specs.Lists.{concatenation}
use Rattle.bt_messages.specs.Bins.{AllBefore}
use Rattle.bt_message.specs.Messages.{Messages, with_messages}
use Rattle.bt_messages.specs.inside.Runs.{AreRuns, AreSome, begins_before}
use Rattle.bt_messages.proofs.Merging.{all_following}
use Rattle.bt_messages.proofs.offered.Fronts.{from-take, sorted_take}

pub some_there : (n : ℕ) → false ≡ (n == 0) → 1 ≤ n
some_there zero e = absurd (true≢false (sym e))
some_there (suc n) e = omega arith

module _ {M : Type 0} where
  -- ---- two lists that are sorted together

  from_left : (k : List ℕ) (a b : Messages M) → AllFrom k (a ++ b) → AllFrom k a
  from_left k [] b h = tt
  from_left k (m ∷ a) b h = (h.0, from_left k a b h.1)

  from_right : (k : List ℕ) (a b : Messages M) → AllFrom k (a ++ b) → AllFrom k b
  from_right k [] b h = h
  from_right k (m ∷ a) b h = from_right k a b h.1

  pub sorted_left : (a b : Messages M) → IsSorted (a ++ b) → IsSorted a
  sorted_left [] b h = tt
  sorted_left (m ∷ a) b h = (from_left m.0 a b h.0, sorted_left a b h.1)

  pub sorted_right : (a b : Messages M) → IsSorted (a ++ b) → IsSorted b
  sorted_right [] b h = h
  sorted_right (m ∷ a) b h = sorted_right a b h.1

  -- when sorted messages are put into runs one by one, the last run is sorted
  pub run_sorted : (runs run rest whole : Messages M) → (runs ++ run) ++ rest ≡ whole → IsSorted whole → IsSorted run
  run_sorted runs run rest whole e h = sorted_right runs run (sorted_left (runs ++ run) rest (subst IsSorted (sym e) h))

  pub concatenation-append : (qs bs : List (Messages M)) → concatenation (qs ++ bs) ≡ concatenation qs ++ concatenation bs
  concatenation-append [] bs = refl
  concatenation-append (a ∷ qs) bs = ap (λ z. a ++ z) (concatenation-append qs bs) ∙ sym (append_assoc a (concatenation qs) (concatenation bs))

  -- the second piece of a list and the runs after it, in two pieces too
  pub pieces_joined : (a b : Messages M) (qs bs : List (Messages M)) → a ++ ((b ++ concatenation qs) ++ concatenation bs) ≡ (a ++ b) ++ concatenation (qs ++ bs)
  pieces_joined a b qs bs =
      ap (λ ms. a ++ ms) (append_assoc b (concatenation qs) (concatenation bs) ∙ ap (λ ms. b ++ ms) (sym (concatenation-append qs bs)))
      ∙ sym (append_assoc a b (concatenation (qs ++ bs)))

  pub concatenation-push : (qs : List (Messages M)) (b : Messages M) → concatenation (qs ++ b ∷ []) ≡ concatenation qs ++ b
  concatenation-push qs b = concatenation-append qs (b ∷ []) ∙ ap (λ z. concatenation qs ++ z) (append-nil b)

  pub some-push : (qs : List (Messages M)) (b : Messages M) → AreSome qs → 0 < length b → AreSome (qs ++ b ∷ [])
  some-push [] b h l = (l, tt)
  some-push (a ∷ qs) b h l = (h.0, some-push qs b h.1 l)

  -- ---- where messages begin

  -- sorted messages that do not begin before a key are all from it on
  pub begun : (k : List ℕ) (ms : Messages M) → IsSorted ms → begins_before k ms ≡ false → AllFrom k ms
  begun k [] h e = tt
  begun k (m ∷ ms) h e = (e, from_earlier k m.0 ms e h.0)

  begun_run : (k : List ℕ) (r rest : Messages M) → 0 < length r → IsSorted (r ++ rest) → begins_before k r ≡ false → AllFrom k (r ++ rest)
  begun_run k [] rest l h e = absurd (omega (arith, l))
  begun_run k (m ∷ r) rest l h e = begun k (m ∷ r ++ rest) h e

  begins_from : (k : List ℕ) (rs : List (Messages M)) (j : ℕ) (d : Messages M) → AllFrom k (concatenation rs) → j < length rs → begins_before k (get_or rs j d) ≡ false
  begins_from k [] j d h l = absurd (omega (arith, l))
  begins_from k ([] ∷ rs) zero d h l = refl
  begins_from k ((m ∷ r) ∷ rs) zero d h l = h.0
  begins_from k (r ∷ rs) (suc j) d h l = begins_from k rs j d (from_right k r (concatenation rs) h) (omega (arith, l))

  -- the runs that begin before a key come first
  pub parted_runs : (k : List ℕ) (rs : List (Messages M)) → AreSome rs → IsSorted (concatenation rs) → IsPartitionedBy (begins_before k) rs
  parted_runs k [] s h i j d l n e = absurd (omega (arith, n))
  parted_runs k (r ∷ rs) s h (suc i) zero d l n e = absurd (omega (arith, l))
  parted_runs k (r ∷ rs) s h (suc i) (suc j) d l n e = parted_runs k rs s.1 (sorted_right r (concatenation rs) h) i j d (omega (arith, l)) (omega (arith, n)) e
  parted_runs k (r ∷ rs) s h zero j d l n e = go (begins_before k r) refl
    where
      go : (t : Bool) → begins_before k r ≡ t → begins_before k r ≡ true
      go true f = f
      go false f = absurd (true≢false (sym e ∙ begins_from k (r ∷ rs) j d (begun_run k r (concatenation rs) s.0 h f) n))

  -- from the first run that does not begin before a key, all messages are from that key on
  pub later_runs : (k : List ℕ) (rs : List (Messages M)) (n : ℕ) → AreSome rs → IsSorted (concatenation rs) →
      IsPartitionPoint (λ r. begins_before k r ≡ true) (λ r. begins_before k r ≡ false) rs n → AllFrom k (concatenation (drop n rs))
  later_runs k [] zero s h p = tt
  later_runs k [] (suc n) s h p = tt
  later_runs k (r ∷ rs) zero s h p = begun_run k r (concatenation rs) s.0 h (p.1 0 r (omega arith) (omega arith))
  later_runs k (r ∷ rs) (suc n) s h p =
      later_runs k rs n s.1 (sorted_right r (concatenation rs) h) ((λ j d l i. p.0 (suc j) d (omega (arith, l)) (omega (arith, i))), (λ j d l i. p.1 (suc j) d (omega (arith, l)) (omega (arith, i))))

  pub last_run : (k : List ℕ) (rs : List (Messages M)) (n : ℕ) → IsPartitionPoint (λ r. begins_before k r ≡ true) (λ r. begins_before k r ≡ false) rs n → 0 < n →
      begins_before k (get_or rs (n - 1) []) ≡ true
  last_run k rs n p l = p.0 (n - 1) [] (omega arith) (omega (arith, l))

  -- what comes before a run that begins before a key is before that key
  earlier : (k : List ℕ) (m : List ℕ × M) (a q rest : Messages M) → AllFrom m.0 (a ++ (q ++ rest)) → begins_before k q ≡ true → is_before m.0 k ≡ true
  earlier k m a [] rest h e = absurd (true≢false (sym e))
  earlier k m a (n ∷ q) rest h e = go (is_before m.0 k) refl
    where
      go : (t : Bool) → is_before m.0 k ≡ t → is_before m.0 k ≡ true
      go true f = f
      go false f = absurd (true≢false (sym e ∙ later_chain k m.0 n.0 f (from_right m.0 a (n ∷ q ++ rest) h).0))

  all_earlier : (k : List ℕ) (a q rest : Messages M) → IsSorted (a ++ (q ++ rest)) → begins_before k q ≡ true → AllBefore k a
  all_earlier k [] q rest h e = tt
  all_earlier k (m ∷ a) q rest h e = (earlier k m a q rest h.0 e, all_earlier k a q rest h.1 e)

  runs_earlier : (k : List ℕ) (a : Messages M) (rs : List (Messages M)) (n : ℕ) → IsSorted (a ++ concatenation rs) → n < length rs → begins_before k (get_or rs n []) ≡ true →
      AllBefore k (a ++ concatenation (take n rs))
  runs_earlier k a [] n h l e = absurd (omega (arith, l))
  runs_earlier k a (r ∷ rs) zero h l e = subst (AllBefore k) (sym (append-nil a)) (all_earlier k a r (concatenation rs) h e)
  runs_earlier k a (r ∷ rs) (suc n) h l e =
      subst (AllBefore k) (append_assoc a r (concatenation (take n rs)))
      (runs_earlier k (a ++ r) rs n (subst IsSorted (sym (append_assoc a r (concatenation rs))) h) (omega (arith, l)) e)

  -- ---- a place in a run

  before_front : (k : List ℕ) (r b : Messages M) (p : ℕ) → p ≤ length r → AllBefore k (take p r) → AllBefore k (take p (r ++ b))
  before_front k r b zero l h = tt
  before_front k [] b (suc p) l h = absurd (omega (arith, l))
  before_front k (m ∷ r) b (suc p) l h = (h.0, before_front k r b p (omega (arith, l)) h.1)

  before_place : (k : List ℕ) (a r b : Messages M) (p at : ℕ) → at ≡ length a + p → p ≤ length r → AllBefore k a → AllBefore k (take p r) → AllBefore k (take at (a ++ (r ++ b)))
  before_place k [] r b p at e l g h = subst (λ n. AllBefore k (take n (r ++ b))) (omega (arith, e)) (before_front k r b p l h)
  before_place k (m ∷ a) r b p zero e l g h = tt
  before_place k (m ∷ a) r b p (suc at) e l g h = (g.0, before_place k a r b p at (omega (arith, e)) l g.1 h)

  from_both : (k : List ℕ) (a b : Messages M) → AllFrom k a → AllFrom k b → AllFrom k (a ++ b)
  from_both k [] b g h = h
  from_both k (m ∷ a) b g h = (g.0, from_both k a b g.1 h)

  pub from_front : (k : List ℕ) (r b : Messages M) (p : ℕ) → p ≤ length r → AllFrom k (drop p r) → AllFrom k b → AllFrom k (drop p (r ++ b))
  from_front k r b zero l g h = from_both k r b g h
  from_front k [] b (suc p) l g h = absurd (omega (arith, l))
  from_front k (m ∷ r) b (suc p) l g h = from_front k r b p (omega (arith, l)) g h

  from_place : (k : List ℕ) (a r b : Messages M) (p at : ℕ) → at ≡ length a + p → p ≤ length r → AllFrom k (drop p r) → AllFrom k b → AllFrom k (drop at (a ++ (r ++ b)))
  from_place k [] r b p at e l g h = subst (λ n. AllFrom k (drop n (r ++ b))) (omega (arith, e)) (from_front k r b p l g h)
  from_place k (m ∷ a) r b p zero e l g h = absurd (omega (arith, e))
  from_place k (m ∷ a) r b p (suc at) e l g h = from_place k a r b p at (omega (arith, e)) l g h

  concatenation-cut : (rs : List (Messages M)) (n : ℕ) → n < length rs → concatenation rs ≡ concatenation (take n rs) ++ (get_or rs n [] ++ concatenation (drop (suc n) rs))
  concatenation-cut [] n l = absurd (omega (arith, l))
  concatenation-cut (r ∷ rs) zero l = refl
  concatenation-cut (r ∷ rs) (suc n) l = ap (λ z. r ++ z) (concatenation-cut rs n (omega (arith, l)))
      ∙ sym (append_assoc r (concatenation (take n rs)) (get_or rs n [] ++ concatenation (drop (suc n) rs)))

  -- the messages of one more run
  pub one_more_run : (rs : List (Messages M)) (n : ℕ) (d : Messages M) → n < length rs → length (concatenation (take (suc n) rs)) ≡ length (concatenation (take n rs)) + length (get_or rs n d)
  one_more_run [] n d l = absurd (omega (arith, l))
  one_more_run (r ∷ rs) zero d l = omega (arith, length-append r [])
  one_more_run (r ∷ rs) (suc n) d l =
      omega (arith, length-append r (concatenation (take (suc n) rs)), length-append r (concatenation (take n rs)), one_more_run rs n d (omega (arith, l)))

  pub run_within : (rs : List (Messages M)) (n : ℕ) (d : Messages M) → n < length rs → length (concatenation (take n rs)) + length (get_or rs n d) ≤ length (concatenation rs)
  run_within [] n d l = absurd (omega (arith, l))
  run_within (r ∷ rs) zero d l = omega (arith, length-append r (concatenation rs))
  run_within (r ∷ rs) (suc n) d l =
      omega (arith, length-append r (concatenation (take n rs)), length-append r (concatenation rs), run_within rs n d (omega (arith, l)))

  -- there are no more messages before the last of some runs and in it than in all
  pub counted_within : (a : Messages M) (rs : List (Messages M)) (k runs led before : ℕ) (d : Messages M) → AreRuns a rs k → 0 < runs → runs ≤ length rs → led ≡ length a →
      before ≡ length (concatenation (take (runs - 1) rs)) → led + before + length (get_or rs (runs - 1) d) < 2 ^ 63
  counted_within a rs k runs led before d are some few l b =
      omega (arith, l, b, run_within rs (runs - 1) d (omega (arith, some, few)), are.count, are.bound, length-append a (concatenation rs))

  -- all messages before it are before the key, and all from it on are not
  abbrev pub Parts : List ℕ → ℕ → Messages M → Type 0
  Parts k n ms = AllBefore k (take n ms) × AllFrom k (drop n ms)

  -- the last run that begins before the key, with a place in it
  pub record IsInRun (k : List ℕ) (rs : List (Messages M)) (n p : ℕ) : Type 0 where
    pub run : Messages M
    pub within : n < length rs
    pub is : run ≡ get_or rs n []
    pub begins : begins_before k (get_or rs n []) ≡ true
    pub later : AllFrom k (concatenation (drop (suc n) rs))
    pub bound : p ≤ length run
    pub before : AllBefore k (take p run)
    pub from : AllFrom k (drop p run)

  pub placed_run : (k : List ℕ) (a : Messages M) (rs : List (Messages M)) (n p at : ℕ) → IsSorted (a ++ concatenation rs) → IsInRun k rs n p →
      at ≡ length a + length (concatenation (take n rs)) + p → Parts k at (a ++ concatenation rs)
  placed_run k a rs n p at h found place_is =
      let front = a ++ concatenation (take n rs) in
      let back = concatenation (drop (suc n) rs) in
      let run = get_or rs n [] in
      let whole : a ++ concatenation rs ≡ front ++ (run ++ back) =
      ap (λ z. a ++ z) (concatenation-cut rs n found.within) ∙ sym (append_assoc a (concatenation (take n rs)) (run ++ back)) in
      let place : at ≡ length front + p = omega (arith, place_is, length-append a (concatenation (take n rs))) in
      let few : p ≤ length run = omega (arith, found.bound, ap length found.is) in
      subst (Parts k at) (sym whole) (
        before_place k front run back p at place few (runs_earlier k a rs n h found.within found.begins) (subst (λ z. AllBefore k (take p z)) found.is found.before),
        from_place k front run back p at place few (subst (λ z. AllFrom k (drop p z)) found.is found.from) found.later,
      )

  -- ---- what begins before a key

  -- newer messages that do not begin before the last old one come after all old ones
  pub after_last : (older s : Messages M) (last : List ℕ × M) (n : ℕ) → IsSorted older → IsSorted s → 1 ≤ length older → last ≡ get_or older (length older - 1) last →
      begins_before last.0 s ≡ false → with_messages (take n s) older ≡ older ++ take n s
  after_last older s last n h i l e f = all_following older (take n s) last (length older - 1) h (sorted_take n s i) (omega (arith, l)) e (from-take last.0 n s (begun last.0 s i f))

  -- ---- what is taken off

  -- the whole first list is read
  pub same_later : (a b : Messages M) (rs qs : List (Messages M)) (n k : ℕ) → AreRuns a rs n → b ≡ a → qs ≡ rs → k ≡ length a → AreRuns b qs (length b + (n - k))
  same_later a b rs qs n k h e f l =
      let count : n ≡ length a + length (concatenation rs) = h.count ∙ length-append a (concatenation rs) in
      let same : length b + (n - k) ≡ n = omega (arith, ap length e, l, count) in
      subst (AreRuns b qs) (sym same) (subst (λ x. AreRuns x qs n) (sym e) (subst (λ x. AreRuns a x n) (sym f) h))

  pub run_popped : (a r : Messages M) (rs qs : List (Messages M)) (later k : ℕ) → AreRuns a rs (length a + later) → length a ≡ 0 → rs ≡ r ∷ qs → k ≡ length r →
      (a ++ concatenation rs ≡ r ++ (a ++ concatenation qs)) × (0 < length r) × (k ≤ later) × AreRuns a qs (length a + (later - k))
  run_popped (m ∷ a) r rs qs later k h z e l = absurd (omega (arith, z))
  run_popped [] r rs qs later k h z e l =
      let is : concatenation rs ≡ r ++ concatenation qs = ap concatenation e in
      let some : AreSome (r ∷ qs) = subst AreSome e h.some in
      let count : length (concatenation rs) ≡ length r + length (concatenation qs) = ap length is ∙ length-append r (concatenation qs) in
      let all : 0 + later ≡ length (concatenation rs) = h.count in (
        is,
        some.0,
        omega (arith, all, count, l),
        record { some = some.1; sorted = sorted_right r (concatenation qs) (subst IsSorted is h.sorted); count = omega (arith, all, count, l); bound = omega (arith, h.bound) },
      )

  -- the first message of a list, if it has any
  pub first_popped : (X Y : Type 0) (r : Option (List ℕ × M)) (whole a left rest : Messages M) (n : ℕ) → a ++ rest ≡ whole → a ≡ option_to_list r ++ left
      → (length a ≡ 0 → a ++ rest ≡ []) → n ≡ length a →
      MatchOption r ((n ≡ 0) × X) (λ _. Y) → MatchOption r ((whole ≡ []) × (left ++ rest ≡ [])) (λ m. whole ≡ m ∷ (left ++ rest))
  first_popped X Y None whole a left rest n e f none l cases =
      let empty = none (omega (arith, l, cases.0)) in
      (sym e ∙ empty, ap (λ z. z ++ rest) (sym f) ∙ empty)
  first_popped X Y (Some m) whole a left rest n e f none l cases = sym e ∙ ap (λ z. z ++ rest) f

  -- ---- the front of a stream, run by run

  some_more : (r s : Messages M) (n left : ℕ) → n ≡ length r + left → (take n (r ++ s) ≡ r ++ take left s) × (drop n (r ++ s) ≡ drop left s)
  some_more [] s n left e = let same : n ≡ left = omega (arith, e) in (ap (λ k. take k s) same, ap (λ k. drop k s) same)
  some_more (m ∷ r) s zero left e = absurd (omega (arith, e))
  some_more (m ∷ r) s (suc n) left e = let others = some_more r s n left (omega (arith, e)) in (ap (λ z. m ∷ z) others.0, others.1)

  pub run_taken : (s t r : Messages M) (runs : List (Messages M)) (n c : ℕ) (wanted left : Messages M) → s ≡ r ++ t → c ≡ length r → c ≤ n → concatenation runs ++ take n s ≡ wanted → drop n s ≡ left →
      (concatenation (runs ++ r ∷ []) ++ take (n - c) t ≡ wanted) × (drop (n - c) t ≡ left)
  run_taken s t r runs n c wanted left e f l g h =
      let more = some_more r t n (n - c) (omega (arith, f, l)) in (
        ap (λ z. z ++ take (n - c) t) (concatenation-push runs r) ∙ append_assoc (concatenation runs) r (take (n - c) t)
            ∙ ap (λ z. concatenation runs ++ z) (sym more.0) ∙ ap (λ z. concatenation runs ++ take n z) (sym e) ∙ g,
        sym more.1 ∙ ap (drop n) (sym e) ∙ h,
      )

  pub enough_left : (s t r : Messages M) (n c : ℕ) → s ≡ r ++ t → c ≡ length r → n ≤ length s → n - c ≤ length t
  enough_left s t r n c e f l = omega (arith, ap length e, length-append r t, f, l)

  -- nothing of it is left to be taken
  pub none_left : (runs : List (Messages M)) (s wanted left : Messages M) (n : ℕ) → n ≤ 0 → concatenation runs ++ take n s ≡ wanted → drop n s ≡ left → (concatenation runs ≡ wanted) × (s ≡ left)
  none_left runs s wanted left zero l e f = (sym (append-nil (concatenation runs)) ∙ e, f)
  none_left runs s wanted left (suc n) l e f = absurd (omega (arith, l))

  pub whole_runs : (first : Messages M) (runs : List (Messages M)) (s : Messages M) (n : ℕ) → first ≡ [] → AreSome runs → IsSorted s → concatenation runs ≡ s
      → n ≡ length s → n < 2 ^ 63 → AreRuns first runs n
  whole_runs first runs s n e h i f g b =
      let is : first ++ concatenation runs ≡ s = ap (λ z. z ++ concatenation runs) e ∙ f in
      record { some = h; sorted = subst IsSorted (sym is) i; count = g ∙ sym (ap length is); bound = b }

  pub all_runs : (first : Messages M) (runs : List (Messages M)) (s : Messages M) (n c : ℕ) → first ≡ [] → AreSome runs → IsSorted s
      → concatenation runs ≡ take c s → c ≤ length s → n ≡ length s → n < 2 ^ 63 → AreRuns first runs c
  all_runs first runs s n c e h i f l g b = whole_runs first runs (take c s) c e h (sorted_take c s i) f (sym (length-take-le c s l)) (omega (arith, l, g, b))
