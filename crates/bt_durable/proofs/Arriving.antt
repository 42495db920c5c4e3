-- What arrives of an input, part after part.
use Rattle.std.proofs.Common.{◌≡◌, ◌∙◌, ◌<◌, ◌^◌, ◌++◌, ℕ, List, [], ◌∷◌, Option, None, Some, IfSome, IfNone, Bool, true, false, ap, append-nil, append_assoc, arith, length, refl, subst, sym}
use Rattle.std.specs.Io.KnownBytes.{Consumes, IsAtEnd}
use Rattle.std.specs.Prelude.{not}
use Rattle.std.proofs.KnownBytes.{Consumes-nil, Consumes-trans}
use Rattle.bt_script.specs.Streams.{source_of}
use Rattle.bt_script.specs.declared.counted.Counted.{Counted}
use Rattle.bt_frame.specs.Frames.{arrivals, following, frame}
use Rattle.bt_frame.specs.Receipts.{Receives, ReceivesNothing}
use Rattle.bt_frame.specs.Services.{IsInputOf, IsLast, IsNoRequest}
use Rattle.bt_frame.specs.declared.arrival.Arrival.{Arrival}
use Rattle.bt_frame.specs.declared.arrival.Arrival.TheVariants.{CutOff, Frame, NoFrame, TooLong}
use Rattle.bt_frame.proofs.offered.Arrivals.{nothing_arrives, sent_arrives}
use Rattle.bt_durable.specs.Inputs.{AreAll, AreFirst, Arrive, Continue, Reads, ReadsGroup, ReadsNext, ReadsUpTo, received_of}
use Rattle.bt_durable.specs.Joined.{AreFrames, are_requests}
use Rattle.bt_durable.specs.Payloads.{no_limit, requests}
use Rattle.bt_durable.specs.declared.groups.Ending.TheVariants.{End, More}

-- ---- what a reader gave

module _ {R : Type 0} (remaining : R → Option (List ℕ)) (most : ℕ) (old new : Counted R) (input output : R) (before : source_of old ≡ input) (now : output ≡ source_of new) where
  reads : (arrival : Arrival) (payload : List ℕ) → Receives remaining old new most arrival payload → Reads most (remaining input) (remaining output) arrival payload
  reads arrival payload received =
      let given = subst (λ (r : R). Consumes (remaining r) (remaining (source_of new)) received.0) before received.1.0 in
      (received.0, subst (λ (r : R). Consumes (remaining input) (remaining r) received.0) (sym now) given, received.2, λ cut. subst (λ (r : R). IsAtEnd (remaining r)) (sym now) (received.3 cut))

  pub reads_next : (found : Option Arrival) (payload : List ℕ) → IfSome found (λ arrival. Receives remaining old new most arrival payload)
      → IfNone found (ReceivesNothing remaining old new) → ReadsNext most (remaining input) (remaining output) payload (received_of found)
  reads_next (Some (Frame kind)) payload received nothing = reads (Frame kind) payload received
  reads_next (Some TooLong) payload received nothing = (tt, reads TooLong payload received)
  reads_next (Some NoFrame) payload received nothing = (tt, reads NoFrame payload received)
  reads_next (Some CutOff) payload received nothing = (tt, reads CutOff payload received)
  reads_next None payload received nothing = (
    subst (λ (r : R). Consumes (remaining input) (remaining r) []) (sym now) (subst (λ (r : R). Consumes (remaining r) (remaining (source_of new)) []) before nothing.0.0),
    subst (λ (r : R). IsAtEnd (remaining r)) (sym now) nothing.1,
  )

-- ---- groups

module _ (most : ℕ) where
  -- nothing was read
  pub no_group : (a : Option (List ℕ)) → ReadsGroup most a a []
  no_group a = record { arrived = []; read = ([], Consumes-nil a, λ rest. refl); whole = λ rest. refl }

  module _ (a b c : Option (List ℕ)) (group : List ℕ) (so_far : ReadsGroup most a b group) where
    -- one more request
    pub one_request : (kind : ℕ) (payload : List ℕ) → Reads most b c (Frame kind) payload → length payload < 2 ^ 64 → ReadsGroup most a c (group ++ frame kind payload)
    one_request kind payload next fits = record {
      arrived = so_far.arrived ++ (Frame kind, payload) ∷ [];
      read = (
        so_far.read.0 ++ next.0,
        Consumes-trans a b c so_far.read.0 next.0 so_far.read.1 next.1,
        λ rest.
            ap (arrivals most) (append_assoc so_far.read.0 next.0 rest) ∙ so_far.read.2 (next.0 ++ rest)
            ∙ ap (λ (l : List (Arrival × List ℕ)). so_far.arrived ++ l) (next.2 rest (λ e. absurd (cc)))
            ∙ sym (append_assoc so_far.arrived ((Frame kind, payload) ∷ []) (arrivals most rest)),
      );
      whole = λ rest.
          ap (arrivals no_limit) (append_assoc group (frame kind payload) rest) ∙ so_far.whole (frame kind payload ++ rest)
          ∙ ap (λ (l : List (Arrival × List ℕ)). so_far.arrived ++ l) (sent_arrives no_limit kind payload (omega (arith, fits)) (omega arith) rest (λ e. absurd (cc)))
          ∙ sym (append_assoc so_far.arrived ((Frame kind, payload) ∷ []) (arrivals no_limit rest));
    }

    -- no byte more
    pub no_request : Consumes b c [] → ReadsGroup most a c group
    no_request nothing =
        let none : so_far.read.0 ++ [] ≡ so_far.read.0 = append-nil so_far.read.0 in
        record {
          arrived = so_far.arrived;
          read = (so_far.read.0, subst (λ (l : List ℕ). Consumes a c l) none (Consumes-trans a b c so_far.read.0 [] so_far.read.1 nothing), so_far.read.2);
          whole = so_far.whole;
        }

  -- the requests in a group are those that arrived
  pub group_has : (a b : Option (List ℕ)) (group : List ℕ) (so_far : ReadsGroup most a b group) → requests group ≡ so_far.arrived
  group_has a b group so_far =
      ap (arrivals no_limit) (sym (append-nil group)) ∙ so_far.whole [] ∙ ap (λ (l : List (Arrival × List ℕ)). so_far.arrived ++ l) (nothing_arrives no_limit)
      ∙ append-nil so_far.arrived

  pub group_arrives : (a b : Option (List ℕ)) (group : List ℕ) → ReadsGroup most a b group → Arrive most a b (requests group)
  group_arrives a b group so_far = subst (λ (l : List (Arrival × List ℕ)). Arrive most a b l) (sym (group_has a b group so_far)) so_far.read

-- ---- inputs

-- bytes that a reader may have left
left_of : (known : Option (List ℕ)) → (input : List ℕ) × IsInputOf known input × (IsAtEnd known → input ≡ [])
left_of None = ([], tt, λ _. refl)
left_of (Some bytes) = (bytes, refl, λ end. end)

input_whole : (a b : Option (List ℕ)) (read input : List ℕ) → Consumes a b read → IsInputOf b input → IsInputOf a (read ++ input)
input_whole None b read input given is = tt
input_whole (Some bytes) None read input given is = absurd given
input_whole (Some bytes) (Some left) read input given is = given ∙ ap (λ (l : List ℕ). read ++ l) is

module _ (most : ℕ) where
  -- nothing arrived so far
  pub none_arrived : (a : Option (List ℕ)) → Arrive most a a []
  none_arrived a = ([], Consumes-nil a, λ rest. refl)

  pub none_is_first : (a : Option (List ℕ)) → AreFirst most a []
  none_is_first a = let left = left_of a in (left.0, left.1, (arrivals most left.0, refl))

  pub none_are_all : (a : Option (List ℕ)) → IsAtEnd a → AreAll most a []
  none_are_all a end = let left = left_of a in (left.0, left.1, ap (arrivals most) (left.2 end) ∙ nothing_arrives most)

  -- of what arrived first, only a part has a reply
  pub split_first : (a : Option (List ℕ)) (arrived other : List (Arrival × List ℕ)) → other ≡ arrived → AreFirst most a arrived → AreFirst most a other
  split_first a arrived other same first = subst (λ (l : List (Arrival × List ℕ)). AreFirst most a l) (sym same) first

  module _ (a b : Option (List ℕ)) (done : List (Arrival × List ℕ)) (so_far : Arrive most a b done) where
    pub more_arrive : (c : Option (List ℕ)) (more : List (Arrival × List ℕ)) → Arrive most b c more → Arrive most a c (done ++ more)
    more_arrive c more next = (
      so_far.0 ++ next.0,
      Consumes-trans a b c so_far.0 next.0 so_far.1 next.1,
      λ rest.
          ap (arrivals most) (append_assoc so_far.0 next.0 rest) ∙ so_far.2 (next.0 ++ rest) ∙ ap (λ (l : List (Arrival × List ℕ)). done ++ l) (next.2 rest)
          ∙ sym (append_assoc done more (arrivals most rest)),
    )

    pub with_all : (more : List (Arrival × List ℕ)) → AreAll most b more → AreAll most a (done ++ more)
    with_all more all = (
      so_far.0 ++ all.0,
      input_whole a b so_far.0 all.0 so_far.1 all.1,
      so_far.2 all.0 ∙ ap (λ (l : List (Arrival × List ℕ)). done ++ l) all.2,
    )

    pub with_first : (more : List (Arrival × List ℕ)) → AreFirst most b more → AreFirst most a (done ++ more)
    with_first more first = (
      so_far.0 ++ first.0,
      input_whole a b so_far.0 first.0 so_far.1 first.1,
      (first.2.0, so_far.2 first.0 ∙ ap (λ (l : List (Arrival × List ℕ)). done ++ l) first.2.1 ∙ sym (append_assoc done more first.2.0)),
    )

    pub are_first : AreFirst most a done
    are_first = subst (λ (l : List (Arrival × List ℕ)). AreFirst most a l) (append-nil done) (with_first [] (none_is_first b))

  -- one arrival
  module _ (a b : Option (List ℕ)) (arrival : Arrival) (payload : List ℕ) (next : Reads most a b arrival payload) where
    -- more may arrive after it
    pub one_arrives : (IsLast arrival → ⊥) → Arrive most a b ((arrival, payload) ∷ [])
    one_arrives not_last = (
      next.0,
      next.1,
      λ rest. next.2 rest (λ cut. absurd (not_last (subst IsLast (sym cut) tt))) ∙ ap (λ (l : List ℕ). (arrival, payload) ∷ arrivals most l) (follows arrival not_last rest),
    )
      where
        follows : (a : Arrival) → (IsLast a → ⊥) → (rest : List ℕ) → following a rest ≡ rest
        follows (Frame kind) more rest = refl
        follows TooLong more rest = refl
        follows NoFrame more rest = absurd (more tt)
        follows CutOff more rest = refl

    -- nothing arrives after it
    pub one_is_all : IsLast arrival → AreAll most a ((arrival, payload) ∷ [])
    one_is_all is_last =
        let left = left_of b in
        let ends = λ (cut : arrival ≡ CutOff). left.2 (next.3 cut) in (
          next.0 ++ left.0,
          input_whole a b next.0 left.0 next.1 left.1,
          next.2 left.0 ends ∙ ap (λ (l : List ℕ). (arrival, payload) ∷ arrivals most l) (nothing_follows arrival is_last left.0 ends)
              ∙ ap (λ (l : List (Arrival × List ℕ)). (arrival, payload) ∷ l) (nothing_arrives most),
        )
      where
        nothing_follows : (a : Arrival) → IsLast a → (rest : List ℕ) → (a ≡ CutOff → rest ≡ []) → following a rest ≡ []
        nothing_follows (Frame kind) is_last rest ends = absurd is_last
        nothing_follows TooLong is_last rest ends = absurd is_last
        nothing_follows NoFrame is_last rest ends = refl
        nothing_follows CutOff is_last rest ends = ends refl

    -- the test is whether nothing arrives after it
    pub continue_after : (test : Bool) → (test ≡ true → IsLast arrival) → (test ≡ false → IsLast arrival → ⊥) → Continue (not test) most a b ((arrival, payload) ∷ [])
    continue_after true last more = one_is_all (last refl)
    continue_after false last more = one_arrives (more refl)

    pub one_is_first : AreFirst most a ((arrival, payload) ∷ [])
    one_is_first =
        let left = left_of b in (
          next.0 ++ left.0,
          input_whole a b next.0 left.0 next.1 left.1,
          (arrivals most (following arrival left.0), next.2 left.0 (λ cut. left.2 (next.3 cut))),
        )

-- ---- a group and what follows it

module _ (most : ℕ) (a b : Option (List ℕ)) (group : List ℕ) where
  -- the input ends
  pub up_to_end : (c : Option (List ℕ)) → ReadsGroup most a b group → Consumes b c [] → IsAtEnd c → ReadsUpTo most a c group End
  up_to_end c so_far nothing end = (c, no_request most a b c group so_far nothing, tt, none_are_all most c end)

  -- more can be read
  pub up_to_more : ReadsGroup most a b group → ReadsUpTo most a b group More
  up_to_more so_far = (b, so_far, tt, none_arrived most b)

-- ---- frames in bytes

-- a group is whole frames
pub group_joins : (a b : Option (List ℕ)) (group : List ℕ) → ReadsGroup no_limit a b group → AreFrames group
group_joins a b group so_far rest =
    so_far.whole rest ∙ ap (λ (l : List (Arrival × List ℕ)). l ++ requests rest) (sym (group_has no_limit a b group so_far))

-- a group that is all of some bytes has their requests
pub all_of : (bytes group : List ℕ) (b : Option (List ℕ)) (so_far : ReadsGroup no_limit (Some bytes) b group) → AreAll no_limit b [] → requests group ≡ requests bytes
all_of bytes group b so_far none =
    let all = with_all no_limit (Some bytes) b so_far.arrived so_far.read [] none in
    group_has no_limit (Some bytes) b group so_far ∙ sym (append-nil so_far.arrived) ∙ sym all.2 ∙ ap requests (sym all.1)

-- something that is no request is among what arrives
other_among : (done : List (Arrival × List ℕ)) (arrival : Arrival) (payload : List ℕ) (more : List (Arrival × List ℕ)) → IsNoRequest arrival
    → are_requests (done ++ (arrival, payload) ∷ more) ≡ false
other_among [] (Frame kind) payload more other = absurd other
other_among [] TooLong payload more other = refl
other_among [] NoFrame payload more other = refl
other_among [] CutOff payload more other = refl
other_among ((Frame kind, body) ∷ done) arrival payload more other = other_among done arrival payload more other
other_among ((TooLong, body) ∷ done) arrival payload more other = refl
other_among ((NoFrame, body) ∷ done) arrival payload more other = refl
other_among ((CutOff, body) ∷ done) arrival payload more other = refl

-- bytes have something that is no request after a group
pub has_other : (bytes group : List ℕ) (b left : Option (List ℕ)) (so_far : ReadsGroup no_limit (Some bytes) b group) (arrival : Arrival) (payload : List ℕ) → IsNoRequest arrival
    → Reads no_limit b left arrival payload → are_requests (requests bytes) ≡ false
has_other bytes group b left so_far arrival payload other next =
    let first = with_first no_limit (Some bytes) b so_far.arrived so_far.read ((arrival, payload) ∷ []) (one_is_first no_limit b left arrival payload next) in
    ap (λ (l : List ℕ). are_requests (requests l)) first.1 ∙ ap are_requests (first.2.1 ∙ append_assoc so_far.arrived ((arrival, payload) ∷ []) first.2.0)
    ∙ other_among so_far.arrived arrival payload first.2.0 other
