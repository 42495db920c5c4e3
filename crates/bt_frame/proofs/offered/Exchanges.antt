-- The exchanges of a service one after the other. Serves the loop over them.
use Rattle.std.proofs.Common.{ℕ, ◌≡◌, ◌≤◌, ◌-◌, ◌+◌, ◌^◌, ◌∙◌, Bool, true, false, List, [], ◌∷◌, ◌++◌, Option, None, Some, length, take}
use Rattle.std.proofs.Common.{refl, sym, ap, subst, append_assoc, append-nil, arith, length-append}
use Rattle.std.proofs.KnownBytes.{Consumes-nil}
use Rattle.std.proofs.lemmas.List.{take_at}
use Rattle.std.specs.Prelude.{◌||◌}
use Rattle.std.specs.Io.KnownBytes.{Consumes, IsAtEnd}
use Rattle.bt_script.specs.Streams.{Gave, Took, TookPrefix, count_of, source_of}
use Rattle.bt_script.specs.declared.counted.Counted.{Counted}
use Rattle.bt_script.proofs.offered.Streams.{Gave-trans, Took-trans, prefix-done, prefix-more}
use Rattle.bt_script.specs.declared.streams.RunFault.{RunFault}
use Rattle.bt_script.specs.declared.streams.RunFault.TheVariants.{OutOfMemory, Read, Write}
use Rattle.bt_frame.specs.Frames.{arrivals, following}
use Rattle.bt_frame.specs.Receipts.{Receives, ReceivesNothing}
use Rattle.bt_frame.specs.declared.arrival.Arrival.{Arrival}
use Rattle.bt_frame.specs.declared.arrival.Arrival.TheVariants.{CutOff, Frame, NoFrame, TooLong}
use Rattle.bt_frame.proofs.offered.Arrivals.{nothing_arrives}
use Rattle.bt_frame.specs.Services.{BreaksOff, HasTooMany, IsInputOf, IsLast, ServesAll, WritesSomeAnswers, WritesWholeAnswers, after_arrivals, answers, any_changes, reply_frame, served}

-- ---- what a reader may have had

-- the bytes that a reader gave, and some that follow them: those that it has, if they are known
record Rest (known left : Option (List ℕ)) (read : List ℕ) : Type 0 where
  rest : List ℕ
  whole : IsInputOf known (read ++ rest)
  ends : IsAtEnd left → rest ≡ []

rest_of : (known left : Option (List ℕ)) (read : List ℕ) → Consumes known left read → Rest known left read
rest_of None left read given = record { rest = []; whole = tt; ends = λ _. refl }
rest_of (Some bytes) None read given = absurd given
rest_of (Some bytes) (Some others) read given = record { rest = others; whole = given; ends = λ end. end }

-- a reader gave nothing
pub Gave-nil : {R : Type 0} (remaining : R → Option (List ℕ)) (a : Counted R) → count_of a ≤ 2 ^ 64 - 1 → Gave remaining a a []
Gave-nil remaining a held = (Consumes-nil (remaining (source_of a)), omega (arith, held))

module _ {S : Type 0} (after : S → Arrival → List ℕ → S) (reply : S → Arrival → List ℕ → ℕ × List ℕ) where
  -- ---- replies to arrivals

  pub answers-append : (state : S) (done more : List (Arrival × List ℕ))
      → answers after reply state (done ++ more) ≡ answers after reply state done ++ answers after reply (after_arrivals after reply state done) more
  unfolding answers after_arrivals
  answers-append state [] more = refl
  answers-append state (arrival ∷ done) more =
      ap (λ (l : List ℕ). reply_frame after reply state arrival ++ l) (answers-append (after state arrival.0 arrival.1) done more)
      ∙ sym (append_assoc (reply_frame after reply state arrival) (answers after reply (after state arrival.0 arrival.1) done)
      (answers after reply (after_arrivals after reply (after state arrival.0 arrival.1) done) more))

  pub after-append : (state : S) (done more : List (Arrival × List ℕ)) → after_arrivals after reply state (done ++ more) ≡ after_arrivals after reply (after_arrivals after reply state done) more
  unfolding after_arrivals
  after-append state [] more = refl
  after-append state (arrival ∷ done) more = after-append (after state arrival.0 arrival.1) done more

  answers-next : (state : S) (arrival : Arrival × List ℕ) (more : List (Arrival × List ℕ))
      → answers after reply state (arrival ∷ more) ≡ reply_frame after reply state arrival ++ answers after reply (after state arrival.0 arrival.1) more
  unfolding answers
  answers-next state arrival more = refl

  pub answers-none : (state : S) → answers after reply state [] ≡ []
  unfolding answers
  answers-none state = refl

  pub after-one : (state : S) (arrival : Arrival × List ℕ) → after_arrivals after reply state (arrival ∷ []) ≡ (after state arrival.0 arrival.1)
  unfolding after_arrivals
  after-one state arrival = refl

  pub after-none : (state : S) → after_arrivals after reply state [] ≡ state
  unfolding after_arrivals
  after-none state = refl

  pub answers-one : (state : S) (arrival : Arrival × List ℕ) → answers after reply state (arrival ∷ []) ≡ reply_frame after reply state arrival
  answers-one state arrival =
      answers-next state arrival [] ∙ ap (λ (l : List ℕ). reply_frame after reply state arrival ++ l) (answers-none (after state arrival.0 arrival.1))
      ∙ append-nil (reply_frame after reply state arrival)

  -- ---- whether an arrival may have changed it

  changes-none : (changes : S → Arrival → List ℕ → Bool) (state : S) → any_changes after reply changes state [] ≡ false
  unfolding any_changes
  changes-none changes state = refl

  or-assoc : (a b c : Bool) → (a || b || c) ≡ (a || (b || c))
  or-assoc true b c = refl
  or-assoc false b c = refl

  or-none : (a : Bool) → (a || false) ≡ a
  or-none true = refl
  or-none false = refl

  changes-push : (changes : S → Arrival → List ℕ → Bool) (state : S) (done : List (Arrival × List ℕ)) (arrival : Arrival × List ℕ)
      → any_changes after reply changes state (done ++ arrival ∷ []) ≡ (any_changes after reply changes state done || changes (after_arrivals after reply state done) arrival.0 arrival.1)
  unfolding any_changes after_arrivals
  changes-push changes state [] arrival = or-none (changes state arrival.0 arrival.1)
  changes-push changes state (first ∷ done) arrival =
      let next = after state first.0 first.1 in
      ap (λ (b : Bool). changes state first.0 first.1 || b) (changes-push changes next done arrival)
      ∙ sym (or-assoc (changes state first.0 first.1) (any_changes after reply changes next done) (changes (after_arrivals after reply next done) arrival.0 arrival.1))

  -- What a service has done since the start: some bytes are read, and all that arrived of them has its reply.
  pub record HasServed {R W : Type 0} (remaining : R → Option (List ℕ)) (contents : W → Option (List ℕ)) (most : ℕ) (begin : S) (changes : S → Arrival → List ℕ → Bool)
      (reader read : Counted R) (writer written : Counted W) (now : S) (count : ℕ) (test : Bool) : Type 0 where
    pub bytes : List ℕ
    pub done : List (Arrival × List ℕ)
    pub gave : Gave remaining reader read bytes
    pub arrived : (rest : List ℕ) → arrivals most (bytes ++ rest) ≡ done ++ arrivals most rest
    pub left : now ≡ after_arrivals after reply begin done
    pub took : Took contents writer written (answers after reply begin done)
    pub counted : length done ≡ count
    pub tested : test ≡ any_changes after reply changes begin done

  module _ {R W : Type 0} (remaining : R → Option (List ℕ)) (contents : W → Option (List ℕ)) (most : ℕ) (begin : S) (changes : S → Arrival → List ℕ → Bool)
      (reader : Counted R) (writer : Counted W) where
    abbrev Served : Counted R → Counted W → S → ℕ → Bool → Type 0
    Served read written now count test = HasServed remaining contents most begin changes reader read writer written now count test

    abbrev known : Option (List ℕ)
    known = remaining (source_of reader)

    -- before the first exchange
    pub serving_begins : Gave remaining reader reader [] → Took contents writer writer [] → Served reader writer begin 0 false
    serving_begins nothing unwritten = record {
      bytes = [];
      done = [];
      gave = nothing;
      arrived = λ rest. refl;
      left = sym (after-none begin);
      took = subst (λ (l : List ℕ). Took contents writer writer l) (sym (answers-none begin)) unwritten;
      counted = refl;
      tested = sym (changes-none changes begin);
    }

    -- a fault between two exchanges
    pub stops_between : (read : Counted R) (written : Counted W) (now : S) (count : ℕ) (test : Bool)
        → Served read written now count test → WritesWholeAnswers after reply contents most begin known writer written
    stops_between read written now count test so_far =
        let found = rest_of known (remaining (source_of read)) so_far.bytes so_far.gave.0 in
        let all = arrivals most (so_far.bytes ++ found.rest) in
        let first : take (length so_far.done) all ≡ so_far.done = ap (take (length so_far.done)) (so_far.arrived found.rest)
        ∙ take_at so_far.done (arrivals most found.rest) (length so_far.done) refl in
        (so_far.bytes ++ found.rest, found.whole, (length so_far.done, subst (λ (l : List (Arrival × List ℕ)). Took contents writer written (answers after reply begin l)) (sym first) so_far.took))

    pub stops_with_prefix : (read : Counted R) (written : Counted W) (now : S) (count : ℕ) (test : Bool)
        → Served read written now count test → WritesSomeAnswers after reply contents most begin known writer written
    stops_with_prefix read written now count test so_far =
        let found = rest_of known (remaining (source_of read)) so_far.bytes so_far.gave.0 in
        let whole : served after reply most begin (so_far.bytes ++ found.rest)
        ≡ answers after reply begin so_far.done ++ answers after reply (after_arrivals after reply begin so_far.done) (arrivals most found.rest) =
        ap (answers after reply begin) (so_far.arrived found.rest) ∙ answers-append begin so_far.done (arrivals most found.rest) in (
          so_far.bytes ++ found.rest,
          found.whole,
          prefix-done contents writer written (served after reply most begin (so_far.bytes ++ found.rest)) (answers after reply begin so_far.done)
              (answers after reply (after_arrivals after reply begin so_far.done) (arrivals most found.rest)) so_far.took whole,
        )

    -- more arrivals than are counted
    pub stops_at_most : (read : Counted R) (written : Counted W) (now : S) (count : ℕ) (test : Bool) → Served read written now count test → 2 ^ 64 - 1 ≤ count → HasTooMany most known
    stops_at_most read written now count test so_far many =
        let found = rest_of known (remaining (source_of read)) so_far.bytes so_far.gave.0 in
        let long = ap length (so_far.arrived found.rest) ∙ length-append so_far.done (arrivals most found.rest) in
        let counted = so_far.counted in
        (so_far.bytes ++ found.rest, found.whole, omega (arith, long, counted, many))

    -- the input is at its end
    pub serving_ends : (mid read : Counted R) (written answered : Counted W) (now left : S) (count : ℕ) (test : Bool) → Served mid written now count test → ReceivesNothing remaining mid read
        → left ≡ now → answered ≡ written → ServesAll after reply contents most begin known writer answered changes left test
    serving_ends mid read written answered now left count test so_far nothing unchanged same =
        let gave = Gave-trans remaining reader mid read so_far.bytes [] so_far.gave nothing.0 in
        let found = rest_of known (remaining (source_of read)) (so_far.bytes ++ []) gave.0 in
        let none : found.rest ≡ [] = found.ends nothing.1 in
        let all : (so_far.bytes ++ []) ++ found.rest ≡ so_far.bytes ++ [] = ap (λ (l : List ℕ). (so_far.bytes ++ []) ++ l) none ∙ append-nil (so_far.bytes ++ []) in
        let arrived : arrivals most ((so_far.bytes ++ []) ++ found.rest) ≡ so_far.done =
        ap (arrivals most) all ∙ so_far.arrived [] ∙ ap (λ (l : List (Arrival × List ℕ)). so_far.done ++ l) (nothing_arrives most) ∙ append-nil so_far.done in
        let took : Took contents writer answered (answers after reply begin so_far.done) =
        subst (λ (w : Counted W). Took contents writer w (answers after reply begin so_far.done)) (sym same) so_far.took in (
          (so_far.bytes ++ []) ++ found.rest,
          found.whole,
          subst (λ (l : List (Arrival × List ℕ)). Took contents writer answered (answers after reply begin l)) (sym arrived) took,
          unchanged ∙ so_far.left ∙ ap (after_arrivals after reply begin) (sym arrived),
          so_far.tested ∙ ap (any_changes after reply changes begin) (sym arrived),
        )

    -- one more arrival, in terms of those so far
    module _ (mid read : Counted R) (written : Counted W) (now : S) (count : ℕ) (test : Bool) (so_far : Served mid written now count test) (arrival : Arrival) (payload : List ℕ)
        (received : Receives remaining mid read most arrival payload) where
      abbrev bytes : List ℕ
      bytes = so_far.bytes ++ received.0

      gave : Gave remaining reader read bytes
      gave = Gave-trans remaining reader mid read so_far.bytes received.0 so_far.gave received.1

      arrived : (rest : List ℕ) → (arrival ≡ CutOff → rest ≡ []) → arrivals most (bytes ++ rest) ≡ so_far.done ++ (arrival, payload) ∷ arrivals most (following arrival rest)
      arrived rest ends =
          ap (arrivals most) (append_assoc so_far.bytes received.0 rest) ∙ so_far.arrived (received.0 ++ rest)
          ∙ ap (λ (l : List (Arrival × List ℕ)). so_far.done ++ l) (received.2 rest ends)

      -- the reply to it
      replied : now ≡ after_arrivals after reply begin so_far.done → (more : List (Arrival × List ℕ))
          → answers after reply begin (so_far.done ++ (arrival, payload) ∷ more)
          ≡ answers after reply begin so_far.done ++ (reply_frame after reply now (arrival, payload) ++ answers after reply (after now arrival payload) more)
      replied is more =
          answers-append begin so_far.done ((arrival, payload) ∷ more)
          ∙ ap (λ (state : S). answers after reply begin so_far.done ++ answers after reply state ((arrival, payload) ∷ more)) (sym is)
          ∙ ap (λ (l : List ℕ). answers after reply begin so_far.done ++ l) (answers-next now (arrival, payload) more)

      -- an input that has it
      found : Rest known (remaining (source_of read)) bytes
      found = rest_of known (remaining (source_of read)) bytes gave.0

      input_has : arrivals most (bytes ++ found.rest) ≡ so_far.done ++ (arrival, payload) ∷ arrivals most (following arrival found.rest)
      input_has = arrived found.rest (λ cut. found.ends (received.3 cut))

      -- a part of its reply is written
      pub serving_breaks : (broken : Counted W) → TookPrefix contents written broken (reply_frame after reply now (arrival, payload))
          → WritesSomeAnswers after reply contents most begin known writer broken
      serving_breaks broken prefix =
          let more = arrivals most (following arrival found.rest) in (
            bytes ++ found.rest,
            found.whole,
            prefix-more contents writer written broken (served after reply most begin (bytes ++ found.rest)) (answers after reply begin so_far.done) (reply_frame after reply now (arrival, payload))
                (answers after reply (after now arrival payload) more) so_far.took (ap (answers after reply begin) input_has ∙ replied so_far.left more) prefix,
          )

      module _ (later : S) (answered : Counted W) (is_change : Bool) (later_test : Bool) (joined : later_test ≡ (test || is_change)) (left : later ≡ after now arrival payload)
          (took : Took contents written answered (reply_frame after reply now (arrival, payload))) (tested : is_change ≡ changes now arrival payload) where
        left_all : later ≡ after_arrivals after reply begin (so_far.done ++ (arrival, payload) ∷ [])
        left_all = left ∙ ap (λ (state : S). after state arrival payload) so_far.left
            ∙ sym (after-append begin so_far.done ((arrival, payload) ∷ []) ∙ after-one (after_arrivals after reply begin so_far.done) (arrival, payload))

        tested_all : later_test ≡ any_changes after reply changes begin (so_far.done ++ (arrival, payload) ∷ [])
        tested_all =
            joined ∙ ap (λ (b : Bool). b || is_change) so_far.tested
            ∙ ap (λ (b : Bool). any_changes after reply changes begin so_far.done || b) (tested ∙ ap (λ (state : S). changes state arrival payload) so_far.left)
            ∙ sym (changes-push changes begin so_far.done (arrival, payload))

        took_all : Took contents writer answered (answers after reply begin (so_far.done ++ (arrival, payload) ∷ []))
        took_all =
            subst (λ (l : List ℕ). Took contents writer answered l)
            (sym (answers-append begin so_far.done ((arrival, payload) ∷ [])
            ∙ ap (λ (state : S). answers after reply begin so_far.done ++ answers after reply state ((arrival, payload) ∷ [])) (sym so_far.left)
            ∙ ap (λ (l : List ℕ). answers after reply begin so_far.done ++ l) (answers-one now (arrival, payload))))
            (Took-trans contents writer written answered (answers after reply begin so_far.done) (reply_frame after reply now (arrival, payload)) so_far.took took)

        -- more may arrive after it
        pub serving_goes_on : (IsLast arrival → ⊥) → Served read answered later (count + 1) later_test
        serving_goes_on not_last = record {
          bytes = bytes;
          done = so_far.done ++ (arrival, payload) ∷ [];
          gave = gave;
          arrived = λ rest.
              arrived rest (λ cut. absurd (not_last (subst IsLast (sym cut) tt)))
              ∙ ap (λ (l : List ℕ). so_far.done ++ (arrival, payload) ∷ arrivals most l) (follows arrival not_last rest)
              ∙ sym (append_assoc so_far.done ((arrival, payload) ∷ []) (arrivals most rest));
          left = left_all;
          took = took_all;
          counted = let before = so_far.counted in omega (arith, length-append so_far.done ((arrival, payload) ∷ []), before);
          tested = tested_all;
        }
          where
            follows : (a : Arrival) → (IsLast a → ⊥) → (rest : List ℕ) → following a rest ≡ rest
            follows (Frame kind) more rest = refl
            follows TooLong more rest = refl
            follows NoFrame more rest = absurd (more tt)
            follows CutOff more rest = refl

        -- nothing more arrives after it
        pub serving_ends_with : IsLast arrival → ServesAll after reply contents most begin known writer answered changes later later_test
        serving_ends_with is_last =
            let none : following arrival found.rest ≡ [] = nothing_follows arrival is_last found.rest (λ cut. found.ends (received.3 cut)) in
            let all : arrivals most (bytes ++ found.rest) ≡ so_far.done ++ (arrival, payload) ∷ [] =
            input_has ∙ ap (λ (l : List ℕ). so_far.done ++ (arrival, payload) ∷ arrivals most l) none
            ∙ ap (λ (l : List (Arrival × List ℕ)). so_far.done ++ (arrival, payload) ∷ l) (nothing_arrives most) in (
              bytes ++ found.rest,
              found.whole,
              subst (λ (l : List (Arrival × List ℕ)). Took contents writer answered (answers after reply begin l)) (sym all) took_all,
              left_all ∙ ap (after_arrivals after reply begin) (sym all),
              tested_all ∙ ap (any_changes after reply changes begin) (sym all),
            )
          where
            nothing_follows : (a : Arrival) → IsLast a → (rest : List ℕ) → (a ≡ CutOff → rest ≡ []) → following a rest ≡ []
            nothing_follows (Frame kind) is_last rest ends = absurd is_last
            nothing_follows TooLong is_last rest ends = absurd is_last
            nothing_follows NoFrame is_last rest ends = refl
            nothing_follows CutOff is_last rest ends = ends refl

    -- a fault of an exchange leaves a prefix of the replies
    pub breaks_by : (mid read : Counted R) (written broken : Counted W) (now : S) (count : ℕ) (test : Bool) → Served mid written now count test → (fault : RunFault)
        → (fault ≡ Read → broken ≡ written) → (fault ≡ OutOfMemory → broken ≡ written) → (fault ≡ Write → BreaksOff after reply remaining contents most mid read written broken now)
        → WritesSomeAnswers after reply contents most begin known writer broken
    breaks_by mid read written broken now count test so_far Read unread memory write =
        subst (λ (w : Counted W). WritesSomeAnswers after reply contents most begin known writer w) (sym (unread refl)) (stops_with_prefix mid written now count test so_far)
    breaks_by mid read written broken now count test so_far OutOfMemory unread memory write =
        subst (λ (w : Counted W). WritesSomeAnswers after reply contents most begin known writer w) (sym (memory refl)) (stops_with_prefix mid written now count test so_far)
    breaks_by mid read written broken now count test so_far Write unread memory write =
        let part = write refl in
        serving_breaks mid read written now count test so_far part.0 part.1 part.2 broken part.3

    -- between two exchanges, whole replies are written
    pub whole_by : (mid : Counted R) (written broken : Counted W) (now : S) (count : ℕ) (test : Bool) → Served mid written now count test → broken ≡ written
        → WritesWholeAnswers after reply contents most begin known writer broken
    whole_by mid written broken now count test so_far same =
        subst (λ (w : Counted W). WritesWholeAnswers after reply contents most begin known writer w) (sym same) (stops_between mid written now count test so_far)
