-- What a service writes for what arrives.
use Rattle.std.specs.Prelude.{ℕ, ◌≡◌, ◌<◌, ◌≤◌, ◌-◌, ◌^◌, ◌++◌, ◌||◌, Bool, false, List, [], ◌∷◌, length, take, Option, IfSome}
use Rattle.bt_script.specs.Streams.{Took, TookPrefix}
use Rattle.bt_script.specs.declared.counted.Counted.{Counted}
use Rattle.bt_frame.specs.Frames.{arrivals, frame}
use Rattle.bt_frame.specs.Receipts.{Receives, ReceivesNothing}
use Rattle.bt_frame.specs.declared.arrival.Arrival.{Arrival}
use Rattle.bt_frame.specs.declared.arrival.Arrival.TheVariants.{CutOff, Frame, NoFrame}
use Rattle.bt_frame.specs.declared.service.Next.{Next}
use Rattle.bt_frame.specs.declared.service.Next.TheVariants.{End, Last, More}

-- bytes that a reader may have had: its bytes, if they are known
abbrev pub IsInputOf : Option (List ℕ) → List ℕ → Type 0
IsInputOf known input = IfSome known (λ bytes. bytes ≡ input)

-- an input has more arrivals than are counted
abbrev pub HasTooMany : ℕ → Option (List ℕ) → Type 0
HasTooMany most known = (input : List ℕ) × IsInputOf known input × (2 ^ 64 - 1 ≤ length (arrivals most input))

-- after this arrival no other can be found
abbrev pub IsLast : Arrival → Type 0
IsLast NoFrame = Unit {0}
IsLast CutOff = Unit {0}
IsLast other = ⊥

-- whether more may arrive
abbrev pub IsNext : Arrival → Next → Type 0
IsNext arrival (More changes) = IsLast arrival → ⊥
IsNext arrival (Last changes) = IsLast arrival
IsNext arrival End = ⊥

-- what follows an exchange has this test
abbrev pub HasTest : Next → Bool → Type 0
HasTest (More is) test = is ≡ test
HasTest (Last is) test = is ≡ test
HasTest End test = ⊥

-- what arrived is no request
abbrev pub IsNoRequest : Arrival → Type 0
IsNoRequest (Frame kind) = ⊥
IsNoRequest other = Unit {0}

-- the kind of a request that restores a service
abbrev pub restore_kind : ℕ
restore_kind = 14

-- bytes with one more frame, of a request that leads from one state to another and restores it
abbrev pub AddsRestore : {S : Type 0} → (S → Arrival → List ℕ → S) → S → List ℕ → List ℕ → S → Type 0
AddsRestore after blank bytes all restored =
    (payload : List ℕ) × (all ≡ bytes ++ frame restore_kind payload) × (length payload < 2 ^ 64) × (after blank (Frame restore_kind) payload ≡ restored)

-- a service: what it is after something arrived with a payload, and the kind and the payload of its reply
module _ {S : Type 0} (after : S → Arrival → List ℕ → S) (reply : S → Arrival → List ℕ → ℕ × List ℕ) where
  -- the frame of its reply
  abbrev pub reply_frame : S → Arrival × List ℕ → List ℕ
  reply_frame service arrived = frame (reply service arrived.0 arrived.1).0 (reply service arrived.0 arrived.1).1

  -- the replies to arrivals one after the other
  unfoldable pub answers : S → List (Arrival × List ℕ) → List ℕ
  answers service [] = []
  answers service (arrived ∷ more) = reply_frame service arrived ++ answers (after service arrived.0 arrived.1) more

  -- the service after them
  unfoldable pub after_arrivals : S → List (Arrival × List ℕ) → S
  after_arrivals service [] = service
  after_arrivals service (arrived ∷ more) = after_arrivals (after service arrived.0 arrived.1) more

  -- whether one of them may change it
  unfoldable pub any_changes : (S → Arrival → List ℕ → Bool) → S → List (Arrival × List ℕ) → Bool
  any_changes changes service [] = false
  any_changes changes service (arrived ∷ more) = changes service arrived.0 arrived.1 || any_changes changes (after service arrived.0 arrived.1) more

  -- what it writes for an input, in which a payload has at most a number of bytes
  abbrev pub served : ℕ → S → List ℕ → List ℕ
  served most service input = answers service (arrivals most input)

  module _ {W : Type 0} (contents : W → Option (List ℕ)) (most : ℕ) (begin : S) (known : Option (List ℕ)) (old new : Counted W) where
    -- a writer took all replies to an input
    abbrev pub WritesAnswers : Type 0
    WritesAnswers = (input : List ℕ) × IsInputOf known input × Took contents old new (served most begin input)

    -- a prefix of them
    abbrev pub WritesSomeAnswers : Type 0
    WritesSomeAnswers = (input : List ℕ) × IsInputOf known input × TookPrefix contents old new (served most begin input)

    -- the whole replies to the first arrivals
    abbrev pub WritesWholeAnswers : Type 0
    WritesWholeAnswers = (input : List ℕ) × IsInputOf known input × ((n : ℕ) × Took contents old new (answers begin (take n (arrivals most input))))

    -- A writer took all replies to an input, and this is the service after all that arrived. The test is whether any of it may have changed the service.
    abbrev pub ServesAll : (S → Arrival → List ℕ → Bool) → S → Bool → Type 0
    ServesAll changes now test =
        (input : List ℕ) × IsInputOf known input × Took contents old new (served most begin input)
        × (now ≡ after_arrivals begin (arrivals most input)) × (test ≡ any_changes changes begin (arrivals most input))

  module _ {R W : Type 0} (remaining : R → Option (List ℕ)) (contents : W → Option (List ℕ)) (most : ℕ) (reader read : Counted R) (writer written : Counted W) (before : S) where
    -- what arrived has its reply
    abbrev pub Exchanged : (S → Arrival → List ℕ → Bool) → S → Next → Bool → Type 0
    Exchanged changes now next test =
        (arrival : Arrival) × (payload : List ℕ) × IsNext arrival next × Receives remaining reader read most arrival payload
        × (now ≡ after before arrival payload) × Took contents writer written (reply_frame before (arrival, payload)) × (test ≡ changes before arrival payload)

    -- one exchange, or the end
    abbrev pub Exchanges : (S → Arrival → List ℕ → Bool) → S → Next → Type 0
    Exchanges changes now End = ReceivesNothing remaining reader read × (now ≡ before) × (written ≡ writer)
    Exchanges changes now (More test) = Exchanged changes now (More test) test
    Exchanges changes now (Last test) = Exchanged changes now (Last test) test

    -- a part of the reply to what arrived is written
    abbrev pub BreaksOff : Type 0
    BreaksOff =
        (arrival : Arrival) × (payload : List ℕ) × Receives remaining reader read most arrival payload
        × TookPrefix contents writer written (reply_frame before (arrival, payload))
