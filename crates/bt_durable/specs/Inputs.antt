-- What arrives of an input, in terms of the bytes that a reader has before and after some were read of it, if those are known.
use Rattle.std.specs.Prelude.{ℕ, ◌≡◌, ◌++◌, Bool, false, true, List, [], Option, None, Some, IfSome}
use Rattle.std.specs.Io.KnownBytes.{Consumes, IsAtEnd}
use Rattle.bt_frame.specs.Frames.{IsFirstArrival, arrivals}
use Rattle.bt_frame.specs.Services.{IsInputOf, IsNoRequest}
use Rattle.bt_frame.specs.declared.arrival.Arrival.{Arrival}
use Rattle.bt_frame.specs.declared.arrival.Arrival.TheVariants.{CutOff, Frame, NoFrame, TooLong}
use Rattle.bt_durable.specs.Payloads.{no_limit}
use Rattle.bt_durable.specs.declared.groups.Ending.{Ending}
use Rattle.bt_durable.specs.declared.groups.Ending.TheVariants as follows
use Rattle.bt_durable.specs.declared.groups.Received.{Received}
use Rattle.bt_durable.specs.declared.groups.Received.TheVariants.{End, Other, Request}

-- what a reader has begins with these bytes, if it is known
abbrev pub AreAhead : Option (List ℕ) → List ℕ → Type 0
AreAhead known bytes = IfSome known (λ all. (rest : List ℕ) × (all ≡ bytes ++ rest))

-- what was received if this arrived
abbrev pub received_of : Option Arrival → Received
received_of None = End
received_of (Some (Frame kind)) = Request kind
received_of (Some TooLong) = Other TooLong
received_of (Some NoFrame) = Other NoFrame
received_of (Some CutOff) = Other CutOff

module _ (most : ℕ) (known left : Option (List ℕ)) where
  -- the bytes of what arrives first were read; nothing is left if the input ends within a frame
  abbrev pub Reads : Arrival → List ℕ → Type 0
  Reads arrival payload = (read : List ℕ) × Consumes known left read × IsFirstArrival most read arrival payload × (arrival ≡ CutOff → IsAtEnd left)

  -- what was received, with its payload; nothing if the input is at its end
  abbrev pub ReadsNext : List ℕ → Received → Type 0
  ReadsNext payload (Request kind) = Reads (Frame kind) payload
  ReadsNext payload (Other arrival) = IsNoRequest arrival × Reads arrival payload
  ReadsNext payload End = Consumes known left [] × IsAtEnd left

  -- these arrived, and what is left arrives next
  abbrev pub Arrive : List (Arrival × List ℕ) → Type 0
  Arrive arrived = (read : List ℕ) × Consumes known left read × ((rest : List ℕ) → arrivals most (read ++ rest) ≡ arrived ++ arrivals most rest)

  -- frames were read that are a group
  pub record ReadsGroup (group : List ℕ) : Type 0 where
    pub arrived : List (Arrival × List ℕ)
    pub read : Arrive arrived
    pub whole : (rest : List ℕ) → arrivals no_limit (group ++ rest) ≡ arrived ++ arrivals no_limit rest

-- these are all that arrives of an input, whose bytes a reader had if they are known
abbrev pub AreAll : ℕ → Option (List ℕ) → List (Arrival × List ℕ) → Type 0
AreAll most known arrived = (input : List ℕ) × IsInputOf known input × (arrivals most input ≡ arrived)

-- these are the first that arrive of an input
abbrev pub AreFirst : ℕ → Option (List ℕ) → List (Arrival × List ℕ) → Type 0
AreFirst most known arrived = (input : List ℕ) × IsInputOf known input × ((rest : List (Arrival × List ℕ)) × (arrivals most input ≡ arrived ++ rest))

-- these arrived, and more may arrive or nothing
abbrev pub Continue : Bool → ℕ → Option (List ℕ) → Option (List ℕ) → List (Arrival × List ℕ) → Type 0
Continue true most known left arrived = Arrive most known left arrived
Continue false most known left arrived = AreAll most known arrived

-- what follows a group may be refused
abbrev pub IsAfterGroup : Ending → Type 0
IsAfterGroup follows.More = Unit {0}
IsAfterGroup follows.End = Unit {0}
IsAfterGroup (follows.Other arrival) = IsNoRequest arrival

-- what follows a group was read
abbrev pub ReadsEnding : ℕ → Option (List ℕ) → Option (List ℕ) → Ending → Type 0
ReadsEnding most known left follows.More = Arrive most known left []
ReadsEnding most known left follows.End = AreAll most known []
ReadsEnding most known left (follows.Other arrival) = (payload : List ℕ) × Reads most known left arrival payload

-- a group was read, and what follows it
abbrev pub ReadsUpTo : ℕ → Option (List ℕ) → Option (List ℕ) → List ℕ → Ending → Type 0
ReadsUpTo most known left group ending = (mid : Option (List ℕ)) × ReadsGroup most known mid group × IsAfterGroup ending × ReadsEnding most mid left ending
