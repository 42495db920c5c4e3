-- What a store of a service has answered if the service was compacted at some moments, and what a crash leaves of it.
use Rattle.std.specs.Prelude.{ℕ, ◌≡◌, ◌⊎◌, ◌++◌, IsTrue, List, [], ◌∷◌, Option}
use Rattle.bt_script.specs.Streams.{Took, TookPrefix}
use Rattle.bt_script.specs.declared.counted.Counted.{Counted}
use Rattle.bt_frame.specs.Services.{after_arrivals, answers}
use Rattle.bt_frame.specs.declared.arrival.Arrival.{Arrival}
use Rattle.bt_journal.specs.Disks.{LeavesOnly}
use Rattle.bt_journal.specs.Heads.{IsAlike}
use Rattle.bt_journal.specs.Stores.{StoreValue, disk_of, head_in, is_open, state_in}
use Rattle.bt_journal.specs.declared.head.Head.{Head}
use Rattle.bt_durable.specs.Keeping.{FindsService, IsNextForged}

-- what arrived one after the other, and what the service was compacted to after it
abbrev pub Part : Type 0 → Type 0
Part S = List (Arrival × List ℕ) × S

module _ {S : Type 0} (after : S → Arrival → List ℕ → S) (reply : S → Arrival → List ℕ → ℕ × List ℕ) (blank : S) (is_compacted : S → S → Type 0) where
  -- the service after these parts
  abbrev pub after_parts : S → List (Part S) → S
  after_parts service [] = service
  after_parts service (part ∷ parts) = after_parts part.1 parts

  -- each is what the service after its part is compacted to
  abbrev pub AreCompacted : S → List (Part S) → Type 0
  AreCompacted service [] = Unit {0}
  AreCompacted service (part ∷ parts) = is_compacted (after_arrivals after reply service part.0) part.1 × AreCompacted part.1 parts

  -- all that arrived in parts
  abbrev pub arrived_in : List (Part S) → List (Arrival × List ℕ)
  arrived_in [] = []
  arrived_in (part ∷ parts) = part.0 ++ arrived_in parts

  -- the replies to it
  abbrev pub answers_in : S → List (Part S) → List ℕ
  answers_in service [] = []
  answers_in service (part ∷ parts) = answers after reply service part.0 ++ answers_in part.1 parts

  -- All of this arrived at a service, which was compacted at some moments between arrivals. These are the service after it, and the replies.
  pub record Reaches (service : S) (arrived : List (Arrival × List ℕ)) (reached : S) (replies : List ℕ) : Type 0 where
    pub parts : List (Part S)
    pub last : List (Arrival × List ℕ)
    pub compacted : AreCompacted service parts
    pub all : arrived_in parts ++ last ≡ arrived
    pub service_is : after_arrivals after reply (after_parts service parts) last ≡ reached
    pub replies_are : answers_in service parts ++ answers after reply (after_parts service parts) last ≡ replies

  -- Opening a file finds the service after some of what arrived, in order, none skipped and none in part, and compacted at some moments, unless there is a forgery of what
  -- is next.
  pub record StandsForSome (head : Head) (service : S) (arrived : List (Arrival × List ℕ)) (file : List ℕ) : Type 0 where
    pub now : Head
    pub alike : IsAlike head now
    pub done : List (Arrival × List ℕ)
    pub rest : List (Arrival × List ℕ)
    pub parted : done ++ rest ≡ arrived
    pub reached : S
    pub replies : List ℕ
    pub reaches : Reaches service done reached replies
    pub stands : FindsService after reply blank now reached file ⊎ IsNextForged after reply blank now reached rest file

  module _
      {D W : Type 0} (moment : D → ℕ) (outcome : D → List ℕ → Type 0) (outcome_since : D → ℕ → List ℕ → Type 0) (contents : W → Option (List ℕ))
      (old new : StoreValue D S) (output written : Counted W) where
    -- What arrived is answered: the output took the replies and nothing else, and a crash at any moment left a file of the service after some of it.
    pub record HasServed (arrived : List (Arrival × List ℕ)) : Type 0 where
      pub opened : IsTrue (is_open new)
      pub alike : IsAlike (head_in old) (head_in new)
      pub replies : List ℕ
      pub reaches : Reaches (state_in old) arrived (state_in new) replies
      pub took : Took contents output written replies
      pub any_moment : LeavesOnly moment outcome_since (disk_of old) (disk_of new) (StandsForSome (head_in old) (state_in old) arrived)

    -- A run that ended early. No byte was written but of the replies to what arrived first, and a crash leaves a file that has all of that.
    pub record HasEnded (answered pending : List (Arrival × List ℕ)) : Type 0 where
      pub reached : S
      pub replies : List ℕ
      pub reaches : Reaches (state_in old) answered reached replies
      pub took : TookPrefix contents output written replies
      pub kept : (file : List ℕ) → outcome (disk_of new) file → StandsForSome (head_in old) reached pending file
      pub any_moment : LeavesOnly moment outcome_since (disk_of old) (disk_of new) (StandsForSome (head_in old) (state_in old) (answered ++ pending))
