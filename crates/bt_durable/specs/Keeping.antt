-- What a store of a service has answered, and what a crash leaves of it.
use Rattle.std.specs.Prelude.{ℕ, ◌≡◌, ◌⊎◌, ◌++◌, IsTrue, List, Option}
use Rattle.bt_script.specs.Streams.{Took, TookPrefix}
use Rattle.bt_script.specs.declared.counted.Counted.{Counted}
use Rattle.bt_frame.specs.Services.{after_arrivals, answers}
use Rattle.bt_frame.specs.declared.arrival.Arrival.{Arrival}
use Rattle.bt_journal.specs.Disks.{LeavesOnly}
use Rattle.bt_journal.specs.Files.{IsForged}
use Rattle.bt_journal.specs.Stores.{Finds, StoreValue, after_all, disk_of, head_in, is_open, state_in}
use Rattle.bt_journal.specs.declared.head.Head.{Head}
use Rattle.bt_durable.specs.Payloads.{after_payload, requests}

module _ {S : Type 0} (after : S → Arrival → List ℕ → S) (reply : S → Arrival → List ℕ → ℕ × List ℕ) (blank : S) where
  -- opening a file with this head finds this service
  abbrev pub FindsService : Head → S → List ℕ → Type 0
  FindsService head service file = Finds (after_payload after reply) blank head service file

  -- a forgery of the frame of the requests that are next, in a file of this service
  abbrev pub IsNextForged : Head → S → List (Arrival × List ℕ) → List ℕ → Type 0
  IsNextForged head service rest file =
      (payload : List ℕ) × (more : List (Arrival × List ℕ)) × (logged : List (List ℕ)) × (rest ≡ requests payload ++ more)
      × (after_all (after_payload after reply) blank logged ≡ service) × IsForged head logged payload file

  -- opening a file finds the service after some of what arrived, in order, none skipped and none in part, unless there is a forgery of what is next
  abbrev pub StandsForFirst : Head → S → List (Arrival × List ℕ) → List ℕ → Type 0
  StandsForFirst head service arrived file =
      (done : List (Arrival × List ℕ)) × (rest : List (Arrival × List ℕ)) × (done ++ rest ≡ arrived)
      × (FindsService head (after_arrivals after reply service done) file ⊎ IsNextForged head (after_arrivals after reply service done) rest file)

  module _
      {D W : Type 0} (moment : D → ℕ) (outcome : D → List ℕ → Type 0) (outcome_since : D → ℕ → List ℕ → Type 0) (contents : W → Option (List ℕ))
      (old new : StoreValue D S) (output written : Counted W) where
    -- What arrived is answered: the output took the replies and nothing else, the service is the one after all of it, and a crash at any moment left a file of the
    -- service after some of it.
    pub record HasReplied (arrived : List (Arrival × List ℕ)) : Type 0 where
      pub opened : IsTrue (is_open new)
      pub head : head_in new ≡ head_in old
      pub state : state_in new ≡ after_arrivals after reply (state_in old) arrived
      pub took : Took contents output written (answers after reply (state_in old) arrived)
      pub any_moment : LeavesOnly moment outcome_since (disk_of old) (disk_of new) (StandsForFirst (head_in old) (state_in old) arrived)

    -- A run that ended early. No byte was written but of the replies to what arrived first, and a crash leaves a file that has all of that: opening it finds the
    -- service after what is answered, or after some more of what arrived.
    pub record HasStopped (answered pending : List (Arrival × List ℕ)) : Type 0 where
      pub took : TookPrefix contents output written (answers after reply (state_in old) answered)
      pub kept : (file : List ℕ) → outcome (disk_of new) file → StandsForFirst (head_in old) (after_arrivals after reply (state_in old) answered) pending file
      pub any_moment : LeavesOnly moment outcome_since (disk_of old) (disk_of new) (StandsForFirst (head_in old) (state_in old) (answered ++ pending))
