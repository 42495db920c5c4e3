-- Replies of a store, part after part, and what a crash leaves.
use Rattle.std.proofs.Common.{◌≡◌, ◌∙◌, ◌≤◌, ◌-◌, ◌^◌, ◌++◌, ◌⊎◌, inl, inr, ⊎_elim, IsTrue, Bool, true, false, ℕ, List, [], ◌∷◌, Option, ap, append-nil, append_assoc, refl, subst, sym}
use Rattle.bt_script.specs.Streams.{Took, TookPrefix, count_of}
use Rattle.bt_script.specs.declared.counted.Counted.{Counted}
use Rattle.bt_script.proofs.offered.Streams.{Took-nil, Took-trans, prefix-more}
use Rattle.bt_frame.specs.Services.{after_arrivals, answers}
use Rattle.bt_frame.specs.declared.arrival.Arrival.{Arrival}
use Rattle.bt_frame.proofs.offered.Exchanges.{after-append, after-none, after-one, answers-append, answers-none}
use Rattle.bt_journal.specs.Disks.{LeavesOnly}
use Rattle.bt_journal.specs.Files.{recovered}
use Rattle.bt_journal.specs.Stores.{IsBeforeOrAfterRun, IsKept, StoreValue, disk_of, head_in, is_open, state_in, state_of}
use Rattle.bt_journal.specs.declared.head.Head.{Head}
use Rattle.bt_journal.proofs.offered.Moments.{follows_on, leaves_also, started}
use Rattle.bt_durable.specs.Inputs.{AreAll, AreFirst, Arrive, Continue, ReadsGroup}
use Rattle.bt_durable.specs.Keeping.{FindsService, HasReplied, HasStopped, IsNextForged, StandsForFirst}
use Rattle.bt_durable.specs.Payloads.{after_payload, requests}
use Rattle.bt_durable.proofs.Arriving.{are_first, group_arrives, more_arrive, split_first, with_all, with_first}

module _ {S : Type 0} (after : S → Arrival → List ℕ → S) (reply : S → Arrival → List ℕ → ℕ × List ℕ) (blank : S) where
  -- ---- files

  abbrev First : Head → S → List (Arrival × List ℕ) → List ℕ → Type 0
  First head service arrived file = StandsForFirst after reply blank head service arrived file

  -- a file of the service before anything that arrived
  pub finds_first : (head : Head) (service : S) (arrived : List (Arrival × List ℕ)) (file : List ℕ) → FindsService after reply blank head service file → First head service arrived file
  finds_first head service arrived file found =
      ([], arrived, refl, inl (subst (λ (s : S). FindsService after reply blank head s file) (sym (after-none after reply service)) found))

  -- it is one of more arrivals too
  pub with_more : (head : Head) (service : S) (arrived more : List (Arrival × List ℕ)) (file : List ℕ) → First head service arrived file → First head service (arrived ++ more) file
  with_more head service arrived more file some = (
    some.0,
    some.1 ++ more,
    sym (append_assoc some.0 some.1 more) ∙ ap (λ (l : List (Arrival × List ℕ)). l ++ more) some.2,
    ⊎_elim (λ found. inl found)
        (λ forged. inr (forged.0, forged.1 ++ more, forged.2, ap (λ (l : List (Arrival × List ℕ)). l ++ more) forged.3 ∙ append_assoc (requests forged.0) forged.1 more, forged.4, forged.5)) some.3,
  )

  -- a file of the service after some arrivals, or after more of them
  pub after_some : (head : Head) (service : S) (done more : List (Arrival × List ℕ)) (file : List ℕ) → First head (after_arrivals after reply service done) more file
      → First head service (done ++ more) file
  after_some head service done more file some =
      let same : after_arrivals after reply (after_arrivals after reply service done) some.0 ≡ after_arrivals after reply service (done ++ some.0)
      = sym (after-append after reply service done some.0) in (
        done ++ some.0,
        some.1,
        append_assoc done some.0 some.1 ∙ ap (λ (l : List (Arrival × List ℕ)). done ++ l) some.2,
        subst (λ (s : S). FindsService after reply blank head s file ⊎ IsNextForged after reply blank head s some.1 file) same some.3,
      )

  -- what a crash leaves in the run of a payload
  pub one_payload : (head : Head) (service : S) (old payload file : List ℕ) → state_of (after_payload after reply) blank old ≡ service
      → IsBeforeOrAfterRun (after_payload after reply) blank head old payload file → First head service (requests payload) file
  one_payload head service old payload file is (inl was) = finds_first head service (requests payload) file (subst (λ (s : S). FindsService after reply blank head s file) is was)
  one_payload head service old payload file is (inr (inl now)) = (
    requests payload,
    [],
    append-nil (requests payload),
    inl (subst (λ (s : S). FindsService after reply blank head s file) (ap (λ (s : S). after_payload after reply s payload) is) now),
  )
  one_payload head service old payload file is (inr (inr forged)) = (
    [],
    requests payload,
    refl,
    inr (payload, [], recovered old, sym (append-nil (requests payload)), is ∙ sym (after-none after reply service), forged),
  )

  -- a crash leaves a file of just this service
  pub kept_first : {D : Type 0} (contents : D → List ℕ) (outcome : D → List ℕ → Type 0) (head : Head) (disk : D) (service : S) (arrived : List (Arrival × List ℕ))
      → IsKept contents outcome (after_payload after reply) blank head disk service → (file : List ℕ) → outcome disk file → First head service arrived file
  kept_first contents outcome head disk service arrived kept file left =
      finds_first head service arrived file (subst (λ (f : List ℕ). FindsService after reply blank head service f) (sym (kept.0 file left)) kept.1)

  -- ---- replies

  module _
      {D W : Type 0} (moment : D → ℕ) (outcome : D → List ℕ → Type 0) (outcome_since : D → ℕ → List ℕ → Type 0) (contents : W → Option (List ℕ)) where
    abbrev Replied : StoreValue D S → StoreValue D S → Counted W → Counted W → List (Arrival × List ℕ) → Type 0
    Replied old new output written arrived = HasReplied after reply blank moment outcome outcome_since contents old new output written arrived

    abbrev Stopped : StoreValue D S → StoreValue D S → Counted W → Counted W → List (Arrival × List ℕ) → List (Arrival × List ℕ) → Type 0
    Stopped old new output written answered pending = HasStopped after reply blank moment outcome outcome_since contents old new output written answered pending

    -- ---- a store that stays as it is

    module _ (store : StoreValue D S) (only_now : (file : List ℕ) → outcome_since (disk_of store) (moment (disk_of store)) file → outcome (disk_of store) file)
        (kept : (arrived : List (Arrival × List ℕ)) (file : List ℕ) → outcome (disk_of store) file → First (head_in store) (state_in store) arrived file) where
      stays : (arrived : List (Arrival × List ℕ)) → LeavesOnly moment outcome_since (disk_of store) (disk_of store) (First (head_in store) (state_in store) arrived)
      stays arrived = started moment outcome_since (disk_of store) (First (head_in store) (state_in store) arrived) (λ file left. kept arrived file (only_now file left))

      -- nothing arrived
      pub replied_none : (output : Counted W) → count_of output ≤ 2 ^ 64 - 1 → IsTrue (is_open store) → Replied store store output output []
      replied_none output counted opened = record {
        opened = opened;
        head = refl;
        state = sym (after-none after reply (state_in store));
        took = subst (λ (l : List ℕ). Took contents output output l) (sym (answers-none after reply (state_in store))) (Took-nil contents output counted);
        any_moment = stays [];
      }

      -- it stops, and has no reply to anything that arrived
      pub stopped_none : (output : Counted W) → count_of output ≤ 2 ^ 64 - 1 → (pending : List (Arrival × List ℕ)) → Stopped store store output output [] pending
      stopped_none output counted pending = record {
        took = (0, Took-nil contents output counted);
        kept = λ file left. subst (λ (s : S). First (head_in store) s pending file) (sym (after-none after reply (state_in store))) (kept pending file left);
        any_moment = stays pending;
      }

      -- one arrival that changes nothing
      module _ (arrival : Arrival) (payload : List ℕ) (same : after (state_in store) arrival payload ≡ state_in store) where
        state_same : state_in store ≡ after_arrivals after reply (state_in store) ((arrival, payload) ∷ [])
        state_same = sym (after-one after reply (state_in store) (arrival, payload) ∙ same)

        pub replied_one : (output written : Counted W) → IsTrue (is_open store) → Took contents output written (answers after reply (state_in store) ((arrival, payload) ∷ []))
            → Replied store store output written ((arrival, payload) ∷ [])
        replied_one output written opened took = record { opened = opened; head = refl; state = state_same; took = took; any_moment = stays ((arrival, payload) ∷ []) }

        pub stopped_one : (output written : Counted W) → TookPrefix contents output written (answers after reply (state_in store) ((arrival, payload) ∷ []))
            → Stopped store store output written ((arrival, payload) ∷ []) []
        stopped_one output written took = record {
          took = took;
          kept = λ file left. subst (λ (s : S). First (head_in store) s [] file) state_same (kept [] file left);
          any_moment = stays ((arrival, payload) ∷ []);
        }

    -- ---- one run and then another

    module _ (old mid new : StoreValue D S) (output wrote written : Counted W) (done : List (Arrival × List ℕ)) (first : Replied old mid output wrote done) where
      abbrev reached : S
      reached = after_arrivals after reply (state_in old) done

      -- what was left before, and what is left after it
      moments : (more : List (Arrival × List ℕ)) → LeavesOnly moment outcome_since (disk_of mid) (disk_of new) (First (head_in mid) (state_in mid) more)
          → LeavesOnly moment outcome_since (disk_of old) (disk_of new) (First (head_in old) (state_in old) (done ++ more))
      moments more second =
          let all = First (head_in old) (state_in old) (done ++ more) in
          follows_on moment outcome_since (disk_of old) (disk_of mid) (disk_of new) all
          (leaves_also moment outcome_since (disk_of old) (disk_of mid) (First (head_in old) (state_in old) done) all first.any_moment (with_more (head_in old) (state_in old) done more))
          (leaves_also moment outcome_since (disk_of mid) (disk_of new) (First (head_in mid) (state_in mid) more) all second
          (λ file some. after_some (head_in old) (state_in old) done more file
          (subst (λ (s : S). First (head_in old) s more file) first.state (subst (λ (h : Head). First h (state_in mid) more file) first.head some))))

      answers_both : (more : List (Arrival × List ℕ)) → answers after reply (state_in old) (done ++ more) ≡ answers after reply (state_in old) done ++ answers after reply (state_in mid) more
      answers_both more =
          answers-append after reply (state_in old) done more
          ∙ ap (λ (s : S). answers after reply (state_in old) done ++ answers after reply s more) (sym first.state)

      after_both : (more : List (Arrival × List ℕ)) → after_arrivals after reply (state_in mid) more ≡ after_arrivals after reply (state_in old) (done ++ more)
      after_both more = ap (λ (s : S). after_arrivals after reply s more) first.state ∙ sym (after-append after reply (state_in old) done more)

      pub replied_more : (more : List (Arrival × List ℕ)) → Replied mid new wrote written more → Replied old new output written (done ++ more)
      replied_more more second = record {
        opened = second.opened;
        head = second.head ∙ first.head;
        state = second.state ∙ after_both more;
        took = subst (λ (l : List ℕ). Took contents output written l) (sym (answers_both more))
            (Took-trans contents output wrote written (answers after reply (state_in old) done) (answers after reply (state_in mid) more) first.took second.took);
        any_moment = moments more second.any_moment;
      }

      pub stopped_more : (answered pending : List (Arrival × List ℕ)) → Stopped mid new wrote written answered pending → Stopped old new output written (done ++ answered) pending
      stopped_more answered pending second = record {
        took = prefix-more contents output wrote written (answers after reply (state_in old) (done ++ answered)) (answers after reply (state_in old) done)
            (answers after reply (state_in mid) answered) [] first.took
            (answers_both answered ∙ ap (λ (l : List ℕ). answers after reply (state_in old) done ++ l) (sym (append-nil (answers after reply (state_in mid) answered)))) second.took;
        kept = λ file left.
            subst (λ (s : S). First (head_in old) s pending file) (after_both answered) (subst (λ (h : Head). First h (after_arrivals after reply (state_in mid) answered) pending file) first.head
            (second.kept file left));
        any_moment = subst (λ (l : List (Arrival × List ℕ)). LeavesOnly moment outcome_since (disk_of old) (disk_of new) (First (head_in old) (state_in old) l))
            (sym (append_assoc done answered pending)) (moments (answered ++ pending) second.any_moment);
      }

    -- ---- the run of a payload

    module _ (old new : StoreValue D S) (contents_of : D → List ℕ) (payload : List ℕ)
        (counts_now : (file : List ℕ) → outcome (disk_of new) file → moment (disk_of old) ≤ moment (disk_of new) → outcome_since (disk_of new) (moment (disk_of old)) file)
        (stood : state_of (after_payload after reply) blank (contents_of (disk_of old)) ≡ state_in old)
        (crash : LeavesOnly moment outcome_since (disk_of old) (disk_of new) (IsBeforeOrAfterRun (after_payload after reply) blank (head_in old) (contents_of (disk_of old)) payload)) where
      run_moments : LeavesOnly moment outcome_since (disk_of old) (disk_of new) (First (head_in old) (state_in old) (requests payload))
      run_moments =
          leaves_also moment outcome_since (disk_of old) (disk_of new) (IsBeforeOrAfterRun (after_payload after reply) blank (head_in old) (contents_of (disk_of old)) payload)
          (First (head_in old) (state_in old) (requests payload)) crash (λ file left. one_payload (head_in old) (state_in old) (contents_of (disk_of old)) payload file stood left)

      -- it was not run, or may not be on the disk
      pub run_failed : (output : Counted W) → count_of output ≤ 2 ^ 64 - 1 → Stopped old new output output [] (requests payload)
      run_failed output counted = record {
        took = (0, Took-nil contents output counted);
        kept = λ file left.
            subst (λ (s : S). First (head_in old) s (requests payload) file) (sym (after-none after reply (state_in old)))
            (run_moments.each file (counts_now file left run_moments.later));
        any_moment = run_moments;
      }

      module _ (head : head_in new ≡ head_in old) (state : state_in new ≡ after_payload after reply (state_in old) payload) where
        pub run_replied : (output written : Counted W) → IsTrue (is_open new) → Took contents output written (answers after reply (state_in old) (requests payload))
            → Replied old new output written (requests payload)
        run_replied output written opened took = record { opened = opened; head = head; state = state; took = took; any_moment = run_moments }

        -- a part of the replies was written
        pub run_unwritten : (output written : Counted W) → TookPrefix contents output written (answers after reply (state_in old) (requests payload))
            → IsKept contents_of outcome (after_payload after reply) blank (head_in new) (disk_of new) (state_in new) → Stopped old new output written (requests payload) []
        run_unwritten output written took kept = record {
          took = took;
          kept = λ file left.
              subst (λ (h : Head). First h (after_arrivals after reply (state_in old) (requests payload)) [] file) head
              (subst (λ (s : S). First (head_in new) s [] file) state (kept_first contents_of outcome (head_in new) (disk_of new) (state_in new) [] kept file left));
          any_moment = subst (λ (l : List (Arrival × List ℕ)). LeavesOnly moment outcome_since (disk_of old) (disk_of new) (First (head_in old) (state_in old) l))
              (sym (append-nil (requests payload))) run_moments;
        }

    -- ---- a group, and what follows it

    module _ (old mid new : StoreValue D S) (output wrote written : Counted W) (most : ℕ) (known between left : Option (List ℕ)) (group : List ℕ)
        (read : ReadsGroup most known between group) where
      abbrev asked : List (Arrival × List ℕ)
      asked = requests group

      read_all : Arrive most known between asked
      read_all = group_arrives most known between group read

      pub group_served : Replied old mid output wrote asked → (test : Bool) → ((arrived : List (Arrival × List ℕ)) × Continue test most between left arrived × Replied mid new wrote written arrived)
          → (arrived : List (Arrival × List ℕ)) × Continue test most known left arrived × Replied old new output written arrived
      group_served first test second = (
        asked ++ second.0,
        go test second.1,
        replied_more old mid new output wrote written asked first second.0 second.2,
      )
        where
          go : (test : Bool) → Continue test most between left second.0 → Continue test most known left (asked ++ second.0)
          go true next = more_arrive most known between asked read_all left second.0 next
          go false next = with_all most known between asked read_all second.0 next

      pub ending_stopped : Replied old mid output wrote asked → ((answered : List (Arrival × List ℕ)) × AreFirst most between answered × Stopped mid new wrote written answered [])
          → (answered : List (Arrival × List ℕ)) × (pending : List (Arrival × List ℕ)) × AreFirst most known (answered ++ pending) × Stopped old new output written answered pending
      ending_stopped first second = (
        asked ++ second.0,
        [],
        subst (λ (l : List (Arrival × List ℕ)). AreFirst most known l) (sym (append-nil (asked ++ second.0))) (with_first most known between asked read_all second.0 second.1),
        stopped_more old mid new output wrote written asked first second.0 [] second.2,
      )

      pub group_stopped : ((answered : List (Arrival × List ℕ)) × (pending : List (Arrival × List ℕ)) × (answered ++ pending ≡ asked) × Stopped old new output written answered pending)
          → (answered : List (Arrival × List ℕ)) × (pending : List (Arrival × List ℕ)) × AreFirst most known (answered ++ pending) × Stopped old new output written answered pending
      group_stopped stopped = (stopped.0, stopped.1, split_first most known asked (stopped.0 ++ stopped.1) stopped.2 (are_first most known between asked read_all), stopped.3)

    -- ---- groups one after the other

    module _ (old mid new : StoreValue D S) (output wrote written : Counted W) (most : ℕ) (known between left : Option (List ℕ))
        (so_far : (arrived : List (Arrival × List ℕ)) × Arrive most known between arrived × Replied old mid output wrote arrived) where
      pub one_more_group : (arrived : List (Arrival × List ℕ)) × Arrive most between left arrived × Replied mid new wrote written arrived
          → (arrived : List (Arrival × List ℕ)) × Arrive most known left arrived × Replied old new output written arrived
      one_more_group next = (
        so_far.0 ++ next.0,
        more_arrive most known between so_far.0 so_far.1 left next.0 next.1,
        replied_more old mid new output wrote written so_far.0 so_far.2 next.0 next.2,
      )

      pub last_group : (arrived : List (Arrival × List ℕ)) × AreAll most between arrived × Replied mid new wrote written arrived
          → (arrived : List (Arrival × List ℕ)) × AreAll most known arrived × Replied old new output written arrived
      last_group next = (
        so_far.0 ++ next.0,
        with_all most known between so_far.0 so_far.1 next.0 next.1,
        replied_more old mid new output wrote written so_far.0 so_far.2 next.0 next.2,
      )

      pub broken_group : (answered : List (Arrival × List ℕ)) × (pending : List (Arrival × List ℕ)) × AreFirst most between (answered ++ pending) × Stopped mid new wrote written answered pending
          → (answered : List (Arrival × List ℕ)) × (pending : List (Arrival × List ℕ)) × AreFirst most known (answered ++ pending) × Stopped old new output written answered pending
      broken_group next = (
        so_far.0 ++ next.0,
        next.1,
        subst (λ (l : List (Arrival × List ℕ)). AreFirst most known l) (sym (append_assoc so_far.0 next.0 next.1))
            (with_first most known between so_far.0 so_far.1 (next.0 ++ next.1) next.2),
        stopped_more old mid new output wrote written so_far.0 so_far.2 next.0 next.1 next.3,
      )
