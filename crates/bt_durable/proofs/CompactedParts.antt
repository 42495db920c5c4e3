-- Replies of a store whose service is compacted at some moments, and what a crash leaves.
use Rattle.std.proofs.Common.{◌≡◌, ◌∙◌, ◌≤◌, ◌++◌, inl, inr, ⊎_elim, IsTrue, Bool, true, false, ℕ, List, [], ◌∷◌, Option, ap, append-nil, append_assoc, refl, subst, sym}
use Rattle.bt_script.specs.declared.counted.Counted.{Counted}
use Rattle.bt_script.proofs.offered.Streams.{Took-trans, prefix-all, prefix-more}
use Rattle.bt_frame.specs.Services.{after_arrivals, answers}
use Rattle.bt_frame.specs.declared.arrival.Arrival.{Arrival}
use Rattle.bt_frame.proofs.offered.Exchanges.{after-append, after-none, answers-append, answers-none}
use Rattle.bt_journal.specs.Disks.{LeavesOnly}
use Rattle.bt_journal.specs.Heads.{IsAlike}
use Rattle.bt_journal.specs.Stores.{IsBeforeOrAfterCheckpoint, StoreValue, disk_of, head_in, is_open, state_in}
use Rattle.bt_journal.specs.declared.head.Head.{Head}
use Rattle.bt_journal.proofs.offered.Moments.{follows_on, leaves_also}
use Rattle.bt_durable.specs.Compacting.{AreCompacted, HasEnded, HasServed, Part, Reaches, StandsForSome, after_parts, answers_in, arrived_in}
use Rattle.bt_durable.specs.Inputs.{AreAll, AreFirst, Arrive}
use Rattle.bt_durable.specs.Keeping.{HasReplied, HasStopped, StandsForFirst}
use Rattle.bt_durable.specs.Payloads.{after_payload}
use Rattle.bt_durable.proofs.Arriving.{more_arrive, with_all, with_first}

same_head : (head : Head) → IsAlike head head
same_head head = record { format = refl; engine = refl }

alike_on : (first second third : Head) → IsAlike first second → IsAlike second third → IsAlike first third
alike_on first second third a b = record { format = b.format ∙ a.format; engine = b.engine ∙ a.engine }

module _ {S : Type 0} (after : S → Arrival → List ℕ → S) (reply : S → Arrival → List ℕ → ℕ × List ℕ) (blank : S) (is_compacted : S → S → Type 0) where
  abbrev Arrivals : Type 0
  Arrivals = List (Arrival × List ℕ)

  -- ---- parts, and one more

  abbrev after_all : S → List (Part S) → S
  after_all service parts = after_parts after reply blank is_compacted service parts

  abbrev Compacted : S → List (Part S) → Type 0
  Compacted service parts = AreCompacted after reply blank is_compacted service parts

  abbrev all_arrived : List (Part S) → Arrivals
  all_arrived parts = arrived_in after reply blank is_compacted parts

  abbrev all_answers : S → List (Part S) → List ℕ
  all_answers service parts = answers_in after reply blank is_compacted service parts

  after_last : (service : S) (parts : List (Part S)) (part : Part S) → after_all service (parts ++ part ∷ []) ≡ part.1
  after_last service [] part = refl
  after_last service (first ∷ parts) part = after_last first.1 parts part

  compacted_last : (service : S) (parts : List (Part S)) (part : Part S) → Compacted service parts → is_compacted (after_arrivals after reply (after_all service parts) part.0) part.1
      → Compacted service (parts ++ part ∷ [])
  compacted_last service [] part are is = (is, tt)
  compacted_last service (first ∷ parts) part are is = (are.0, compacted_last first.1 parts part are.1 is)

  arrived_last : (parts : List (Part S)) (part : Part S) → all_arrived (parts ++ part ∷ []) ≡ all_arrived parts ++ part.0
  arrived_last [] part = append-nil part.0
  arrived_last (first ∷ parts) part =
      ap (λ (l : Arrivals). first.0 ++ l) (arrived_last parts part) ∙ sym (append_assoc first.0 (all_arrived parts) part.0)

  answers_last : (service : S) (parts : List (Part S)) (part : Part S)
      → all_answers service (parts ++ part ∷ []) ≡ all_answers service parts ++ answers after reply (after_all service parts) part.0
  answers_last service [] part = append-nil (answers after reply service part.0)
  answers_last service (first ∷ parts) part =
      ap (λ (l : List ℕ). answers after reply service first.0 ++ l) (answers_last first.1 parts part)
      ∙ sym (append_assoc (answers after reply service first.0) (all_answers first.1 parts) (answers after reply (after_all first.1 parts) part.0))

  -- ---- what is reached

  abbrev Reached : S → Arrivals → S → List ℕ → Type 0
  Reached service arrived reached replies = Reaches after reply blank is_compacted service arrived reached replies

  reach_none : (service : S) → Reached service [] service []
  reach_none service = record {
    parts = [];
    last = [];
    compacted = tt;
    all = refl;
    service_is = after-none after reply service;
    replies_are = answers-none after reply service;
  }

  -- more arrives
  reach_more : (service reached : S) (arrived more : Arrivals) (replies : List ℕ) → Reached service arrived reached replies
      → Reached service (arrived ++ more) (after_arrivals after reply reached more) (replies ++ answers after reply reached more)
  reach_more service reached arrived more replies r =
      let begin = after_all service r.parts in
      record {
        parts = r.parts;
        last = r.last ++ more;
        compacted = r.compacted;
        all = sym (append_assoc (all_arrived r.parts) r.last more) ∙ ap (λ (l : Arrivals). l ++ more) r.all;
        service_is = after-append after reply begin r.last more ∙ ap (λ (s : S). after_arrivals after reply s more) r.service_is;
        replies_are =
            ap (λ (l : List ℕ). all_answers service r.parts ++ l) (answers-append after reply begin r.last more)
            ∙ sym (append_assoc (all_answers service r.parts) (answers after reply begin r.last) (answers after reply (after_arrivals after reply begin r.last) more))
            ∙ ap (λ (l : List ℕ). l ++ answers after reply (after_arrivals after reply begin r.last) more) r.replies_are
            ∙ ap (λ (s : S). replies ++ answers after reply s more) r.service_is;
      }

  -- the service is compacted
  reach_compacted : (service reached compacted : S) (arrived : Arrivals) (replies : List ℕ) → Reached service arrived reached replies → is_compacted reached compacted
      → Reached service arrived compacted replies
  reach_compacted service reached compacted arrived replies r is =
      let begin = after_all service r.parts in
      let part : Part S = (r.last, compacted) in
      record {
        parts = r.parts ++ part ∷ [];
        last = [];
        compacted = compacted_last service r.parts part r.compacted (subst (λ (s : S). is_compacted s compacted) (sym r.service_is) is);
        all = append-nil (all_arrived (r.parts ++ part ∷ [])) ∙ arrived_last r.parts part ∙ r.all;
        service_is = ap (λ (s : S). after_arrivals after reply s []) (after_last service r.parts part) ∙ after-none after reply compacted;
        replies_are =
            ap (λ (s : S). all_answers service (r.parts ++ part ∷ []) ++ answers after reply s []) (after_last service r.parts part)
            ∙ ap (λ (l : List ℕ). all_answers service (r.parts ++ part ∷ []) ++ l) (answers-none after reply compacted)
            ∙ append-nil (all_answers service (r.parts ++ part ∷ [])) ∙ answers_last service r.parts part ∙ r.replies_are;
      }

  -- ---- files

  abbrev Some : Head → S → Arrivals → List ℕ → Type 0
  Some head service arrived file = StandsForSome after reply blank is_compacted head service arrived file

  -- a file of the service after what is reached, and some more
  some_more : (head now : Head) (service reached : S) (arrived more : Arrivals) (replies file : List ℕ) → IsAlike head now → Reached service arrived reached replies
      → StandsForFirst after reply blank now reached more file → Some head service (arrived ++ more) file
  some_more head now service reached arrived more replies file alike r first = record {
    now = now;
    alike = alike;
    done = arrived ++ first.0;
    rest = first.1;
    parted = append_assoc arrived first.0 first.1 ∙ ap (λ (l : Arrivals). arrived ++ l) first.2;
    reached = after_arrivals after reply reached first.0;
    replies = replies ++ answers after reply reached first.0;
    reaches = reach_more service reached arrived first.0 replies r;
    stands = first.3;
  }

  -- also if more arrived
  with_rest : (head : Head) (service : S) (arrived more : Arrivals) (file : List ℕ) → Some head service arrived file → Some head service (arrived ++ more) file
  with_rest head service arrived more file some = record {
    now = some.now;
    alike = some.alike;
    done = some.done;
    rest = some.rest ++ more;
    parted = sym (append_assoc some.done some.rest more) ∙ ap (λ (l : Arrivals). l ++ more) some.parted;
    reached = some.reached;
    replies = some.replies;
    reaches = some.reaches;
    stands =
        ⊎_elim (λ found. inl found)
        (λ forged. inr (forged.0, forged.1 ++ more, forged.2, ap (λ (l : Arrivals). l ++ more) forged.3 ∙ append_assoc _ forged.1 more, forged.4, forged.5)) some.stands;
  }

  -- a file that a checkpoint leaves
  some_checkpoint : (head now : Head) (service reached : S) (arrived : Arrivals) (replies file : List ℕ) → IsAlike head now → Reached service arrived reached replies
      → IsBeforeOrAfterCheckpoint (after_payload after reply) is_compacted blank now reached file → Some head service arrived file
  some_checkpoint head now service reached arrived replies file alike r (inl was) = record {
    now = now;
    alike = alike;
    done = arrived;
    rest = [];
    parted = append-nil arrived;
    reached = reached;
    replies = replies;
    reaches = r;
    stands = inl was;
  }
  some_checkpoint head now service reached arrived replies file alike r (inr new) = record {
    now = now;
    alike = alike;
    done = arrived;
    rest = [];
    parted = append-nil arrived;
    reached = new.0;
    replies = replies;
    reaches = reach_compacted service reached new.0 arrived replies r new.1;
    stands = inl new.2;
  }

  -- ---- runs

  module _
      {D W : Type 0} (moment : D → ℕ) (outcome : D → List ℕ → Type 0) (outcome_since : D → ℕ → List ℕ → Type 0) (contents : W → Option (List ℕ)) where
    abbrev Served : StoreValue D S → StoreValue D S → Counted W → Counted W → Arrivals → Type 0
    Served old new output written arrived = HasServed after reply blank is_compacted moment outcome outcome_since contents old new output written arrived

    abbrev Ended : StoreValue D S → StoreValue D S → Counted W → Counted W → Arrivals → Arrivals → Type 0
    Ended old new output written answered pending = HasEnded after reply blank is_compacted moment outcome outcome_since contents old new output written answered pending

    abbrev Replied : StoreValue D S → StoreValue D S → Counted W → Counted W → Arrivals → Type 0
    Replied old new output written arrived = HasReplied after reply blank moment outcome outcome_since contents old new output written arrived

    abbrev Stopped : StoreValue D S → StoreValue D S → Counted W → Counted W → Arrivals → Arrivals → Type 0
    Stopped old new output written answered pending = HasStopped after reply blank moment outcome outcome_since contents old new output written answered pending

    -- a run without a checkpoint
    pub served_first : (old new : StoreValue D S) (output written : Counted W) (arrived : Arrivals) → Replied old new output written arrived → Served old new output written arrived
    served_first old new output written arrived r =
        let begin = reach_more (state_in old) (state_in old) [] arrived [] (reach_none (state_in old)) in
        record {
          opened = r.opened;
          alike = subst (λ (h : Head). IsAlike (head_in old) h) (sym r.head) (same_head (head_in old));
          replies = answers after reply (state_in old) arrived;
          reaches = subst (λ (s : S). Reached (state_in old) arrived s (answers after reply (state_in old) arrived)) (sym r.state) begin;
          took = r.took;
          any_moment =
              leaves_also moment outcome_since (disk_of old) (disk_of new) (StandsForFirst after reply blank (head_in old) (state_in old) arrived)
              (Some (head_in old) (state_in old) arrived) r.any_moment
              (λ file first. some_more (head_in old) (head_in old) (state_in old) (state_in old) [] arrived [] file (same_head (head_in old)) (reach_none (state_in old)) first);
        }

    module _ (old mid new : StoreValue D S) (output wrote written : Counted W) (done : Arrivals) (first : Served old mid output wrote done) where
      -- what was left before, and what is left after it
      moments : (more : Arrivals) → LeavesOnly moment outcome_since (disk_of mid) (disk_of new) (StandsForFirst after reply blank (head_in mid) (state_in mid) more)
          → LeavesOnly moment outcome_since (disk_of old) (disk_of new) (Some (head_in old) (state_in old) (done ++ more))
      moments more second =
          let all = Some (head_in old) (state_in old) (done ++ more) in
          follows_on moment outcome_since (disk_of old) (disk_of mid) (disk_of new) all
          (leaves_also moment outcome_since (disk_of old) (disk_of mid) (Some (head_in old) (state_in old) done) all first.any_moment
          (with_rest (head_in old) (state_in old) done more))
          (leaves_also moment outcome_since (disk_of mid) (disk_of new) (StandsForFirst after reply blank (head_in mid) (state_in mid) more) all second
          (λ file some. some_more (head_in old) (head_in mid) (state_in old) (state_in mid) done more first.replies file first.alike first.reaches some))

      -- a run after it
      pub served_more : (more : Arrivals) → Replied mid new wrote written more → Served old new output written (done ++ more)
      served_more more second = record {
        opened = second.opened;
        alike = subst (λ (h : Head). IsAlike (head_in old) h) (sym second.head) first.alike;
        replies = first.replies ++ answers after reply (state_in mid) more;
        reaches = subst (λ (s : S). Reached (state_in old) (done ++ more) s (first.replies ++ answers after reply (state_in mid) more)) (sym second.state)
            (reach_more (state_in old) (state_in mid) done more first.replies first.reaches);
        took = Took-trans contents output wrote written first.replies (answers after reply (state_in mid) more) first.took second.took;
        any_moment = moments more second.any_moment;
      }

      pub ended_more : (answered pending : Arrivals) → Stopped mid new wrote written answered pending → Ended old new output written (done ++ answered) pending
      ended_more answered pending second =
          let all = first.replies ++ answers after reply (state_in mid) answered in
          let reached = after_arrivals after reply (state_in mid) answered in
          record {
            reached = reached;
            replies = all;
            reaches = reach_more (state_in old) (state_in mid) done answered first.replies first.reaches;
            took = prefix-more contents output wrote written all first.replies (answers after reply (state_in mid) answered) [] first.took
                (ap (λ (l : List ℕ). first.replies ++ l) (sym (append-nil (answers after reply (state_in mid) answered)))) second.took;
            kept = λ file left. some_more (head_in old) (head_in mid) reached reached [] pending [] file first.alike (reach_none reached) (second.kept file left);
            any_moment = subst (λ (l : Arrivals). LeavesOnly moment outcome_since (disk_of old) (disk_of new) (Some (head_in old) (state_in old) l))
                (sym (append_assoc done answered pending)) (moments (answered ++ pending) second.any_moment);
          }

      -- a checkpoint after it
      module _ (crash : LeavesOnly moment outcome_since (disk_of mid) (disk_of new)
          (IsBeforeOrAfterCheckpoint (after_payload after reply) is_compacted blank (head_in mid) (state_in mid))) where
        checkpoint_moments : LeavesOnly moment outcome_since (disk_of old) (disk_of new) (Some (head_in old) (state_in old) done)
        checkpoint_moments =
            let all = Some (head_in old) (state_in old) done in
            follows_on moment outcome_since (disk_of old) (disk_of mid) (disk_of new) all first.any_moment
            (leaves_also moment outcome_since (disk_of mid) (disk_of new) (IsBeforeOrAfterCheckpoint (after_payload after reply) is_compacted blank (head_in mid) (state_in mid)) all
            crash (λ file left. some_checkpoint (head_in old) (head_in mid) (state_in old) (state_in mid) done first.replies file first.alike first.reaches left))

        pub served_compacted : IsTrue (is_open new) → IsAlike (head_in mid) (head_in new) → is_compacted (state_in mid) (state_in new) → Served old new output wrote done
        served_compacted opened alike is = record {
          opened = opened;
          alike = alike_on (head_in old) (head_in mid) (head_in new) first.alike alike;
          replies = first.replies;
          reaches = reach_compacted (state_in old) (state_in mid) (state_in new) done first.replies first.reaches is;
          took = first.took;
          any_moment = checkpoint_moments;
        }

        pub ended_compacting : ((file : List ℕ) → outcome (disk_of new) file → moment (disk_of mid) ≤ moment (disk_of new) → outcome_since (disk_of new) (moment (disk_of mid)) file)
            → Ended old new output wrote done []
        ended_compacting counts_now = record {
          reached = state_in mid;
          replies = first.replies;
          reaches = first.reaches;
          took = prefix-all contents output wrote first.replies first.took;
          kept = λ file left.
              some_checkpoint (head_in old) (head_in mid) (state_in mid) (state_in mid) [] [] file first.alike (reach_none (state_in mid))
              (crash.each file (counts_now file left crash.later));
          any_moment = subst (λ (l : Arrivals). LeavesOnly moment outcome_since (disk_of old) (disk_of new) (Some (head_in old) (state_in old) l)) (sym (append-nil done))
              checkpoint_moments;
        }

        -- a checkpoint that was made, or not
        pub served_on : (is_done : Bool) → IsTrue (is_open new) → IsAlike (head_in mid) (head_in new) → (is_done ≡ true → is_compacted (state_in mid) (state_in new))
            → (is_done ≡ false → new ≡ mid) → Served old new output wrote done
        served_on true opened alike is same = served_compacted opened alike (is refl)
        served_on false opened alike is same = subst (λ (s : StoreValue D S). Served old s output wrote done) (sym (same refl)) first

    -- ---- runs one after the other

    module _ (old mid new : StoreValue D S) (output wrote written : Counted W) (most : ℕ) (known between left : Option (List ℕ))
        (so_far : (arrived : Arrivals) × Arrive most known between arrived × Served old mid output wrote arrived) where
      pub one_more_run : (arrived : Arrivals) × Arrive most between left arrived × Replied mid new wrote written arrived
          → (arrived : Arrivals) × Arrive most known left arrived × Served old new output written arrived
      one_more_run next = (
        so_far.0 ++ next.0,
        more_arrive most known between so_far.0 so_far.1 left next.0 next.1,
        served_more old mid new output wrote written so_far.0 so_far.2 next.0 next.2,
      )

      pub last_run : (arrived : Arrivals) × AreAll most between arrived × Replied mid new wrote written arrived
          → (arrived : Arrivals) × AreAll most known arrived × Served old new output written arrived
      last_run next = (
        so_far.0 ++ next.0,
        with_all most known between so_far.0 so_far.1 next.0 next.1,
        served_more old mid new output wrote written so_far.0 so_far.2 next.0 next.2,
      )

      pub broken_run : (answered : Arrivals) × (pending : Arrivals) × AreFirst most between (answered ++ pending) × Stopped mid new wrote written answered pending
          → (answered : Arrivals) × (pending : Arrivals) × AreFirst most known (answered ++ pending) × Ended old new output written answered pending
      broken_run next = (
        so_far.0 ++ next.0,
        next.1,
        subst (λ (l : Arrivals). AreFirst most known l) (sym (append_assoc so_far.0 next.0 next.1)) (with_first most known between so_far.0 so_far.1 (next.0 ++ next.1) next.2),
        ended_more old mid new output wrote written so_far.0 so_far.2 next.0 next.1 next.3,
      )
