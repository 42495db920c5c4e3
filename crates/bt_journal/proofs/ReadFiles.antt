-- Files that are read in pieces.
use Rattle.std.proofs.Common.{◌≡◌, ◌≢◌, inl, inr, ℕ, ◌+◌, ◌<◌, ◌≤◌, List, [], ◌++◌, length, drop, Option, Some, None, sym, ◌∙◌, ap, subst, arith, length-drop}
use Rattle.std.proofs.lemmas.List.{drop-append-le, drop-drop, take-append-le}
use Rattle.bt_journal.specs.Frames.{Begins, all_at, extent, seed_after}
use Rattle.bt_journal.specs.Heads.{IsAlike, body_of, head_at, head_size}
use Rattle.bt_journal.specs.Files.{HasOther, has_frame_after, is_damaged, recovered}
use Rattle.bt_journal.specs.Stores.{HasFrames, IsReplayedTo, after_all, state_of}
use Rattle.bt_journal.specs.declared.head.Head.{Head}
use Rattle.bt_journal.specs.declared.replay.Replay.{Replay}
use Rattle.bt_journal.proofs.FrameLists.{all_at-begins, begins-append, begins-drop, begins-join, begins-length, divided, extent-append, seed_after-append, some_or_none}
use Rattle.bt_journal.proofs.HeadFrames.{head_in, head_long}
use Rattle.bt_journal.proofs.KeptStates.{after_all-append}
use Rattle.bt_journal.proofs.OpenFiles.{damaged-head, recovered-head, recovered-none}

-- bytes that are shorter than a head have none
pub short_none : (file : List ℕ) → length file < head_size → head_at file ≡ None
short_none file short = elim (some_or_none (head_at file)) [
  | inl none ↦ none
  | inr found ↦ absurd (omega (arith, short, head_long found.0 file found.1))
]

-- the head of a file is in its first bytes
pub head_of_more : (found : Head) (front more : List ℕ) → head_at front ≡ Some found → head_at (front ++ more) ≡ Some found
head_of_more found front more is = head_in found front (front ++ more) is (take-append-le head_size front more (head_long found front is))

pub none_of_more : (front more : List ℕ) → head_size ≤ length front → head_at front ≡ None → head_at (front ++ more) ≡ None
none_of_more front more long none = elim (some_or_none (head_at (front ++ more))) [
  | inl nothing ↦ nothing
  | inr found ↦
      let there = head_in found.0 (front ++ more) front found.1 (sym (take-append-le head_size front more long)) in
      absurd (cc (there, none))
]

pub other_of_more : (number : Head → ℕ) (head found : Head) (front more : List ℕ) → head_at front ≡ Some found → number found ≢ number head → HasOther number head (front ++ more)
other_of_more number head found front more is differ = (found, head_of_more found front more is, differ)

module _ {M : Type 0} (after : M → List ℕ → M) (blank : M) where
  -- the head was read, and no frame has run
  pub begun : (file : List ℕ) (found : Head) (replay : Replay M) → head_at file ≡ Some found → IsAlike replay.head found → replay.rest.items ≡ body_of file → replay.machine ≡ blank
      → replay.end ≡ head_size → replay.seed ≡ found.salt → HasFrames after blank [] file found replay
  unfolding Begins extent seed_after
  begun file found replay is alike rest state end seed = record { head = is; alike = alike; begins = sym rest; state = state; end = end; seed = seed }

  module _ (payloads : List (List ℕ)) (file : List ℕ) (found : Head) (old : Replay M) (h : HasFrames after blank payloads file found old) where
    -- where the frames end, and how many bytes follow
    pub long_file : old.end + length old.rest.items ≡ length file
    long_file = omega (arith, h.end, head_long found file h.head, length-drop head_size file, begins-length found.salt payloads (body_of file) old.rest.items h.begins)

    -- more bytes were read
    pub longer : (piece : List ℕ) (new : Replay M) → new.head ≡ old.head → new.machine ≡ old.machine → new.end ≡ old.end → new.seed ≡ old.seed → new.rest.items ≡ old.rest.items ++ piece
        → HasFrames after blank payloads (file ++ piece) found new
    longer piece new same_head same_machine same_end same_seed rest =
        let body : body_of (file ++ piece) ≡ body_of file ++ piece = drop-append-le head_size file piece (head_long found file h.head) in
        record {
          head = head_of_more found file piece h.head;
          alike = subst (λ (l : Head). IsAlike l found) (sym same_head) h.alike;
          begins = subst (λ (l : List ℕ). Begins found.salt payloads l new.rest.items) (sym body)
              (subst (λ (l : List ℕ). Begins found.salt payloads (body_of file ++ piece) l) (sym rest) (begins-append found.salt payloads (body_of file) old.rest.items piece h.begins));
          state = same_machine ∙ h.state;
          end = same_end ∙ h.end;
          seed = same_seed ∙ h.seed;
        }

    -- the frames that the rest begins with have run
    pub ran : (size : ℕ) (new : Replay M) → new.head ≡ old.head → new.machine ≡ after_all after old.machine (all_at old.seed old.rest.items) → size ≡ extent (all_at old.seed old.rest.items)
        → new.rest.items ≡ drop size old.rest.items → new.end ≡ old.end + size → new.seed ≡ seed_after old.seed (all_at old.seed old.rest.items)
        → HasFrames after blank (recovered file) file found new
    ran size new same_head state is_size rest end seed =
        let bytes = old.rest.items in
        let more = all_at old.seed bytes in
        let parts = divided old.seed bytes in
        let frames : recovered file ≡ payloads ++ more =
        recovered-head found file h.head ∙ all_at-begins found.salt payloads (body_of file) bytes h.begins ∙ ap (λ (n : ℕ). payloads ++ all_at n bytes) (sym h.seed) in
        let rest_is : parts.rest ≡ new.rest.items = sym (rest ∙ ap (λ (n : ℕ). drop n bytes) is_size ∙ begins-drop old.seed more bytes parts.rest parts.begins) in
        let others = subst (λ (n : ℕ). Begins n more bytes new.rest.items) h.seed (subst (λ (l : List ℕ). Begins old.seed more bytes l) rest_is parts.begins) in
        subst (λ (ps : List (List ℕ)). HasFrames after blank ps file found new) (sym frames) (record {
          head = h.head;
          alike = subst (λ (l : Head). IsAlike l found) (sym same_head) h.alike;
          begins = begins-join found.salt payloads more (body_of file) bytes new.rest.items h.begins others;
          state = state ∙ ap (λ (m : M). after_all after m more) h.state ∙ sym (after_all-append after blank payloads more);
          end = omega (arith, end, h.end, is_size, extent-append payloads more);
          seed = seed ∙ ap (λ (n : ℕ). seed_after n more) h.seed ∙ sym (seed_after-append found.salt payloads more);
        })

  -- all frames of a file have run
  module _ (file : List ℕ) (found : Head) (replay : Replay M) (h : HasFrames after blank (recovered file) file found replay) where
    pub rest_found : drop replay.end file ≡ replay.rest.items
    rest_found =
        ap (λ (n : ℕ). drop n file) h.end ∙ sym (drop-drop (extent (recovered file)) head_size file) ∙ begins-drop found.salt (recovered file) (body_of file) replay.rest.items h.begins

    pub damage_found : is_damaged file ≡ has_frame_after replay.seed replay.rest.items
    damage_found =
        damaged-head found file h.head
        ∙ ap (has_frame_after (seed_after found.salt (recovered file))) (begins-drop found.salt (recovered file) (body_of file) replay.rest.items h.begins)
        ∙ ap (λ (n : ℕ). has_frame_after n replay.rest.items) (sym h.seed)

  -- the state of the machine is that of the bytes
  pub replayed_state : (found : Option Head) (file : List ℕ) (replay : Replay M) → IsReplayedTo after blank found file replay → replay.machine ≡ state_of after blank file
  replayed_state None file replay r = r.state ∙ sym (ap (after_all after blank) (recovered-none file r.none))
  replayed_state (Some found) file replay r = r.state
