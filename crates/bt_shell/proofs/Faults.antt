-- Where a fault stops a run, and which table it leaves. Serves the loop of a run.
use Rattle.std.proofs.Common.{ℕ, Bool, ◌≡◌, ◌≤◌, ◌+◌, ◌∙◌, List, [], ◌∷◌, ◌++◌, refl, sym, ap, subst, arith, flat_map, length, take, inl, inr, Option, Some, Ok, Err}
use Rattle.std.proofs.Math.Seq.{take-append-add, take-length}
use Rattle.std.proofs.lemmas.List.{take_all, take_at}
use Rattle.std.specs.Io.KnownBytes.{Keeps}
use Rattle.bt_row.specs.Schemas.{is_schema}
use Rattle.bt_script.specs.Commands.{Answer, commands}
use Rattle.bt_script.specs.Streams.{Took, TookPrefix, count_of, source_of}
use Rattle.bt_script.specs.declared.command.Command.{Command}
use Rattle.bt_script.specs.declared.command.Command.TheVariants.{Batch, Build, Drain, Drop, Get, Image, Index, Load, Rebuild, Scan, Sums, Table}
use Rattle.bt_script.specs.declared.counted.Counted.{Counted}
use Rattle.bt_script.proofs.offered.Streams.{Took-kept, Took-trans}
use Rattle.bt_table.specs.Tables.{Lost}
use Rattle.bt_shell.specs.declared.log.ReplyKind.{ReplyKind}
use Rattle.bt_shell.specs.Faults.{IsLeftAfter, LogsWholeReplies, StopsBetweenReplies, StopsWithinReply, lost_reply}
use Rattle.bt_shell.specs.Logs.{logged}
use Rattle.bt_shell.specs.Runs.{after_commands, replies}
use Rattle.bt_shell.specs.Steps.{State, done_or_refused, is_allowed, shape_of, turn}
use Rattle.bt_shell.specs.inside.Turns.{IsCutShort, IsTurn}
use Rattle.bt_shell.proofs.Refusals.{exists_first}
use Rattle.bt_shell.proofs.Turns.{HasLogged, HasRun, after_commands-append, left_with_next, log_ends, log_so_far, replies-append, run_ends, run_leaves, said_with_next}

-- ---- which table is left

module _ {W : Type 0} {contents : W → Option (List ℕ)} {old new : Counted W} {begin table : State} {all others : List Answer} (so_far : HasRun contents old new begin table all others) where
  -- the first commands: those that are done, and one more
  first_done : take (length so_far.done) all ≡ so_far.done
  first_done = ap (take (length so_far.done)) so_far.split ∙ take_at so_far.done others (length so_far.done) refl

  first_and_next : take (length so_far.done + 1) all ≡ so_far.done ++ take 1 others
  first_and_next = ap (take (length so_far.done + 1)) so_far.split ∙ take-append-add so_far.done others 1

  -- what is left by the next command is left by all commands
  pub left_later : (left : State) → IsLeftAfter table left others 0 → IsLeftAfter begin left all (length so_far.done)
  unfolding after_commands
  left_later left (inl kept) = inl (kept ∙ so_far.left ∙ ap (after_commands begin) (sym first_done))
  left_later left (inr (inl done)) =
      inr (inl (done ∙ ap (λ (state : State). after_commands state (take 1 others)) so_far.left ∙ sym (after_commands-append begin so_far.done (take 1 others))
      ∙ ap (after_commands begin) (sym first_and_next)))
  left_later left (inr (inr lost)) = inr (inr lost)

  -- the next command is carried out
  module _ {after : State} {more : List Answer} {text : List ℕ} {refused : Bool} (next : IsTurn table after others more text refused) where
    with_next : take (length so_far.done + 1) all ≡ so_far.done ++ next.answer ∷ []
    with_next = first_and_next ∙ ap (λ (answers : List Answer). so_far.done ++ take 1 answers) next.first

    left_with : after ≡ after_commands begin (take (length so_far.done + 1) all)
    left_with = left_with_next contents old begin new table after all others more text so_far next ∙ ap (after_commands begin) (sym with_next)

    pub left_by_next : IsLeftAfter begin after all (length so_far.done)
    left_by_next = inr (inl left_with)

    said_with : replies begin (take (length so_far.done + 1) all) ≡ replies begin so_far.done ++ text
    said_with = ap (replies begin) with_next ∙ said_with_next contents old begin new table after all others more text so_far next

  -- no command is left
  pub left_at_end : others ≡ [] → IsLeftAfter begin table all (length all)
  left_at_end none = inl (run_leaves contents old begin new table all others so_far none ∙ ap (after_commands begin) (sym (take-length all)))

-- ---- where a run stops

module _ {W : Type 0} {contents : W → Option (List ℕ)} {old new : Counted W} {begin table : State} (script : List ℕ) {others : List Answer} (so_far
    : HasRun contents old new begin table (commands script) others) where
  -- out of memory at the next command
  pub stops_between : (left : State) → IsLeftAfter table left others 0 → StopsBetweenReplies (Took contents old new) begin left script
  stops_between left next = (
    length so_far.done,
    subst (λ (answers : List Answer). Took contents old new (replies begin answers)) (sym (first_done so_far)) so_far.took,
    left_later so_far left next,
  )

  -- the first bytes of the reply to the next command are written
  written_within : {after : State} {more : List Answer} {text : List ℕ} {refused : Bool} (last : Counted W) → IsTurn table after others more text refused → TookPrefix contents new last text
      → (k : ℕ) × (length (replies begin (take (length so_far.done) (commands script))) ≤ k) × Took contents old last (take k (replies begin (take (length so_far.done + 1) (commands script))))
  written_within {text = text} last next prefix =
      let all = commands script in
      let done = so_far.done in
      let whole : length (replies begin (take (length done) all)) ≡ length (replies begin done) = ap (λ (answers : List Answer). length (replies begin answers)) (first_done so_far) in
      let taken : take (length (replies begin done) + prefix.0) (replies begin (take (length done + 1) all)) ≡ replies begin done ++ take prefix.0 text =
      ap (take (length (replies begin done) + prefix.0)) (said_with so_far next) ∙ take-append-add (replies begin done) text prefix.0 in (
        length (replies begin done) + prefix.0,
        omega (arith, whole),
        subst (λ (bytes : List ℕ). Took contents old last bytes) (sym taken) (Took-trans contents old new last (replies begin done) (take prefix.0 text) so_far.took prefix.1),
      )

  pub stops_within : {after : State} {more : List Answer} {text : List ℕ} {refused : Bool} (last : Counted W) → IsTurn table after others more text refused → TookPrefix contents new last text
      → StopsWithinReply (Took contents old last) begin after script
  stops_within last next prefix = (length so_far.done, left_with so_far next, written_within last next prefix)

  -- all replies are written, and the flush after them fails
  one_more : take (length (commands script) + 1) (commands script) ≡ commands script
  one_more = take_all (length (commands script) + 1) (commands script) (omega arith)

  written_at_end : (last : Counted W) → others ≡ [] → Keeps (contents (source_of new)) (contents (source_of last)) → count_of last ≡ count_of new
      → (k : ℕ) × (length (replies begin (take (length (commands script)) (commands script))) ≤ k)
      × Took contents old last (take k (replies begin (take (length (commands script) + 1) (commands script))))
  written_at_end last none kept count =
      let all = commands script in
      let text = replies begin all in
      let whole : length (replies begin (take (length all) all)) ≡ length text = ap (λ (answers : List Answer). length (replies begin answers)) (take-length all) in
      let taken : take (length text) (replies begin (take (length all + 1) all)) ≡ text = ap (λ (answers : List Answer). take (length text) (replies begin answers)) one_more ∙ take-length text in (
        length text,
        omega (arith, whole),
        subst (λ (bytes : List ℕ). Took contents old last bytes) (sym taken) (Took-kept contents old new last text (run_ends contents old begin new table all others so_far none) kept count),
      )

  pub stops_at_end : (last : Counted W) → others ≡ [] → Keeps (contents (source_of new)) (contents (source_of last)) → count_of last ≡ count_of new
      → StopsWithinReply (Took contents old last) begin table script
  stops_at_end last none kept count = (
    length (commands script),
    run_leaves contents old begin new table (commands script) others so_far none ∙ ap (after_commands begin) (sym one_more),
    written_at_end last none kept count,
  )

-- ---- what is in the log where a run stops

module _ {W L : Type 0} {contents : W → Option (List ℕ)} {added : L → ℕ → ReplyKind → L} {old new : Counted W} {old_log log : L} {begin table : State} (script : List ℕ)
    {others : List Answer} (logs : HasLogged contents added old new old_log log begin table (commands script) others) where
  first_logged : log ≡ logged added old_log (count_of old) begin (take (length logs.so_far.done) (commands script))
  first_logged = log_so_far contents added old old_log begin logs ∙ ap (logged added old_log (count_of old) begin) (sym (first_done logs.so_far))

  -- between two replies
  pub logs_between : LogsWholeReplies added (Took contents old new) old_log log (count_of old) begin script
  logs_between =
      let all = commands script in
      let done = logs.so_far.done in
      let text = replies begin done in
      let said : replies begin (take (length done + 1) all) ≡ text ++ replies (after_commands begin done) (take 1 others) =
      ap (replies begin) (first_and_next logs.so_far) ∙ replies-append begin done (take 1 others) in
      let whole : length (replies begin (take (length done) all)) ≡ length text = ap (λ (answers : List Answer). length (replies begin answers)) (first_done logs.so_far) in
      let taken : take (length text) (replies begin (take (length done + 1) all)) ≡ text =
      ap (take (length text)) said ∙ take_at text (replies (after_commands begin done) (take 1 others)) (length text) refl in (
        length done,
        first_logged,
        (length text, omega (arith, whole), subst (λ (bytes : List ℕ). Took contents old new bytes) (sym taken) logs.so_far.took),
      )

  -- the reply to the next command is not written whole, or not logged
  pub logs_within : {after : State} {more : List Answer} {text : List ℕ} {refused : Bool} (last : Counted W) (last_log : L) → last_log ≡ log → IsTurn table after others more text refused
      → TookPrefix contents new last text → LogsWholeReplies added (Took contents old last) old_log last_log (count_of old) begin script
  logs_within last last_log same next prefix = (length logs.so_far.done, same ∙ first_logged, written_within script logs.so_far last next prefix)

  -- all replies are written and logged, and the flush after them fails
  pub logs_at_end : (last : Counted W) → others ≡ [] → Keeps (contents (source_of new)) (contents (source_of last)) → count_of last ≡ count_of new
      → LogsWholeReplies added (Took contents old last) old_log log (count_of old) begin script
  logs_at_end last none kept count = (
    length (commands script),
    log_ends contents added old old_log begin logs none ∙ ap (logged added old_log (count_of old) begin) (sym (take-length (commands script))),
    written_at_end script logs.so_far last none kept count,
  )

-- ---- one command

-- before a command, and by a command that is cut short
pub left_as_it_was : (old new : State) (others : List Answer) → new ≡ old → IsLeftAfter old new others 0
unfolding after_commands
left_as_it_was old new others same = inl same

pub left_by_command : (old new : State) (command : Command) (answers more : List Answer) → answers ≡ Ok command ∷ more → IsCutShort old new command → IsLeftAfter old new answers 0
unfolding after_commands
left_by_command old new command answers more first (inl same) = inl same
left_by_command old new command answers more first (inr (inl done)) = inr (inl (done ∙ ap (λ (l : List Answer). after_commands old (take 1 l)) (sym first)))
left_by_command old new command answers more first (inr (inr lost)) = inr (inr lost)

-- ---- a lost table

-- each command on it is refused
lost_turn : (answer : Answer) → turn (Some Lost) answer ≡ (Some Lost, lost_reply answer)
lost_turn (Err refusal) = refl
lost_turn (Ok (Table form)) = ap (done_or_refused (Some Lost)) (exists_first (is_schema form.columns form.keys) (is_allowed (shape_of form.fanout form.buffer form.leaf)) _)
lost_turn (Ok (Batch items)) = refl
lost_turn (Ok (Get fields)) = refl
lost_turn (Ok (Scan tree bounds)) = refl
lost_turn (Ok (Sums form)) = refl
lost_turn (Ok (Image tree)) = refl
lost_turn (Ok (Index form)) = refl
lost_turn (Ok (Build name count)) = refl
lost_turn (Ok (Drop name)) = refl
lost_turn (Ok (Load text)) = refl
lost_turn (Ok (Drain tree)) = refl
lost_turn (Ok (Rebuild tree)) = refl

pub stays_lost : (answers : List Answer) → (after_commands (Some Lost) answers ≡ Some Lost) × (replies (Some Lost) answers ≡ flat_map lost_reply answers)
unfolding after_commands replies
stays_lost [] = (refl, refl)
stays_lost (answer ∷ more) =
    let others = stays_lost more in
    let next = lost_turn answer in (
      ap (λ (done : State × List ℕ). after_commands done.0 more) next ∙ others.0,
      ap (λ (done : State × List ℕ). done.1 ++ replies done.0 more) next ∙ ap (λ (text : List ℕ). lost_reply answer ++ text) others.1,
    )

left_lost : (begin left : State) (answers : List Answer) (n : ℕ) → begin ≡ Some Lost → IsLeftAfter begin left answers n → left ≡ Some Lost
left_lost begin left answers n lost (inl first) = first ∙ ap (λ (state : State). after_commands state (take n answers)) lost ∙ (stays_lost (take n answers)).0
left_lost begin left answers n lost (inr (inl more)) = more ∙ ap (λ (state : State). after_commands state (take (n + 1) answers)) lost ∙ (stays_lost (take (n + 1) answers)).0
left_lost begin left answers n lost (inr (inr gone)) = gone

-- a table that is left after a lost one is lost, and all its replies are refusals
pub lost_is_left : (begin left : State) (answers : List Answer) (n : ℕ) → IsLeftAfter begin left answers n → begin ≡ Some Lost → (left ≡ Some Lost)
    × (replies begin answers ≡ flat_map lost_reply answers)
lost_is_left begin left answers n is_left lost = (left_lost begin left answers n lost is_left, ap (λ (state : State). replies state answers) lost ∙ (stays_lost answers).1)
