-- The replies to commands one after the other, and the table that they leave. Serves the loop of a run.
use Rattle.std.proofs.Common.{ℕ, Bool, ◌+◌, List, [], ◌∷◌, ◌++◌, ◌≡◌, ◌∙◌, refl, sym, ap, subst, append_assoc, append-nil, take, arith, Option, None, Some, Result, Ok, Err, OnErr}
use Rattle.bt_script.specs.Commands.{Answer, commands}
use Rattle.std.specs.Io.KnownBytes.{Keeps}
use Rattle.bt_script.specs.Streams.{Took, TookPrefix, count_of, source_of}
use Rattle.bt_script.specs.declared.counted.Counted.{Counted}
use Rattle.bt_script.proofs.offered.Streams.{prefix-all, prefix-done, prefix-more, Took-kept, Took-nil, Took-trans}
use Rattle.bt_shell.specs.inside.Turns.{IsTurn, first_kind}
use Rattle.bt_shell.specs.Runs.{IsScriptOf, WritesPrefix, WritesReplies, WritesRun, after_commands, one_where, refused_count, replies, run}
use Rattle.bt_shell.specs.declared.log.ReplyKind.{ReplyKind}
use Rattle.bt_shell.specs.Logs.{end_of, has_refusal, kind_of, logged}
use Rattle.bt_shell.specs.Steps.{State, turn}

pub replies-append : (state : State) (done more : List Answer) → replies state (done ++ more) ≡ replies state done ++ replies (after_commands state done) more
unfolding replies after_commands
replies-append state [] more = refl
replies-append state (answer ∷ done) more =
    ap (λ (l : List ℕ). (turn state answer).1 ++ l) (replies-append (turn state answer).0 done more)
    ∙ sym (append_assoc (turn state answer).1 (replies (turn state answer).0 done) (replies (after_commands (turn state answer).0 done) more))

pub after_commands-append : (state : State) (done more : List Answer) → after_commands state (done ++ more) ≡ after_commands (after_commands state done) more
unfolding after_commands
after_commands-append state [] more = refl
after_commands-append state (answer ∷ done) more = after_commands-append (turn state answer).0 done more

replies-one : (state : State) (answer : Answer) (more : List Answer) → replies state (answer ∷ more) ≡ (turn state answer).1 ++ replies (turn state answer).0 more
unfolding replies
replies-one state answer more = refl

replies-none : (state : State) → replies state [] ≡ []
unfolding replies
replies-none state = refl

after-one : (state : State) (answer : Answer) → after_commands state (answer ∷ []) ≡ (turn state answer).0
unfolding after_commands
after-one state answer = refl

-- What a run has done from a table on: some commands have their replies, and the others follow from a place of the script on.
pub record HasRun {W : Type 0} (contents : W → Option (List ℕ)) (old new : Counted W) (begin table : State) (all others : List Answer) : Type 0 where
  pub done : List Answer
  pub split : all ≡ done ++ others
  pub left : table ≡ after_commands begin done
  pub took : Took contents old new (replies begin done)

module _ {W : Type 0} (contents : W → Option (List ℕ)) (old : Counted W) (begin : State) where
  -- all replies, in terms of what was done
  whole : (new : Counted W) (table : State) (all others : List Answer) (so_far : HasRun contents old new begin table all others) → replies begin all ≡ replies begin so_far.done ++ replies table others
  whole new table all others so_far =
      ap (replies begin) so_far.split ∙ replies-append begin so_far.done others ∙ ap (λ (state : State). replies begin so_far.done ++ replies state others) (sym so_far.left)

  pub run_prefix : (new : Counted W) (table : State) (all others : List Answer) → HasRun contents old new begin table all others → TookPrefix contents old new (replies begin all)
  run_prefix new table all others so_far = prefix-done contents old new (replies begin all) (replies begin so_far.done) (replies table others) so_far.took (whole new table all others so_far)

  -- a prefix of the reply to the next one
  pub run_breaks : (mid new : Counted W) (table after : State) (all others more : List Answer) (text : List ℕ) {refused : Bool}
      → HasRun contents old mid begin table all others → IsTurn table after others more text refused
      → TookPrefix contents mid new text → TookPrefix contents old new (replies begin all)
  run_breaks mid new table after all others more text so_far next prefix =
      let said : replies table others ≡ text ++ replies (turn table next.answer).0 more =
      ap (replies table) next.first ∙ replies-one table next.answer more ∙ ap (λ (l : List ℕ). l ++ replies (turn table next.answer).0 more) (sym next.said) in
      prefix-more contents old mid new (replies begin all) (replies begin so_far.done) text (replies (turn table next.answer).0 more) so_far.took
      (whole mid table all others so_far ∙ ap (λ (l : List ℕ). replies begin so_far.done ++ l) said) prefix

  -- the replies to the commands so far and to the next one, and the table after these
  module _ (mid : Counted W) (table after : State) (all others more : List Answer) (text : List ℕ) {refused : Bool} (so_far
      : HasRun contents old mid begin table all others) (next : IsTurn table after others more text refused) where
    pub said_with_next : replies begin (so_far.done ++ next.answer ∷ []) ≡ replies begin so_far.done ++ text
    said_with_next =
        replies-append begin so_far.done (next.answer ∷ [])
        ∙ ap (λ (state : State). replies begin so_far.done ++ replies state (next.answer ∷ [])) (sym so_far.left)
        ∙ ap (λ (l : List ℕ). replies begin so_far.done ++ l)
        (replies-one table next.answer [] ∙ ap (λ (l : List ℕ). (turn table next.answer).1 ++ l) (replies-none (turn table next.answer).0) ∙ append-nil (turn table next.answer).1 ∙ sym next.said)

    pub left_with_next : after ≡ after_commands begin (so_far.done ++ next.answer ∷ [])
    left_with_next =
        next.left ∙ ap (λ (state : State). (turn state next.answer).0) so_far.left
        ∙ sym (after_commands-append begin so_far.done (next.answer ∷ []) ∙ after-one (after_commands begin so_far.done) next.answer)

  -- the reply to the next one
  abbrev pub run_goes_on : (mid new : Counted W) (table after : State) (all others more : List Answer) (text : List ℕ) {refused : Bool}
      → HasRun contents old mid begin table all others → IsTurn table after others more text refused
      → Took contents mid new text → HasRun contents old new begin after all more
  run_goes_on mid new table after all others more text so_far next took = record {
    done = so_far.done ++ next.answer ∷ [];
    split = so_far.split ∙ ap (λ (l : List Answer). so_far.done ++ l) next.first ∙ sym (append_assoc so_far.done (next.answer ∷ []) more);
    left = left_with_next mid table after all others more text so_far next;
    took = subst (λ (l : List ℕ). Took contents old new l) (sym (said_with_next mid table after all others more text so_far next))
        (Took-trans contents old mid new (replies begin so_far.done) text so_far.took took);
  }

  -- no command is left
  pub run_ends : (new : Counted W) (table : State) (all others : List Answer) → HasRun contents old new begin table all others → others ≡ [] → Took contents old new (replies begin all)
  run_ends new table all others so_far none =
      let all_done : all ≡ so_far.done = so_far.split ∙ ap (λ (l : List Answer). so_far.done ++ l) none ∙ append-nil so_far.done in
      subst (λ (answers : List Answer). Took contents old new (replies begin answers)) (sym all_done) so_far.took

  -- and the table that it leaves
  pub run_leaves : (new : Counted W) (table : State) (all others : List Answer) → HasRun contents old new begin table all others → others ≡ [] → table ≡ after_commands begin all
  run_leaves new table all others so_far none =
      let all_done : all ≡ so_far.done = so_far.split ∙ ap (λ (l : List Answer). so_far.done ++ l) none ∙ append-nil so_far.done in
      so_far.left ∙ ap (after_commands begin) (sym all_done)

count-one : (state : State) (answer : Answer) (more : List Answer) → refused_count state (answer ∷ more) ≡ one_where (has_refusal state answer) + refused_count (turn state answer).0 more
unfolding refused_count
count-one state answer more = refl

count-none : (state : State) → refused_count state [] ≡ 0
unfolding refused_count
count-none state = refl

-- the number of refused commands is that of the commands so far and that of the others
pub count_goes_on : (begin table after : State) (all others more : List Answer) (text : List ℕ) (refused : Bool) (count : ℕ) → IsTurn table after others more text refused
    → refused_count begin all ≡ count + refused_count table others → refused_count begin all ≡ count + one_where refused + refused_count after more
count_goes_on begin table after all others more text refused count next so_far =
    let rest : refused_count table others ≡ one_where refused + refused_count after more =
    ap (refused_count table) next.first ∙ count-one table next.answer more
    ∙ ap (λ (b : Bool). one_where b + refused_count (turn table next.answer).0 more) (sym next.judged)
    ∙ ap (λ (state : State). one_where refused + refused_count state more) (sym next.left) in
    omega (arith, so_far, rest)

pub count_ends : (begin table : State) (all others : List Answer) (count : ℕ) → refused_count begin all ≡ count + refused_count table others → others ≡ [] → refused_count begin all ≡ count
count_ends begin table all others count so_far none =
    let rest : refused_count table others ≡ 0 = ap (refused_count table) none ∙ count-none table in
    omega (arith, so_far, rest)

-- what a log has is that of the commands so far and that of the others
module _ {L : Type 0} (added : L → ℕ → ReplyKind → L) where
  logged-one : (log : L) (at : ℕ) (state : State) (answer : Answer) (more : List Answer)
      → logged added log at state (answer ∷ more)
      ≡ logged added (added log (end_of at (turn state answer).1) (kind_of state answer)) (end_of at (turn state answer).1) (turn state answer).0 more
  unfolding logged
  logged-one log at state answer more = refl

  logged-none : (log : L) (at : ℕ) (state : State) → logged added log at state [] ≡ log
  unfolding logged
  logged-none log at state = refl

  -- the first of these commands is added
  logged-next : {table after : State} {others more : List Answer} {text : List ℕ} {refused : Bool} (next : IsTurn table after others more text refused) (log new : L) (at end : ℕ) (kind : ReplyKind)
      (rest : List Answer) → kind ≡ first_kind table others → end ≡ end_of at text → new ≡ added log end kind
      → logged added log at table (next.answer ∷ rest) ≡ logged added new end after rest
  logged-next {table = table} {after = after} next log new at end kind rest is ends adds =
      let answer = next.answer in
      let own : kind ≡ kind_of table answer = is ∙ ap (first_kind table) next.first in
      let place : end ≡ end_of at (turn table answer).1 = ends ∙ ap (end_of at) next.said in
      let told : new ≡ added log (end_of at (turn table answer).1) (kind_of table answer) =
      adds ∙ ap (λ (e : ℕ). added log e kind) place ∙ ap (added log (end_of at (turn table answer).1)) own in
      logged-one log at table answer rest
      ∙ sym (ap (λ (l : L). logged added l end after rest) told
      ∙ ap (λ (e : ℕ). logged added (added log (end_of at (turn table answer).1) (kind_of table answer)) e after rest) place
      ∙ ap (λ (state : State). logged added (added log (end_of at (turn table answer).1) (kind_of table answer)) (end_of at (turn table answer).1) state rest) next.left)

-- What a run has done, and its log: of the commands that are done, and of any that may follow.
pub record HasLogged {W L : Type 0} (contents : W → Option (List ℕ)) (added : L → ℕ → ReplyKind → L) (old new : Counted W) (old_log new_log : L) (begin table : State)
    (all others : List Answer) : Type 0 where
  pub so_far : HasRun contents old new begin table all others
  pub log : (more : List Answer) → logged added old_log (count_of old) begin (so_far.done ++ more) ≡ logged added new_log (count_of new) table more

module _ {W L : Type 0} (contents : W → Option (List ℕ)) (added : L → ℕ → ReplyKind → L) (old : Counted W) (old_log : L) (begin : State) where
  -- before the first command
  pub log_begins : (all : List Answer) → Took contents old old [] → HasLogged contents added old old old_log old_log begin begin all all
  unfolding replies after_commands
  log_begins all nothing = record { so_far = record { done = []; split = refl; left = refl; took = nothing }; log = λ more. refl }

  -- one more command is carried out, its reply written, and it is added

  pub log_goes_on : {mid new : Counted W} {log new_log : L} {table after : State} {all others more : List Answer} {text : List ℕ} {refused : Bool} (kind : ReplyKind)
      (logs : HasLogged contents added old mid old_log log begin table all others) (next : IsTurn table after others more text refused) (took : Took contents mid new text)
      → kind ≡ first_kind table others → new_log ≡ added log (count_of new) kind → HasLogged contents added old new old_log new_log begin after all more
  log_goes_on {mid = mid} {new = new} {log = log} {new_log = new_log} {table = table} {after = after} {all = all} {others = others} {more = more} {text = text} kind logs next took is adds = record {
    so_far = run_goes_on contents old begin mid new table after all others more text logs.so_far next took;
    log = λ rest.
        ap (logged added old_log (count_of old) begin) (append_assoc logs.so_far.done (next.answer ∷ []) rest)
        ∙ logs.log (next.answer ∷ rest)
        ∙ logged-next added next log new_log (count_of mid) (count_of new) kind rest is took.1 adds;
  }

  -- the log is that of what is done
  pub log_so_far : {new : Counted W} {log : L} {table : State} {all others : List Answer} (logs : HasLogged contents added old new old_log log begin table all others)
      → log ≡ logged added old_log (count_of old) begin logs.so_far.done
  log_so_far {new = new} {log = log} {table = table} logs =
      sym (ap (logged added old_log (count_of old) begin) (sym (append-nil logs.so_far.done)) ∙ logs.log [] ∙ logged-none added log (count_of new) table)

  -- no command is left
  pub log_ends : {new : Counted W} {log : L} {table : State} {all others : List Answer} → HasLogged contents added old new old_log log begin table all others → others ≡ []
      → log ≡ logged added old_log (count_of old) begin all
  log_ends logs none =
      log_so_far logs ∙ ap (logged added old_log (count_of old) begin) (sym (logs.so_far.split ∙ ap (λ (l : List Answer). logs.so_far.done ++ l) none ∙ append-nil logs.so_far.done))

-- a script that the reader may have had
pub some_script : (known : Option (List ℕ)) → (script : List ℕ) × IsScriptOf known script
some_script None = ([], tt)
some_script (Some bytes) = (bytes, refl)

module _ {W : Type 0} (contents : W → Option (List ℕ)) where
  took_nothing : (old : Counted W) → Took contents old old []
  took_nothing old = Took-nil contents old (omega arith)

  -- nothing is written
  pub nothing_replied : (old : Counted W) (known : Option (List ℕ)) → WritesReplies contents known old old
  nothing_replied old known =
      let script = some_script known in
      (script.0, script.1, (0, subst (λ (l : List ℕ). Took contents old old l) (sym (replies-none None)) (took_nothing old)))

  pub nothing_written : (old : Counted W) (known : Option (List ℕ)) → WritesPrefix contents known old old
  nothing_written old known = let script = some_script known in (script.0, script.1, (0, took_nothing old))

  pub written-prefix : (known : Option (List ℕ)) (old new : Counted W) → WritesRun contents known old new → WritesPrefix contents known old new
  written-prefix known old new wrote = (wrote.0, wrote.1, prefix-all contents old new (run wrote.0) wrote.2)

  -- a flush takes nothing
  pub prefix-kept : (known : Option (List ℕ)) (old mid new : Counted W) → Keeps (contents (source_of mid)) (contents (source_of new)) → count_of new ≡ count_of mid
      → WritesPrefix contents known old mid → WritesPrefix contents known old new
  prefix-kept known old mid new kept count wrote = (wrote.0, wrote.1, (wrote.2.0, Took-kept contents old mid new (take wrote.2.0 (run wrote.0)) wrote.2.1 kept count))

  pub replies-kept : (known : Option (List ℕ)) (old mid new : Counted W) → Keeps (contents (source_of mid)) (contents (source_of new)) → count_of new ≡ count_of mid
      → WritesReplies contents known old mid → WritesReplies contents known old new
  replies-kept known old mid new kept count wrote =
      (wrote.0, wrote.1, (wrote.2.0, Took-kept contents old mid new (replies None (take wrote.2.0 (commands wrote.0))) wrote.2.1 kept count))

pub on_err : {T E : Type 0} (r : Result T E) (P : Type 0) → P → OnErr r P
on_err (Ok x) P p = tt
on_err (Err e) P p = p
