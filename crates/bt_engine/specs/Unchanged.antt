-- What may not change a table leaves it as it is.
use Rattle.std.proofs.Common.{ℕ, ◌≡◌, ◌≢◌, ◌∙◌, Bool, false, true, List, [], ◌∷◌, ◌++◌, Option, None, Some, Result, Ok, Err, ap, refl, sym}
use Rattle.std.proofs.lemmas.Bool.{or_parts, true≢false}
use Rattle.std.specs.Prelude.{◌||◌, is_ok}
use Rattle.bt_script.specs.Commands.{Answer, commands}
use Rattle.bt_packed.specs.Questions.{applied_to}
use Rattle.bt_packed.specs.declared.fault.Fault.{Fault}
use Rattle.bt_shell.proofs.offered.Unchanged.{reads_change_nothing}
use Rattle.bt_shell.specs.Logs.{end_of, kind_of, logged}
use Rattle.bt_shell.specs.Runs.{after_commands}
use Rattle.bt_shell.specs.Steps.{State, turn}
use Rattle.bt_shell.specs.declared.log.ReplyKind.{ReplyKind}
use Rattle.bt_shell.specs.declared.log.ReplyKind.TheVariants.{Changed}
use Rattle.bt_frame.specs.Services.{IsNoRequest}
use Rattle.bt_frame.specs.declared.arrival.Arrival.{Arrival}
use Rattle.bt_frame.specs.declared.arrival.Arrival.TheVariants.{CutOff, Frame, NoFrame, TooLong}
use Rattle.bt_engine.specs.Exchanges.{after, after_changes, changes, frame_changes, of_frame, restored_into}
use Rattle.bt_engine.specs.Payloads.{has_change, is_change, mark}
use Rattle.bt_engine.specs.Requests.{request_of}
use Rattle.bt_engine.specs.declared.marks.Mark.{Mark}
use Rattle.bt_engine.specs.declared.request.Request.{Request}
use Rattle.bt_engine.specs.declared.request.Request.TheVariants.{Apply, Ask, Check, Explain, Restore, Script}

no_change : (kind : ReplyKind) → is_change kind ≡ false → kind ≢ Changed
no_change kind none is = true≢false (sym (ap is_change is) ∙ none)

-- neither of two lists of marks has a change
has-append : (first more : List Mark) → has_change (first ++ more) ≡ false → (has_change first ≡ false) × (has_change more ≡ false)
has-append [] more none = (refl, none)
has-append (m ∷ first) more none =
    let parts = or_parts (is_change m.kind) (has_change (first ++ more)) none in
    let rest = has-append first more parts.1 in
    (ap (λ (b : Bool). b || has_change first) parts.0 ∙ rest.0, rest.1)

-- commands that could change nothing leave the same table, and the marks before them have no change either
commands_leave : (marks : List Mark) (at : ℕ) (state : State) (answers : List Answer)
    → has_change (logged (λ (marks : List Mark) end kind. marks ++ mark end kind ∷ []) marks at state answers) ≡ false
    → (has_change marks ≡ false) × (after_commands state answers ≡ state)
unfolding logged after_commands
commands_leave marks at state [] none = (none, refl)
commands_leave marks at state (answer ∷ more) none =
    let kind = kind_of state answer in
    let end = end_of at (turn state answer).1 in
    let rest = commands_leave (marks ++ mark end kind ∷ []) end (turn state answer).0 more none in
    let parts = has-append marks (mark end kind ∷ []) rest.0 in
    let read = (or_parts (is_change kind) false parts.1).0 in
    (parts.0, rest.1 ∙ reads_change_nothing state answer (no_change kind read))

refused_leave : (state : State) (applied : Result State Fault) → is_ok applied ≡ false → (after_changes state applied).0 ≡ state
refused_leave state (Ok new) none = absurd (true≢false none)
refused_leave state (Err fault) none = refl

frame_leaves : (state : State) (request : Option Request) (payload : List ℕ) → frame_changes state request payload ≡ false → (of_frame state request payload).0 ≡ state
frame_leaves state None payload none = refl
frame_leaves state (Some Script) payload none = (commands_leave [] 0 state (commands payload) none).1
frame_leaves state (Some Check) payload none = refl
frame_leaves state (Some Apply) payload none = refused_leave state (applied_to state payload) none
frame_leaves state (Some (Ask question)) payload none = refl
frame_leaves state (Some Explain) payload none = refl
frame_leaves state (Some Restore) payload none = refused_leave state (restored_into state payload) none

-- what may not change a table leaves it as it is
pub arrival_leaves : (state : State) (arrival : Arrival) (payload : List ℕ) → changes state arrival payload ≡ false → after state arrival payload ≡ state
arrival_leaves state (Frame kind) payload none = frame_leaves state (request_of kind) payload none
arrival_leaves state TooLong payload none = refl
arrival_leaves state NoFrame payload none = refl
arrival_leaves state CutOff payload none = refl

-- what is no request may not
pub others_leave : (state : State) (arrival : Arrival) (payload : List ℕ) → IsNoRequest arrival → changes state arrival payload ≡ false
others_leave state (Frame kind) payload other = absurd other
others_leave state TooLong payload other = refl
others_leave state NoFrame payload other = refl
others_leave state CutOff payload other = refl
