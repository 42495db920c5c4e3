-- Why the first command of a script is refused because of its records, and how C sees it.
use Rattle.std.specs.Prelude.{◌≡◌, List, [], ◌∷◌, Some}
use Rattle.bt_value.specs.Refusals.{number_of}
use Rattle.bt_value.specs.declared.refusal.Refusal.{Refusal}
use Rattle.bt_script.specs.Commands.{Answer}
use Rattle.bt_fault.specs.Commands.{first_reason}
use Rattle.bt_fault.specs.Problems.{problem_number}
use Rattle.bt_fault.specs.declared.reason.Reason.{Reason}
use Rattle.bt_shell.specs.Replies.{refused_text}
use Rattle.bt_shell.specs.Steps.{State, turn}
use Rattle.bt_c.specs.declared.reason.ReasonInC.{ReasonInC}

-- the reply to the first command of a script is this refusal, and the table stays as it is
abbrev pub FirstIsRefused : State → List Answer → Refusal → Type 0
FirstIsRefused state [] refusal = ⊥
FirstIsRefused state (answer ∷ answers) refusal = turn state answer ≡ (state, refused_text refusal)

-- a reason as C sees it
abbrev pub reason_in_c : Reason → ReasonInC
reason_in_c reason = record { refusal = number_of reason.refusal; item = reason.item; field = reason.field; problem = problem_number reason.problem }

-- C sees the reason of the first command of a script, and its refusal is the reply to this command
abbrev pub IsReason : State → List Answer → ReasonInC → Type 0
IsReason state answers seen = (reason : Reason) × (first_reason state answers ≡ Some reason) × (seen ≡ reason_in_c reason) × FirstIsRefused state answers reason.refusal
