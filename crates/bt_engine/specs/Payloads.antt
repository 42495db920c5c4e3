-- The payloads of replies to scripts and checks.
use Rattle.std.specs.Prelude.{ℕ, ◌++◌, ◌||◌, Bool, false, true, List, [], ◌∷◌, length, Option, Some, None}
use Rattle.bt_value.specs.Refusals.{number_of}
use Rattle.bt_fault.specs.Commands.{first_reason}
use Rattle.bt_fault.specs.Problems.{problem_number}
use Rattle.bt_fault.specs.declared.reason.Reason.{Reason}
use Rattle.bt_frame.specs.Frames.{number_bytes}
use Rattle.bt_script.specs.Commands.{commands}
use Rattle.bt_shell.specs.Logs.{checked, logged}
use Rattle.bt_shell.specs.Runs.{replies}
use Rattle.bt_shell.specs.Steps.{State}
use Rattle.bt_shell.specs.declared.log.ReplyKind.{ReplyKind}
use Rattle.bt_shell.specs.declared.log.ReplyKind.TheVariants.{Changed, Read, Refused}
use Rattle.bt_engine.specs.declared.marks.Mark.{Mark}

-- where a reply ends, and what its command did
abbrev pub mark : ℕ → ReplyKind → Mark
mark end kind = record { end = end; kind = kind }

-- the code of what a command did
abbrev pub kind_code : ReplyKind → ℕ
kind_code Read = 0
kind_code Changed = 1
kind_code Refused = 2

-- a mark: where the reply ends, and the code
abbrev pub mark_bytes : Mark → List ℕ
mark_bytes mark = number_bytes mark.end ++ kind_code mark.kind ∷ []

abbrev pub marks_bytes : List Mark → List ℕ
marks_bytes [] = []
marks_bytes (mark ∷ marks) = mark_bytes mark ++ marks_bytes marks

-- the text of replies, their marks, and the length of the text
abbrev pub with_marks : List ℕ → List Mark → List ℕ
with_marks text marks = text ++ (marks_bytes marks ++ number_bytes (length text))

-- whether a command that did this can have changed the table
abbrev pub is_change : ReplyKind → Bool
is_change Read = false
is_change Changed = true
is_change Refused = false

-- whether one of the commands with these marks can have
abbrev pub has_change : List Mark → Bool
has_change [] = false
has_change (mark ∷ marks) = is_change mark.kind || has_change marks

-- the marks of a script that is carried out from a table on
abbrev pub script_marks : State → List ℕ → List Mark
script_marks state script = logged (λ (marks : List Mark) end kind. marks ++ mark end kind ∷ []) [] 0 state (commands script)

-- a script that is carried out from a table on
abbrev pub script_payload : State → List ℕ → List ℕ
script_payload state script =
    with_marks (replies state (commands script)) (logged (λ (marks : List Mark) end kind. marks ++ mark end kind ∷ []) [] 0 state (commands script))

-- a script that is checked
abbrev pub check_payload : State → List ℕ → List ℕ
check_payload state script = with_marks [] (checked (λ (marks : List Mark) end kind. marks ++ mark end kind ∷ []) [] state (commands script))

-- a reason: the number of the refusal, the item and the field at fault, and the number of what is wrong; nothing if there is none
abbrev pub reason_bytes : Option Reason → List ℕ
reason_bytes None = []
reason_bytes (Some reason) =
    number_bytes (number_of reason.refusal) ++ (number_bytes reason.item ++ (number_bytes reason.field ++ number_bytes (problem_number reason.problem)))

-- why the first command of a script is refused because of its records
abbrev pub explain_payload : State → List ℕ → List ℕ
explain_payload state script = reason_bytes (first_reason state (commands script))
