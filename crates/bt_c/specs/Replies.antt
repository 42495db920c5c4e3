-- Where the replies to the commands of a script are among their bytes.
use Rattle.std.specs.Prelude.{ℕ, ◌-◌, ◌==◌, ◌++◌, ◌∷◌, List, [], Option, Some, None, option_map, slice_get, if◌then◌else◌}
use Rattle.bt_script.specs.Commands.{Answer}
use Rattle.bt_shell.specs.Logs.{checked, logged}
use Rattle.bt_shell.specs.Steps.{State}
use Rattle.bt_shell.specs.declared.log.ReplyKind.{ReplyKind}
use Rattle.bt_shell.specs.declared.log.ReplyKind.TheVariants.{Changed, Read, Refused}
use Rattle.bt_c.specs.declared.reply.ReplyInC.{ReplyInC}
use Rattle.bt_c.specs.declared.reply.ReplyMark.{ReplyMark}

-- where a reply ends, and what its command did
abbrev pub mark : ℕ → ReplyKind → ReplyMark
mark end kind = record { end = end; kind = kind }

-- the marks of commands carried out one after the other, from a table on
abbrev pub marks_of : State → List Answer → List ReplyMark
marks_of state answers = logged (λ (marks : List ReplyMark) end kind. marks ++ mark end kind ∷ []) [] 0 state answers

-- the marks of commands that are not carried out: what each would do to a table; there are no replies
abbrev pub checked_marks : State → List Answer → List ReplyMark
checked_marks state answers = checked (λ (marks : List ReplyMark) end kind. marks ++ mark end kind ∷ []) [] state answers

-- the code in C of what a command did
abbrev pub code_of_kind : ReplyKind → ℕ
code_of_kind Read = 0
code_of_kind Changed = 1
code_of_kind Refused = 2

-- where a reply ends; 0 if there is none
abbrev pub end_in : Option ReplyMark → ℕ
end_in None = 0
end_in (Some mark) = mark.end

-- where the reply before the one at a place ends
abbrev pub end_before : List ReplyMark → ℕ → ℕ
end_before marks place = if place == 0 then 0 else end_in (slice_get marks (place - 1))

-- the reply at a place, if there is one: it begins where the one before it ends
abbrev pub reply_at : List ReplyMark → ℕ → Option ReplyInC
reply_at marks place =
    option_map (λ mark. record { offset = end_before marks place; length = mark.end - end_before marks place; kind = code_of_kind mark.kind }) (slice_get marks place)
