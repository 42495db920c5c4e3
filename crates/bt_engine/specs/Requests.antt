-- What a request asks for, by the kind of its frame.
use Rattle.std.specs.Prelude.{ℕ, ◌==◌, Option, None, Some, if◌then◌else◌}
use Rattle.bt_packed.specs.declared.question.Question.TheVariants.{Columns, LastPage, Page, Row, Sums, Trees, Usage}
use Rattle.bt_engine.specs.declared.request.Request.{Request}
use Rattle.bt_engine.specs.declared.request.Request.TheVariants.{Apply, Ask, Check, Explain, Restore, Script}

-- the request of a frame of this kind, if it is one
abbrev pub request_of : ℕ → Option Request
request_of kind =
    if kind == 1 then Some Script
    else if kind == 2 then Some Check
    else if kind == 3 then Some Apply
    else if kind == 4 then Some (Ask Row)
    else if kind == 5 then Some (Ask Page)
    else if kind == 6 then Some (Ask LastPage)
    else if kind == 7 then Some (Ask Sums)
    else if kind == 8 then Some (Ask Columns)
    else if kind == 9 then Some (Ask Usage)
    else if kind == 10 then Some (Ask Trees)
    else if kind == 11 then Some Explain
    else if kind == 14 then Some Restore
    else None
