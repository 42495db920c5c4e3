-- Questions to a table that may not be there yet, and changes of it.
use Rattle.std.specs.Prelude.{◌≡◌, ℕ, List, Option, Some, None, Result, Err}
use Rattle.std.specs.Option.{MatchOption}
use Rattle.bt_value.specs.declared.refusal.Refusal.TheVariants.{NoTable}
use Rattle.bt_table.specs.Calls.{StaysOrIsLost}
use Rattle.bt_table.specs.Tables.{TableState}
use Rattle.bt_packed.specs.Calls.{applied, columns_reply, get_reply, last_page_reply, page_reply, sums_reply, trees_reply, usage_reply}
use Rattle.bt_packed.specs.Layout.{fault_at, on_ok}
use Rattle.bt_packed.specs.declared.fault.Fault.{Fault}
use Rattle.bt_packed.specs.declared.question.Question.{Question}
use Rattle.bt_packed.specs.declared.question.Question.TheVariants.{Columns, LastPage, Page, Row, Sums, Trees, Usage}

-- there is no table
abbrev pub no_table : Fault
no_table = fault_at NoTable 0 0

-- the table after packed changes, or the fault
abbrev pub applied_to : Option TableState → List ℕ → Result (Option TableState) Fault
applied_to None bytes = Err no_table
applied_to (Some table) bytes = on_ok Some (applied table bytes)

-- what a table replies to a question in packed bytes
abbrev pub answer_of : Question → TableState → List ℕ → Result (List ℕ) Fault
answer_of Row = get_reply
answer_of Page = page_reply
answer_of LastPage = last_page_reply
answer_of Sums = sums_reply
answer_of Columns = columns_reply
answer_of Usage = usage_reply
answer_of Trees = trees_reply

-- the reply of a table to a question in packed bytes, or the fault
abbrev pub reply_from : (TableState → List ℕ → Result (List ℕ) Fault) → Option TableState → List ℕ → Result (List ℕ) Fault
reply_from answer None bytes = Err no_table
reply_from answer (Some table) bytes = answer table bytes

-- a table stays as it was, or is lost
abbrev pub KeepsOrLoses : Option TableState → Option TableState → Type 0
KeepsOrLoses old new = MatchOption old (new ≡ None) (λ before. MatchOption new ⊥ (StaysOrIsLost before))
