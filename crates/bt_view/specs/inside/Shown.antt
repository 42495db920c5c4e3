-- The results before rows are shown.
use Rattle.std.specs.Prelude.{ℕ, zero, suc, pos, ◌≡◌, ◌≢◌, List, [], ◌∷◌, fold, Result, Ok, Err}
use Rattle.bt_value.specs.Results.{map_ok, or_refused}
use Rattle.bt_value.specs.declared.refusal.Refusal.{Refusal}
use Rattle.bt_value.specs.declared.refusal.Refusal.TheVariants.{OutOfMemory, TooMany}
use Rattle.bt_value.specs.declared.value.Value.{Value}
use Rattle.bt_form.specs.Flushes.{holds}
use Rattle.bt_form.specs.Messages.{Rows, between}
use Rattle.bt_fanout.specs.Effects.{entry_effect, row_effect}
use Rattle.bt_show.specs.declared.groups.Sum.{Sum}
use Rattle.bt_view.specs.declared.shown.Shown.{Shown}
use Rattle.bt_view.specs.declared.shown.Shown.TheVariants as shown
use Rattle.bt_view.specs.declared.shown.Summed.{Summed}
use Rattle.bt_show.specs.inside.Entries.{rows_of_entries}
use Rattle.bt_show.specs.inside.Neighbours.{after_row}

-- the rows that are shown, by their keys
abbrev pub rows_shown : Shown → Rows (List Value)
rows_shown (shown.Rows tree range) = between range.from range.to (holds row_effect tree.now.1)
rows_shown (shown.Entries tree kinds range) = rows_of_entries kinds.items (between range.from range.to (holds entry_effect tree.now.1))

-- the rows that are shown are those of this answer, or memory ran out
abbrev pub AnswersRows : Result (Rows (List Value)) Refusal → Result Shown Refusal → Type 0
AnswersRows answer (Ok shown) = answer ≡ Ok (rows_shown shown)
AnswersRows answer (Err refusal) = refusal ≢ OutOfMemory → answer ≡ Err refusal

-- the groups of the rows that are shown are those of this answer, or memory ran out
abbrev pub AnswersSums : Result (List Sum) Refusal → Result Summed Refusal → Type 0
AnswersSums answer (Ok summed) = answer ≡ or_refused TooMany (fold after_row summed.groups (rows_shown summed.shown)).2
AnswersSums answer (Err refusal) = refusal ≢ OutOfMemory → answer ≡ Err refusal

-- groups by their first columns, of which rows without columns make one, even if there are none
abbrev pub with_whole : ℕ → List Sum → List Sum
with_whole zero [] = record { group = []; count = 0; total = pos 0 } ∷ []
with_whole zero (group ∷ groups) = group ∷ groups
with_whole (suc columns) groups = groups

-- the same, where rows that are grouped by no columns make one group, even if there are none
abbrev pub AnswersGroups : ℕ → Result (List Sum) Refusal → Result Summed Refusal → Type 0
AnswersGroups columns answer (Ok summed) = answer ≡ map_ok (with_whole columns) (or_refused TooMany (fold after_row summed.groups (rows_shown summed.shown)).2)
AnswersGroups columns answer (Err refusal) = refusal ≢ OutOfMemory → answer ≡ Err refusal
