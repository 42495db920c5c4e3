-- Why a batch is refused.
use Rattle.std.specs.Prelude.{ℕ, ◌+◌, List, length, nat_lt, Option, Some, None, if◌then◌else◌}
use Rattle.bt_value.specs.declared.refusal.Refusal.TheVariants.{TooMany}
use Rattle.bt_row.specs.Schemas.{Schema}
use Rattle.bt_rowtype.specs.declared.item.Item.{Item}
use Rattle.bt_batch.specs.Batches.{most_messages}
use Rattle.bt_fault.specs.Calls.{line_reasons}
use Rattle.bt_fault.specs.Reasons.{lower_reason, lowest_reason, reason_at}
use Rattle.bt_fault.specs.declared.problem.Problem.TheVariants.{ManyMessages}
use Rattle.bt_fault.specs.declared.reason.Reason.{Reason}

-- the first message over the limit, if there is one
abbrev pub many_reason : ℕ → Option Reason
many_reason count = if nat_lt most_messages count then Some (reason_at TooMany (most_messages + 1) 0 ManyMessages) else None

-- why a batch is refused: the first of the lowest reasons of its lines, or the number of them
abbrev pub batch_reason : Schema → List Item → Option Reason
batch_reason schema items = lower_reason (lowest_reason (line_reasons schema 1 items)) (many_reason (length items))
