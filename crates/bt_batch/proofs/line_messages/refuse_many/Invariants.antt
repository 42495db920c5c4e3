use Rattle.std.proofs.Common.{◌≡◌, ◌+◌, drop}
use Rattle.std.specs.List.{filter_map}
use Rattle.std.specs.Result.{result_err}
use Rattle.bt_value.specs.Refusals.{lowest, lowest_from}
use Rattle.bt_batch.specs.Batches.{read_batch}
use Rattle.bt_batch.proofs.line_messages.refuse_many.Given as goal

-- the lowest refusal so far is that of the records before this one
abbrev pub invariant-loop-place : goal.invariant-loop-place
invariant-loop-place l = lowest (filter_map result_err (read_batch l.schema 1 l.items)) ≡ lowest_from l.found (filter_map result_err (read_batch l.schema (l.place + 1) (drop l.place l.items)))
