use Rattle.std.proofs.Common.{◌≡◌, ◌+◌, ◌++◌, drop}
use Rattle.std.specs.List.{filter_map}
use Rattle.std.specs.Result.{result_err, result_ok}
use Rattle.bt_value.specs.Refusals.{lowest, lowest_from}
use Rattle.bt_batch.specs.Batches.{read_batch}
use Rattle.bt_batch.proofs.line_messages.read_lines.Given as goal

-- the messages so far and the lowest refusal so far are those of the lines before this one
abbrev pub invariant-loop-place : goal.invariant-loop-place
invariant-loop-place l = record {
  messages : filter_map result_ok (read_batch l.schema (l.before + 1) l.lines) ≡ l.reading.values ++ filter_map result_ok (read_batch l.schema (l.before + l.place + 1) (drop l.place l.lines));
  refusal : lowest (filter_map result_err (read_batch l.schema (l.before + 1) l.lines))
      ≡ lowest_from l.reading.refusal (filter_map result_err (read_batch l.schema (l.before + l.place + 1) (drop l.place l.lines)));
}
