use Rattle.std.proofs.Common.{◌≡◌, ◌+◌, ◌++◌, drop}
use Rattle.std.specs.List.{filter_map}
use Rattle.std.specs.Result.{result_err, result_ok}
use Rattle.bt_value.specs.Refusals.{lowest, lowest_from}
use Rattle.bt_load.specs.Loads.{typed_from}
use Rattle.bt_load.proofs.typing.type_in_turn.Given as goal

-- the rows so far and the lowest refusal so far are those of the records before this one
abbrev pub invariant-loop-place : goal.invariant-loop-place
invariant-loop-place l = record {
  values : l.reading.values ++ filter_map result_ok (typed_from l.schema.columns (1 + l.place) (drop l.place l.records)) ≡ filter_map result_ok (typed_from l.schema.columns 1 l.records);
  refusal : lowest_from l.reading.refusal (filter_map result_err (typed_from l.schema.columns (1 + l.place) (drop l.place l.records)))
      ≡ lowest (filter_map result_err (typed_from l.schema.columns 1 l.records));
}
