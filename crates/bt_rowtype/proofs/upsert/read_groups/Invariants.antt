use Rattle.std.proofs.Common.{◌≡◌, ◌+◌, ◌*◌, ◌++◌, drop}
use Rattle.std.specs.List.{filter_map}
use Rattle.std.specs.Result.{result_err, result_ok}
use Rattle.bt_row.specs.Ops.{ops_of}
use Rattle.bt_value.specs.Refusals.{lowest, lowest_from}
use Rattle.bt_rowtype.proofs.upsert.read_groups.Given as goal

-- the operations so far and the lowest refusal so far are those of the groups before this one
abbrev pub invariant-loop-group : goal.invariant-loop-group
invariant-loop-group l = record {
  values : filter_map result_ok (ops_of l.schema l.item (drop l.schema.keys l.fields)) ≡ l.reading.values ++ filter_map result_ok (ops_of l.schema l.item (drop (l.keys + 3 * l.group) l.fields));
  refusal : lowest (filter_map result_err (ops_of l.schema l.item (drop l.schema.keys l.fields)))
      ≡ lowest_from l.reading.refusal (filter_map result_err (ops_of l.schema l.item (drop (l.keys + 3 * l.group) l.fields)));
}
