use Rattle.std.proofs.Common.{◌≡◌, drop}
use Rattle.std.specs.List.{filter_map}
use Rattle.bt_row.specs.Fits.{OpsInRange}
use Rattle.bt_row.specs.Ops.{fault_of}
use Rattle.bt_value.specs.Refusals.{lowest, lowest_from}
use Rattle.bt_row.proofs.operations.op_faults.lowest_fault.Given as goal

-- the least fault so far is that of the operations before this one, whose arguments are in range
abbrev pub invariant-loop-op : goal.invariant-loop-op
invariant-loop-op l = record {
  fault : lowest (filter_map (fault_of l.schema l.item) l.ops) ≡ lowest_from l.found (filter_map (fault_of l.schema l.item) (drop l.op-index l.ops));
  in_range : OpsInRange (drop l.op-index l.ops) → OpsInRange l.ops;
}
