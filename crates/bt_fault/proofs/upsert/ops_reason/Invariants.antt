use Rattle.std.proofs.Common.{◌≡◌, ◌+◌, ◌*◌, drop, fold}
use Rattle.bt_fault.specs.Reasons.{lower_reason, lowest_reason, op_reasons}
use Rattle.bt_fault.proofs.upsert.ops_reason.Given as goal

-- the reason so far is that of the groups before this one
abbrev pub invariant-loop-group : goal.invariant-loop-group
invariant-loop-group l = lowest_reason (op_reasons l.schema l.item l.schema.keys (drop l.schema.keys l.fields))
    ≡ fold lower_reason l.found (op_reasons l.schema l.item (l.keys + 3 * l.group) (drop (l.keys + 3 * l.group) l.fields))
