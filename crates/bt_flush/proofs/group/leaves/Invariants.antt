use Rattle.std.proofs.Common.{◌≡◌, ◌++◌, map}
use Rattle.bt_form.proofs.offered.flushes.Groups.{as_leaf}
use Rattle.bt_message.specs.declared.message.Message.{Message}
use Rattle.bt_flush.proofs.group.leaves.Given as goal

abbrev pub invariant-loop-part : goal.invariant-loop-part
invariant-loop-part g l =
    l.siblings ++ map (as_leaf (Message g.row.V.Denot g.row.V-Delta.Denot)) l.part-iterator.rest.items
    ≡ l.initial.siblings ++ map (as_leaf (Message g.row.V.Denot g.row.V-Delta.Denot)) l.initial.part-iterator.rest.items
