use Rattle.std.proofs.Common.{◌<◌, length}
use Rattle.bt_durable.specs.Inputs.{ReadsGroup}
use Rattle.bt_durable.proofs.groups.receive_group.Given as goal

-- the requests that were read so far are the group
abbrev pub invariant-requests : goal.invariant-requests
invariant-requests g l = record {
  group : ReadsGroup l.most (g.I.Read.remaining l.fn.input) (g.I.Read.remaining l.source) l.room.group.items;
  piece : 0 < length l.room.piece.items;
}
