use Rattle.std.proofs.Common.{◌<◌, Some, length}
use Rattle.bt_durable.specs.Inputs.{ReadsGroup}
use Rattle.bt_durable.specs.Payloads.{no_limit}
use Rattle.bt_durable.proofs.groups.frames_in.Given as goal

-- the requests that were read so far are the group
abbrev pub invariant-requests : goal.invariant-requests
invariant-requests l = record {
  group : ReadsGroup no_limit (Some l.fn.payload) (Some l.source) l.room.group.items;
  piece : 0 < length l.room.piece.items;
}
