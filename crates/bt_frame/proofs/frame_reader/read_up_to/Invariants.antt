use Rattle.std.proofs.Common.{length, ◌-◌, ◌≡◌, ◌<◌, ◌≤◌}
use Rattle.std.specs.Prelude.{vec_len}
use Rattle.bt_script.specs.Streams.{Gave, has_failed}
use Rattle.bt_frame.proofs.frame_reader.read_up_to.Given as goal

abbrev pub invariant-pieces : goal.invariant-pieces
invariant-pieces g l = record {
  within : length l.bytes.items ≤ l.most;
  so_far : Gave g.R.Read.remaining l.fn.reader l.reader l.bytes.items;
  healthy : has_failed l.reader ≡ has_failed l.fn.reader;
  piece : 0 < length l.piece;
}

abbrev pub decreases-pieces : goal.decreases-pieces
decreases-pieces g l = l.most - vec_len l.bytes
