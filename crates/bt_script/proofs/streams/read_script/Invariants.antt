use Rattle.std.proofs.Common.{length, ◌-◌, ◌≡◌, ◌<◌, ◌≤◌}
use Rattle.std.specs.Prelude.{vec_len}
use Rattle.bt_script.specs.Streams.{Gave, has_failed}
use Rattle.bt_script.specs.declared.streams.TheConstants.{SCRIPT_LIMIT}
use Rattle.bt_script.proofs.streams.read_script.Given as goal

abbrev pub invariant-pieces : goal.invariant-pieces
invariant-pieces g l = record {
  short : length l.script.items ≤ SCRIPT_LIMIT;
  so_far : Gave g.R.Read.remaining l.fn.reader l.reader l.script.items;
  healthy : has_failed l.reader ≡ has_failed l.fn.reader;
  piece : 0 < length l.piece;
}

abbrev pub decreases-pieces : goal.decreases-pieces
decreases-pieces g l = SCRIPT_LIMIT - vec_len l.script
