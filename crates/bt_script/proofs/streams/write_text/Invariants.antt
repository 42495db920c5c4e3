use Rattle.std.proofs.Common.{length, ◌-◌, ◌≡◌, ◌≤◌, take}
use Rattle.bt_script.specs.Streams.{Took, has_failed}
use Rattle.bt_script.proofs.streams.write_text.Given as goal

abbrev pub invariant-loop-at : goal.invariant-loop-at
invariant-loop-at g l = record {
  within : l.at ≤ length l.text;
  so_far : Took g.W.Write.contents l.fn.writer l.writer (take l.at l.text);
  failed : has_failed l.writer ≡ has_failed l.fn.writer;
}

abbrev pub decreases-loop-at : goal.decreases-loop-at
decreases-loop-at g l = length l.text - l.at
