use Rattle.std.proofs.Common.{◌≡◌, ◌+◌, ◌-◌, ◌≤◌, length, drop}
use Rattle.bt_journal.specs.Frames.{all_at, extent, seed_after}
use Rattle.bt_journal.specs.Stores.{after_all}
use Rattle.bt_journal.proofs.replay.run_frames.Given as goal

abbrev pub invariant-frames : goal.invariant-frames
invariant-frames g l = record {
  within : l.at ≤ length l.bytes;
  rest : after_all g.M.Machine.after l.machine (all_at l.next (drop l.at l.bytes)) ≡ after_all g.M.Machine.after l.fn.machine (all_at l.fn.seed l.bytes);
  end : l.at + extent (all_at l.next (drop l.at l.bytes)) ≡ extent (all_at l.fn.seed l.bytes);
  seed : seed_after l.next (all_at l.next (drop l.at l.bytes)) ≡ seed_after l.fn.seed (all_at l.fn.seed l.bytes);
}

abbrev pub decreases-frames : goal.decreases-frames
decreases-frames g l = length l.bytes - l.at
