use Rattle.std.proofs.Common.{◌≡◌, ◌≤◌, IsTrue, List, ℕ}
use Rattle.bt_journal.specs.Stores.{IsReplayed}
use Rattle.bt_journal.proofs.reading.read_all.Given as goal

-- the bytes that were read have run, and no other call was made
abbrev pub invariant-pieces : goal.invariant-pieces
invariant-pieces g l = record {
  read : IsReplayed g.M.Machine.after g.M.Machine.blank (g.D.Disk.original l.disk) l.replay;
  healthy : IsTrue (g.D.Disk.is_healthy l.disk);
  fewer : (c : List ℕ) → g.D.Disk.outcome l.disk c → g.D.Disk.outcome l.fn.disk c;
  head : l.replay.head ≡ l.fn.replay.head;
  no_step : g.D.Disk.moment l.disk ≡ g.D.Disk.moment l.fn.disk;
  untaken : g.D.Disk.take_count l.disk ≡ g.D.Disk.take_count l.fn.disk;
  counted : g.D.Disk.fault_count l.fn.disk ≤ g.D.Disk.fault_count l.disk;
}
