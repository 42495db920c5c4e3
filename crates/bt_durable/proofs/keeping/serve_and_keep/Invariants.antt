use Rattle.std.proofs.Common.{◌≡◌, ◌≤◌, List, [], ℕ, false}
use Rattle.bt_script.specs.Streams.{has_unflushed}
use Rattle.bt_frame.specs.declared.arrival.Arrival.{Arrival}
use Rattle.bt_journal.specs.Stores.{disk_of}
use Rattle.bt_durable.specs.Compacting.{HasServed}
use Rattle.bt_durable.specs.Inputs.{Arrive}
use Rattle.bt_durable.specs.Once.{is_compacted_once, once_after, once_reply}
use Rattle.bt_durable.proofs.keeping.serve_and_keep.Given as goal

-- what arrived so far has its replies
abbrev pub invariant-runs : goal.invariant-runs
invariant-runs g l =
    let disk = g.D.Disk in
    let s = g.S.Service in
    record {
      flushed : has_unflushed l.output ≡ false;
      counted : disk.fault_count (disk_of l.fn.store) ≤ disk.fault_count (disk_of l.store);
      run : (arrived : List (Arrival × List ℕ)) × Arrive l.most (g.I.Read.remaining l.fn.input) (g.I.Read.remaining l.source) arrived
          × HasServed (once_after s.after s.reply s.changes) (once_reply s.after s.reply s.changes) (s.blank, []) (is_compacted_once g.S.CompactService.is_compacted)
          disk.moment disk.outcome disk.outcome_since g.W.Write.contents l.fn.store l.store l.fn.output l.output arrived;
    }
