use Rattle.std.proofs.Common.{◌≡◌, ◌<◌, ◌≤◌, List, ℕ, false, length}
use Rattle.bt_script.specs.Streams.{has_unflushed}
use Rattle.bt_frame.specs.declared.arrival.Arrival.{Arrival}
use Rattle.bt_journal.specs.Stores.{disk_of}
use Rattle.bt_durable.specs.Inputs.{Arrive}
use Rattle.bt_durable.specs.Keeping.{HasReplied}
use Rattle.bt_durable.proofs.keeping.serve_until.Given as goal

-- what arrived so far has its replies
abbrev pub invariant-groups : goal.invariant-groups
invariant-groups g l =
    let disk = g.D.Disk in
    let service = g.S.Service in
    record {
      piece : 0 < length l.room.piece.items;
      flushed : has_unflushed l.output ≡ false;
      counted : disk.fault_count (disk_of l.fn.store) ≤ disk.fault_count (disk_of l.store);
      run : (arrived : List (Arrival × List ℕ)) × Arrive l.most (g.I.Read.remaining l.fn.input) (g.I.Read.remaining l.source) arrived
          × HasReplied service.after service.reply service.blank disk.moment disk.outcome disk.outcome_since g.W.Write.contents l.fn.store l.store l.fn.output l.output arrived;
    }
