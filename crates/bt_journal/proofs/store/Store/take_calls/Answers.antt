use Rattle.std.proofs.Common.{IsTrue, subst}
use Rattle.bt_journal.specs.Stores.{StoreValue, is_open, IsConsistent}
use Rattle.bt_journal.specs.declared.journal.Journal.{Journal}
use Rattle.bt_journal.proofs.KeptStates.{same_file, stands}
use Rattle.bt_journal.proofs.store.Store.take_calls.Goals as goal

pub invariant_of-self : goal.invariant_of-self
invariant_of-self g c =
    let disk = g.D.Disk in
    let journal = c.self.inside.journal in
    let new = c.take_calls.new.self in
    let taken = c.take_calls.ensures.taken in
    let met = g.met.D.HostDisk in
    λ open'. same_file disk.contents disk.outcome disk.is_healthy g.M.Machine.after g.M.Machine.blank journal c.self.inside.machine new (met.same_contents journal.disk new taken)
    (met.same_outcome journal.disk new taken) (met.same_health journal.disk new taken) (c.self.invariant open')

pub returns-clause-kept : goal.returns-clause-kept
returns-clause-kept g c =
    let disk = g.D.Disk in
    let after = g.M.Machine.after in
    let blank = g.M.Machine.blank in
    let old = c.self.inside.journal in
    let new = c.take_calls.new.self in
    let taken = c.take_calls.ensures.taken in
    let met = g.met.D.HostDisk in
    let journal : Journal g.row.D.Denot = record { disk = new; head = old.head; end = old.end; seed = old.seed; zeros = old.zeros } in
    let opened = subst (λ (s : StoreValue g.row.D.Denot g.row.M.Denot). IsTrue (is_open s) → IsConsistent disk.contents disk.outcome disk.is_healthy after blank old c.self.inside.machine)
    c.self.view_is c.self.invariant in
    λ open'. stands disk.contents disk.outcome disk.is_healthy after blank journal c.self.inside.machine
    (same_file disk.contents disk.outcome disk.is_healthy after blank old c.self.inside.machine new (met.same_contents old.disk new taken) (met.same_outcome old.disk new taken)
    (met.same_health old.disk new taken) (opened open'))
