use Rattle.std.proofs.Common.{IsTrue, subst}
use Rattle.bt_journal.specs.Stores.{StoreValue, disk_of, state_in, head_in, is_open, IsKept}
use Rattle.bt_journal.proofs.KeptStates.{stands}
use Rattle.bt_journal.proofs.store.Store.standing.Goals as goal

pub returns : goal.returns
returns g c =
    let disk = g.D.Disk in
    let after = g.M.Machine.after in
    let blank = g.M.Machine.blank in
    let inside = c.self.inside in
    subst (λ (s : StoreValue g.row.D.Denot g.row.M.Denot). IsTrue (is_open s) → IsKept disk.contents disk.outcome after blank (head_in s) (disk_of s) (state_in s)) c.self.view_is
    (λ open'. stands disk.contents disk.outcome disk.is_healthy after blank inside.journal inside.machine (c.self.invariant open'))
