use Rattle.std.proofs.Common.{◌≡◌, ◌++◌, ℕ, false, List, IfOk, IfErr, sym, ◌∙◌, ap, subst}
use Rattle.std.proofs.lemmas.List.{append-nil}
use Rattle.bt_journal.specs.Disks.{LeavesOnly}
use Rattle.bt_journal.specs.Files.{is_refusal}
use Rattle.bt_journal.specs.Stores.{Finds, OpeningValue, disk_of, opening_disk, opening_head, state_in, state_of}
use Rattle.bt_journal.proofs.offered.Moments.{read_before}
use Rattle.bt_journal.proofs.KeptStates.{if_ok_both, if_err_also}
use Rattle.bt_journal.proofs.reading.Opening.end.Goals as goal

pub returns-clause-any_moment : goal.returns-clause-any_moment
returns-clause-any_moment g c =
    let disk = g.D.Disk in
    let after = g.M.Machine.after in
    let blank = g.M.Machine.blank in
    let inside = c.self.inside in
    let read = c.note_read.ensures.read in
    let file = disk.contents c.note_read.new.self in
    subst (λ (o : OpeningValue g.row.D.Denot). IfOk c.store_of.result (λ store. LeavesOnly disk.moment disk.outcome_since (opening_disk o) (disk_of store)
    (Finds after blank (opening_head o) (state_in store)))) c.self.view_is
    (if_ok_both c.store_of.result _ _ _ c.store_of.ensures.state c.store_of.ensures.any_moment
    (λ store state run. subst (λ m. LeavesOnly disk.moment disk.outcome_since inside.disk (disk_of store) (Finds after blank inside.replay.head m)) (sym state)
    (read_before disk.moment disk.outcome_since disk.outcome inside.disk c.note_read.new.self (disk_of store) (Finds after blank inside.replay.head (state_of after blank file))
    (g.met.D.Disk.counts_now inside.disk) read.no_step read.since read.fewer run)))

pub returns-clause-any_moment_err : goal.returns-clause-any_moment_err
returns-clause-any_moment_err g c =
    let disk = g.D.Disk in
    let after = g.M.Machine.after in
    let blank = g.M.Machine.blank in
    let inside = c.self.inside in
    let read = c.note_read.ensures.read in
    let file = disk.contents c.note_read.new.self in
    let same : file ≡ disk.original inside.disk =
    read.whole c.new.ensures.items ∙ read.more ∙ ap (λ (l : List ℕ). disk.original inside.disk ++ l) c.new.ensures.items ∙ append-nil (disk.original inside.disk) in
    subst (λ (o : OpeningValue g.row.D.Denot). IfErr c.store_of.result (λ e. is_refusal e.0 ≡ false → LeavesOnly disk.moment disk.outcome_since (opening_disk o) e.1
    (Finds after blank (opening_head o) (state_of after blank (disk.original (opening_disk o)))))) c.self.view_is
    (if_err_also c.store_of.result _ _ c.store_of.ensures.any_moment_err
    (λ e run none. subst (λ (l : List ℕ). LeavesOnly disk.moment disk.outcome_since inside.disk e.1 (Finds after blank inside.replay.head (state_of after blank l))) same
    (read_before disk.moment disk.outcome_since disk.outcome inside.disk c.note_read.new.self e.1 (Finds after blank inside.replay.head (state_of after blank file))
    (g.met.D.Disk.counts_now inside.disk) read.no_step read.since read.fewer (run none))))
