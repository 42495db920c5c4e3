use Rattle.std.proofs.Common.{◌++◌, ℕ, List, subst}
use Rattle.bt_journal.specs.Files.{IsCause}
use Rattle.bt_journal.specs.Stores.{OpeningValue, opening_disk, opening_head}
use Rattle.bt_journal.proofs.reading.Opening.read.Goals as goal

pub returns-in-Err-clause-cause : goal.returns-in-Err-clause-cause
returns-in-Err-clause-cause g c =
    let original = g.D.Disk.original in
    let inside = c.self.inside in
    subst (λ (o : OpeningValue g.row.D.Denot). (more : List ℕ) → IsCause (opening_head o) (original (opening_disk o) ++ c.args.piece.now.items ++ more) c.in-Err.fault) c.self.view_is
    (λ more. subst (λ (l : List ℕ). IsCause inside.replay.head (original inside.disk ++ l ++ more) c.in-Err.fault) c.deref.ensures.value
    (c.in-Err.ensures.cause (original inside.disk) c.self.invariant.0 more))
