use Rattle.std.proofs.Common.{◌++◌, OnOk, Option, refl, sym, ◌∙◌, subst}
use Rattle.bt_journal.specs.Files.{recovered}
use Rattle.bt_journal.specs.Stores.{IsReplayedTo}
use Rattle.bt_journal.specs.declared.head.Head.{Head}
use Rattle.bt_journal.proofs.ReadFiles.{longer}
use Rattle.bt_journal.proofs.replay.Replay.add.Goals as goal

pub returns-in-Some-clause-read : goal.returns-in-Some-clause-read
returns-in-Some-clause-read g c file r =
    let after = g.M.Machine.after in
    let blank = g.M.Machine.blank in
    let old = c.args.self.now in
    let found = c.in-Some.field-0 in
    let h = subst (λ (o : Option Head). IsReplayedTo after blank o file old) c.in-Some.is r in
    let more = longer after blank (recovered file) file found old h c.args.piece.now _ refl refl refl refl c.in_ok-extend_from_slice.ensures.items in
    subst (λ (o : Option Head). OnOk c.run.result (IsReplayedTo after blank o (file ++ c.args.piece.now) c.run.new.self)) (sym (c.run.ensures.same.0 ∙ c.in-Some.is))
    (c.run.ensures.run (recovered file) (file ++ c.args.piece.now) found more)

pub returns-in-Some-clause-cause : goal.returns-in-Some-clause-cause
returns-in-Some-clause-cause g c file r =
    let after = g.M.Machine.after in
    let blank = g.M.Machine.blank in
    let old = c.args.self.now in
    let found = c.in-Some.field-0 in
    let h = subst (λ (o : Option Head). IsReplayedTo after blank o file old) c.in-Some.is r in
    c.run.ensures.cause (recovered file) (file ++ c.args.piece.now) found
    (longer after blank (recovered file) file found old h c.args.piece.now _ refl refl refl refl c.in_ok-extend_from_slice.ensures.items)
