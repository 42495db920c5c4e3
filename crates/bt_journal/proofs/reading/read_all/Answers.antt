use Rattle.std.proofs.Common.{◌≡◌, ◌++◌, List, ℕ, [], subst, sym, ◌∙◌, ap}
use Rattle.std.proofs.lemmas.List.{append-nil}
use Rattle.bt_journal.specs.Files.{IsCause}
use Rattle.bt_journal.specs.declared.head.Head.{Head}
use Rattle.bt_journal.proofs.reading.read_all.Goals as goal

pub returns-in-Err-clause-cause : goal.returns-in-Err-clause-cause
returns-in-Err-clause-cause g c =
    let original = g.D.Disk.original in
    let fault = c.in-Err.fault in
    let front = original c.pieces.disk ++ c.deref.result.now in
    let is : front ++ [] ≡ original c.read_next.new.self =
    append-nil front ∙ ap (λ (l : List ℕ). original c.pieces.disk ++ l) c.deref.ensures.value ∙ sym c.in_ok-piece.ensures.read.more in
    subst (λ (h : Head). IsCause h (original c.read_next.new.self) fault) c.pieces.invariant.head
    (subst (λ (l : List ℕ). IsCause c.pieces.replay.head l fault) is (c.in-Err.ensures.cause (original c.pieces.disk) c.pieces.invariant.read []))

pub returns-in-Err-clause-refused : goal.returns-in-Err-clause-refused
returns-in-Err-clause-refused g c refusal file left =
    let original = g.D.Disk.original in
    let fault = c.in-Err.fault in
    let front = c.in_ok-piece.ensures.read.front file left in
    let is : original c.pieces.disk ++ c.deref.result.now ++ front.0 ≡ file =
    ap (λ (l : List ℕ). original c.pieces.disk ++ l ++ front.0) c.deref.ensures.value ∙ ap (λ (l : List ℕ). l ++ front.0) (sym c.in_ok-piece.ensures.read.more) ∙ sym front.1 in
    subst (λ (h : Head). IsCause h file fault) c.pieces.invariant.head
    (subst (λ (l : List ℕ). IsCause c.pieces.replay.head l fault) is (c.in-Err.ensures.cause (original c.pieces.disk) c.pieces.invariant.read front.0))
