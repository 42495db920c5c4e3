use Rattle.std.proofs.Common.{rules, ◌≡◌, ◌∙◌, ◌++◌, [], ◌∷◌, List, ℕ, OnErr, Result, Ok, Err, ap, append-nil, append_assoc, length, refl, subst, sym}
use Rattle.bt_script.specs.Streams.{Took, TookPrefix}
use Rattle.bt_script.proofs.offered.Streams.{Took-kept, Took-nil, Took-trans, prefix-all, prefix-more}
use Rattle.bt_frame.specs.Frames.{frame, magic, number_bytes}
use Rattle.bt_frame.proofs.offered.Arrivals.{sent_arrives}
use Rattle.bt_frame.proofs.frame_writer.send.Goals as goal

on_err : {A E : Type 0} (result : Result A E) {Fact : Type 0} → Fact → OnErr result Fact
on_err (Ok a) fact = tt
on_err (Err e) fact = fact

-- the header and the payload
whole : (number : List ℕ) (kind : ℕ) (payload rest : List ℕ) → rest ≡ payload → magic ++ (number ++ kind ∷ payload) ≡ (magic ++ (number ++ kind ∷ [])) ++ rest
whole number kind payload rest is =
    ap (λ (l : List ℕ). magic ++ l) (ap (λ (l : List ℕ). number ++ kind ∷ l) (sym is) ∙ sym (append_assoc number (kind ∷ []) rest))

pub returns-in_err-write_text-clause-err : goal.returns-in_err-write_text-clause-err
returns-in_err-write_text-clause-err g c =
    let held = g.W.Write.contents in
    let old = c.args.writer.now in
    let number = number_bytes (length c.args.payload.now) in
    let rest = number ++ c.args.kind ∷ c.args.payload.now in
    on_err c.from_residual.result
    (prefix-more held old old c.write_text.new.writer (magic ++ rest) [] magic rest (Took-nil held old (search rules)) refl
    (subst (TookPrefix held old c.write_text.new.writer) c.as_slice.ensures c.in_err-write_text.ensures.err))

pub returns-in_err-write_text-2-clause-err : goal.returns-in_err-write_text-2-clause-err
returns-in_err-write_text-2-clause-err g c =
    let held = g.W.Write.contents in
    let old = c.args.writer.now in
    let number = number_bytes (length c.args.payload.now) in
    let rest = c.args.kind ∷ c.args.payload.now in
    let first : Took held old c.write_text.new.writer magic = subst (Took held old c.write_text.new.writer) c.as_slice.ensures c.in_ok-write_text.ensures.ok in
    on_err c.from_residual-in_err-write_text-2.result
    (prefix-more held old c.write_text.new.writer c.write_text-2.new.writer (magic ++ (number ++ rest)) magic number rest first refl
    (subst (TookPrefix held c.write_text.new.writer c.write_text-2.new.writer) c.number_bytes.ensures c.in_err-write_text-2.ensures.err))

pub returns-in_err-write_text-3-clause-err : goal.returns-in_err-write_text-3-clause-err
returns-in_err-write_text-3-clause-err g c =
    let held = g.W.Write.contents in
    let old = c.args.writer.now in
    let number = number_bytes (length c.args.payload.now) in
    let first : Took held old c.write_text.new.writer magic = subst (Took held old c.write_text.new.writer) c.as_slice.ensures c.in_ok-write_text.ensures.ok in
    let second : Took held c.write_text.new.writer c.write_text-2.new.writer number =
    subst (Took held c.write_text.new.writer c.write_text-2.new.writer) c.number_bytes.ensures c.in_ok-write_text-2.ensures.ok in
    on_err c.from_residual-in_err-write_text-3.result
    (prefix-more held old c.write_text-2.new.writer c.write_text-3.new.writer (magic ++ (number ++ c.args.kind ∷ c.args.payload.now)) (magic ++ number) (c.args.kind ∷ []) c.args.payload.now
    (Took-trans held old c.write_text.new.writer c.write_text-2.new.writer magic number first second) refl c.in_err-write_text-3.ensures.err)

pub returns-in_err-write_text-4-clause-err : goal.returns-in_err-write_text-4-clause-err
returns-in_err-write_text-4-clause-err g c =
    let held = g.W.Write.contents in
    let old = c.args.writer.now in
    let number = number_bytes (length c.args.payload.now) in
    let payload = c.args.payload.now in
    let kind = c.args.kind in
    let first : Took held old c.write_text.new.writer magic = subst (Took held old c.write_text.new.writer) c.as_slice.ensures c.in_ok-write_text.ensures.ok in
    let second : Took held c.write_text.new.writer c.write_text-2.new.writer number =
    subst (Took held c.write_text.new.writer c.write_text-2.new.writer) c.number_bytes.ensures c.in_ok-write_text-2.ensures.ok in
    let header : Took held old c.write_text-3.new.writer (magic ++ (number ++ kind ∷ [])) =
    Took-trans held old c.write_text-2.new.writer c.write_text-3.new.writer (magic ++ number) (kind ∷ [])
    (Took-trans held old c.write_text.new.writer c.write_text-2.new.writer magic number first second) c.in_ok-write_text-3.ensures.ok in
    on_err c.from_residual-in_err-write_text-4.result
    (prefix-more held old c.write_text-3.new.writer c.write_text-4.new.writer (magic ++ (number ++ kind ∷ payload)) (magic ++ (number ++ kind ∷ [])) payload [] header
    (whole number kind payload (payload ++ []) (append-nil payload)) c.in_err-write_text-4.ensures.err)

-- all is written, and the flush fails
pub returns-clause-err : goal.returns-clause-err
returns-clause-err g c =
    let held = g.W.Write.contents in
    let old = c.args.writer.now in
    let number = number_bytes (length c.args.payload.now) in
    let payload = c.args.payload.now in
    let kind = c.args.kind in
    let first : Took held old c.write_text.new.writer magic = subst (Took held old c.write_text.new.writer) c.as_slice.ensures c.in_ok-write_text.ensures.ok in
    let second : Took held c.write_text.new.writer c.write_text-2.new.writer number =
    subst (Took held c.write_text.new.writer c.write_text-2.new.writer) c.number_bytes.ensures c.in_ok-write_text-2.ensures.ok in
    let header : Took held old c.write_text-3.new.writer (magic ++ (number ++ kind ∷ [])) =
    Took-trans held old c.write_text-2.new.writer c.write_text-3.new.writer (magic ++ number) (kind ∷ [])
    (Took-trans held old c.write_text.new.writer c.write_text-2.new.writer magic number first second) c.in_ok-write_text-3.ensures.ok in
    let all : Took held old c.write_text-4.new.writer (frame kind payload) =
    subst (Took held old c.write_text-4.new.writer) (sym (whole number kind payload payload refl))
    (Took-trans held old c.write_text-3.new.writer c.write_text-4.new.writer (magic ++ (number ++ kind ∷ [])) payload header c.in_ok-write_text-4.ensures.ok) in
    on_err c.flush_written.result
    (prefix-all held old c.flush_written.new.writer (frame kind payload)
    (Took-kept held old c.write_text-4.new.writer c.flush_written.new.writer (frame kind payload) all c.flush_written.ensures.bytes c.flush_written.ensures.count))

-- ---- what is sent arrives

pub returns-in_err-write_text-clause-arrives : goal.returns-in_err-write_text-clause-arrives
returns-in_err-write_text-clause-arrives g c = sent_arrives

pub returns-in_err-write_text-2-clause-arrives : goal.returns-in_err-write_text-2-clause-arrives
returns-in_err-write_text-2-clause-arrives g c = sent_arrives

pub returns-in_err-write_text-3-clause-arrives : goal.returns-in_err-write_text-3-clause-arrives
returns-in_err-write_text-3-clause-arrives g c = sent_arrives

pub returns-in_err-write_text-4-clause-arrives : goal.returns-in_err-write_text-4-clause-arrives
returns-in_err-write_text-4-clause-arrives g c = sent_arrives

pub returns-clause-arrives : goal.returns-clause-arrives
returns-clause-arrives g c = sent_arrives
