use Rattle.std.proofs.Common.{rules, ◌∙◌, ◌++◌, [], OnErr, Result, Ok, Err, ap, append-nil, append_assoc, codes, refl, subst, sym}
use Rattle.std.proofs.lemmas.Result.{on_err_weaker}
use Rattle.bt_script.specs.Streams.{Took, TookPrefix, error_line}
use Rattle.bt_script.proofs.offered.Streams.{Took-nil, Took-trans, prefix-more}
use Rattle.bt_script.proofs.streams.write_error.Goals as goal

on_err : {A E : Type 0} (result : Result A E) {Fact : Type 0} → Fact → OnErr result Fact
on_err (Ok a) fact = tt
on_err (Err e) fact = fact

pub returns-in_err-write_text-clause-err : goal.returns-in_err-write_text-clause-err
returns-in_err-write_text-clause-err g c =
    let held = g.W.Write.contents in
    let old = c.args.errors.now in
    let message = c.args.message.now in
    on_err c.from_residual.result
    (prefix-more held old old c.write_text.new.writer (error_line message) [] (codes "betable: ") (message ++ codes "\n") (Took-nil held old (search rules)) refl c.in_err-write_text.ensures.err)

pub returns-in_err-write_text-2-clause-err : goal.returns-in_err-write_text-2-clause-err
returns-in_err-write_text-2-clause-err g c =
    let held = g.W.Write.contents in
    let old = c.args.errors.now in
    let message = c.args.message.now in
    on_err c.from_residual-in_err-write_text-2.result
    (prefix-more held old c.write_text.new.writer c.write_text-2.new.writer (error_line message) (codes "betable: ") message (codes "\n") c.in_ok-write_text.ensures.ok refl
    (subst (TookPrefix held c.write_text.new.writer c.write_text-2.new.writer) c.as_bytes.ensures.value c.in_err-write_text-2.ensures.err))

pub returns-clause-err : goal.returns-clause-err
returns-clause-err g c =
    let held = g.W.Write.contents in
    let old = c.args.errors.now in
    let message = c.args.message.now in
    let so_far : Took held old c.write_text-2.new.writer (codes "betable: " ++ message) =
    Took-trans held old c.write_text.new.writer c.write_text-2.new.writer (codes "betable: ") message c.in_ok-write_text.ensures.ok
    (subst (Took held c.write_text.new.writer c.write_text-2.new.writer) c.as_bytes.ensures.value c.in_ok-write_text-2.ensures.ok) in
    on_err_weaker c.write_text-3.result
    (λ prefix. prefix-more held old c.write_text-2.new.writer c.write_text-3.new.writer (error_line message) (codes "betable: " ++ message) (codes "\n") [] so_far
    (ap (λ l. codes "betable: " ++ (message ++ l)) (sym (append-nil (codes "\n"))) ∙ sym (append_assoc (codes "betable: ") message (codes "\n" ++ []))) prefix) c.write_text-3.ensures.err
