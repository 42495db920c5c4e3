use Rattle.std.proofs.Common.{◌∙◌, subst, sym}
use Rattle.bt_value.specs.Views.{content_of_ref}
use Rattle.bt_keycode.specs.inside.CodeBeginnings.{BeginsWithContent, BeginsWithNoContent}
use Rattle.bt_keycode.proofs.Decoding.{no_value, not_taken, value_found}
use Rattle.bt_keycode.proofs.decoder.first_value.Goals as goal

pub returns-in_err-content-clause-none : goal.returns-in_err-content-clause-none
returns-in_err-content-clause-none c =
    rw c.from_residual.ensures (no_value c.args.kind c.args.bytes.now (subst (λ f. BeginsWithNoContent f c.args.bytes.now) c.form.ensures c.in_err-content.ensures.none))

pub returns-then-takes-clause-found : goal.returns-then-takes-clause-found
returns-then-takes-clause-found c =
    let content = content_of_ref c.in_ok-content.content in
    let rest = c.in_ok-content.rest.now in
    rw c.with.ensures
    (value_found c.args.kind c.args.bytes.now content rest
    (subst (λ f. BeginsWithContent f c.args.bytes.now content rest) c.form.ensures c.in_ok-content.ensures.found) (sym c.takes.ensures ∙ c.if-takes.true))

pub returns-else-takes-clause-none : goal.returns-else-takes-clause-none
returns-else-takes-clause-none c =
    let content = content_of_ref c.in_ok-content.content in
    let rest = c.in_ok-content.rest.now in
    not_taken c.args.kind c.args.bytes.now content rest
    (subst (λ f. BeginsWithContent f c.args.bytes.now content rest) c.form.ensures c.in_ok-content.ensures.found) (sym c.takes.ensures ∙ c.if-takes.false)
