use Rattle.std.proofs.Common.{◌∙◌, ap, sym}
use Rattle.bt_durable.proofs.ServedPayloads.{left_after, tested_after, text_after}
use Rattle.bt_durable.proofs.service_machine.serve_payload.Goals as goal

pub returns-in-Ok-clause-after : goal.returns-in-Ok-clause-after
returns-in-Ok-clause-after g c =
    let all = c.in-Ok.ensures.served in
    left_after g.S.Service.after g.S.Service.reply c.args.service.now c.args.payload.now all.0 (sym (ap (λ r. r.now) c.new-reader.ensures.inner) ∙ all.1) c.serve.new.service all.3

pub returns-in-Ok-clause-changes : goal.returns-in-Ok-clause-changes
returns-in-Ok-clause-changes g c =
    let all = c.in-Ok.ensures.served in
    tested_after g.S.Service.after g.S.Service.reply c.args.service.now c.args.payload.now all.0 (sym (ap (λ r. r.now) c.new-reader.ensures.inner) ∙ all.1)
    g.S.Service.changes c.in-Ok.is_change all.4

pub returns-in-Ok-clause-replies : goal.returns-in-Ok-clause-replies
returns-in-Ok-clause-replies g c =
    let all = c.in-Ok.ensures.served in
    text_after g.S.Service.after g.S.Service.reply c.args.service.now c.args.payload.now all.0 (sym (ap (λ r. r.now) c.new-reader.ensures.inner) ∙ all.1)
    _ c.into_inner.result.items (ap (λ v. v.items) c.new-writer.ensures.inner ∙ c.clear.ensures.items) (ap (λ v. v.items) c.into_inner.ensures ∙ all.2.0)
