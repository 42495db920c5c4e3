use Rattle.std.proofs.Common.{rules, ◌∙◌, sym}
use Rattle.std.proofs.Math.Seq.{take-length}
use Rattle.std.proofs.lemmas.Result.{IfOk-weaker, IfErr-weaker}
use Rattle.bt_table.proofs.Steps.{key_is_text}
use Rattle.bt_table.proofs.table.Table.get.Goals as goal

pub returns-clause-done : goal.returns-clause-done
returns-clause-done c =
    let text = key_is_text c.self.inside.schema c.self.inside.heads.items c.self.inside.trees c.in-Some._trees c.in-Some.is c.args.self.now c.self.view_is
    c.args.fields.now c.in_ok-key.key c.in_ok-key.ensures c.in_ok-code.code (search (rules, take-length c.in_ok-key.key)) in
    IfOk-weaker c.get_at.result _ _ (λ reply is. sym text ∙ is) c.get_at.ensures.done

pub returns-clause-refused : goal.returns-clause-refused
returns-clause-refused c =
    let text = key_is_text c.self.inside.schema c.self.inside.heads.items c.self.inside.trees c.in-Some._trees c.in-Some.is c.args.self.now c.self.view_is
    c.args.fields.now c.in_ok-key.key c.in_ok-key.ensures c.in_ok-code.code (search (rules, take-length c.in_ok-key.key)) in
    IfErr-weaker c.get_at.result _ _ (λ refusal is certain. (sym text ∙ (is certain).0, (is certain).1)) c.get_at.ensures.refused
