use Rattle.std.proofs.Common.{◌≡◌, ◌∙◌, Result, IfErr, sym, subst}
use Rattle.std.proofs.lemmas.Result.{IfOk-weaker, IfErr-weaker}
use Rattle.bt_value.specs.declared.refusal.Refusal.{Refusal}
use Rattle.bt_table.specs.Tables.{TableState}
use Rattle.bt_table.specs.declared.reply.Reply.{Reply}
use Rattle.bt_table.proofs.Steps.{packet_is_text, packet_suits}
use Rattle.bt_table.proofs.table.Table.apply.Goals as goal

-- the messages that are read are of the schema of the table
pub apply_messages-requires-clause-suits : goal.apply_messages-requires-clause-suits
apply_messages-requires-clause-suits g c =
    packet_suits c.self.inside.schema c.self.inside.heads.items c.self.inside.trees c.in-Some._trees c.in-Some.is c.self.invariant c.args.items.now
    c.in_ok-packet.packet c.in_ok-packet.ensures.packet c.args.self.now c.self.view_is

pub returns-clause-done : goal.returns-clause-done
returns-clause-done g c =
    let text = packet_is_text c.self.inside.schema c.self.inside.heads.items c.self.inside.trees c.in-Some._trees c.in-Some.is c.self.invariant c.args.items.now
    c.in_ok-packet.packet c.in_ok-packet.ensures.packet c.args.self.now c.self.view_is c.in_ok-packet.ensures.allowed in
    IfOk-weaker c.apply_messages.result _ _ (λ reply is. sym text ∙ is) c.apply_messages.ensures.done

pub returns-clause-refused : goal.returns-clause-refused
returns-clause-refused g c =
    let text = packet_is_text c.self.inside.schema c.self.inside.heads.items c.self.inside.trees c.in-Some._trees c.in-Some.is c.self.invariant c.args.items.now
    c.in_ok-packet.packet c.in_ok-packet.ensures.packet c.args.self.now c.self.view_is c.in_ok-packet.ensures.allowed in
    IfErr-weaker c.apply_messages.result _ _ (λ refusal is certain. (sym text ∙ (is certain).0, (is certain).1)) c.apply_messages.ensures.refused

pub returns-clause-kept : goal.returns-clause-kept
returns-clause-kept g c =
    let text = packet_is_text c.self.inside.schema c.self.inside.heads.items c.self.inside.trees c.in-Some._trees c.in-Some.is c.self.invariant c.args.items.now
    c.in_ok-packet.packet c.in_ok-packet.ensures.packet c.args.self.now c.self.view_is c.in_ok-packet.ensures.allowed in
    subst (λ (answer : Result (TableState × Reply) Refusal). IfErr answer (λ _. c.apply_messages.new.self ≡ c.args.self.now)) text c.apply_messages.ensures.kept
