use Rattle.std.proofs.Common.{◌≡◌, ◌∙◌, [], ap, sym}
use Rattle.std.specs.Option.{option_copied}
use Rattle.bt_message.specs.Messages.{messages_between, messages_outside}
use Rattle.bt_messages.proofs.offered.Totals.{nothing_pending}
use Rattle.bt_messages.proofs.buffer.Buffer.take_range.Goals as goal

pub returns-then-is_empty-clause-taken : goal.returns-then-is_empty-clause-taken
returns-then-is_empty-clause-taken g c =
    let none : c.args.self.now ≡ [] = nothing_pending c.args.self.now c.is_empty.result c.is_empty.ensures c.if-is_empty.true in
    c.new.ensures ∙ sym (ap (messages_between (option_copied c.args.from) (option_copied c.args.to)) none)

pub returns-then-is_empty-clause-left : goal.returns-then-is_empty-clause-left
returns-then-is_empty-clause-left g c =
    let none : c.args.self.now ≡ [] = nothing_pending c.args.self.now c.is_empty.result c.is_empty.ensures c.if-is_empty.true in
    none ∙ sym (ap (messages_outside (option_copied c.args.from) (option_copied c.args.to)) none)

pub returns-clause-taken : goal.returns-clause-taken
returns-clause-taken g c = c.from_buffer.ensures ∙ c.from_sorted.ensures ∙ c.in_ok-taken.ensures.taken ∙ ap (messages_between (option_copied c.args.from) (option_copied c.args.to)) c.self.view_is

pub returns-clause-left : goal.returns-clause-left
returns-clause-left g c = c.in_ok-taken.ensures.kept ∙ ap (messages_outside (option_copied c.args.from) (option_copied c.args.to)) c.self.view_is
