use Rattle.std.proofs.Common.{List, Option, Some, None, ◌≡◌, ◌∙◌, sym, ap}
use Rattle.bt_script.specs.inside.Blocks.{with_last}
use Rattle.bt_script.specs.Commands.{item_from}
use Rattle.bt_rowtype.specs.declared.item.Item.{Item}
use Rattle.bt_script.proofs.Blanks.{and-blank, and-item}
use Rattle.bt_script.proofs.blocks.and_item.Goals as goal

pub returns-then-is_empty : goal.returns-then-is_empty
returns-then-is_empty c = sym (and-blank c.args.items c.args.line.now c.without_spaces-text.result.now c.without_spaces-text.ensures (sym c.is_empty.ensures ∙ c.if-is_empty.true))

pub returns-in_default-parse_item : goal.returns-in_default-parse_item
returns-in_default-parse_item c =
    let text = c.without_spaces-text.result.now in
    let one = and-item c.args.items c.args.line.now text c.without_spaces-text.ensures (sym c.is_empty.ensures ∙ c.if-is_empty.false) in
    let none : item_from text ≡ None = sym c.parse_item.ensures ∙ c.in_default-parse_item.is in
    sym (one ∙ ap (λ (items : Option (List Item)). with_last items (item_from text)) c.in-Some.is ∙ ap (with_last (Some c.in-Some.items)) none)

pub returns : goal.returns
returns c =
    let text = c.without_spaces-text.result.now in
    let one = and-item c.args.items c.args.line.now text c.without_spaces-text.ensures (sym c.is_empty.ensures ∙ c.if-is_empty.false) in
    let some : item_from text ≡ Some c.in-Some-parse_item.item = sym c.parse_item.ensures ∙ c.in-Some-parse_item.is in
    ap Some c.in_ok-push.ensures.ok ∙ sym (one ∙ ap (λ (items : Option (List Item)). with_last items (item_from text)) c.in-Some.is ∙ ap (with_last (Some c.in-Some.items)) some)
