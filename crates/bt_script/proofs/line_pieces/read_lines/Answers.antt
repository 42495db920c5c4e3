use Rattle.std.proofs.Common.{List, Option, Some, [], ◌∷◌, ◌++◌, ◌≡◌, ◌∙◌, refl, sym, ap, rules, drop}
use Rattle.std.proofs.lemmas.List.{drop_all}
use Rattle.bt_script.specs.inside.Blocks.{and_line}
use Rattle.bt_script.specs.Commands.{items_of}
use Rattle.bt_script.specs.Lines.{lines, without_return}
use Rattle.bt_rowtype.specs.declared.item.Item.{Item}
use Rattle.bt_script.proofs.LinePieces.{lines-all, lines-more}
use Rattle.bt_script.proofs.Machine.{items-more}
use Rattle.bt_script.proofs.line_pieces.read_lines.Goals as goal

no_items : items_of [] ≡ Some []
unfolding items_of
no_items = refl

pub loop-at-init : goal.loop-at-init
loop-at-init c = record { within = search rules; so_far = ([], ap Some c.new.ensures ∙ sym no_items, refl) }

pub loop-at-preserved : goal.loop-at-preserved
loop-at-preserved c =
    let read = c.next_line-next in
    let line = read.result.0.now in
    let block = c.loop-at.invariant.so_far in
    record {
      within = read.ensures.within;
      so_far = (
        block.0 ++ line ∷ [],
        c.in_ok-items.ensures ∙ ap (and_line c.loop-at.items) c.without_return.ensures
            ∙ ap (λ (items : Option (List Item)). and_line items (without_return line)) block.1 ∙ sym (items-more block.0 line),
        lines-more _ (drop c.loop-at.at c.args.text.now) (drop read.result.1 c.args.text.now) line block.0 block.2 read.ensures.line,
      );
    }

pub returns : goal.returns
returns c =
    let text = c.args.text.now in
    let block = c.loop-at.invariant.so_far in
    block.1 ∙ ap items_of (sym (lines-all (lines text) (drop c.loop-at.at text) block.0 block.2 (drop_all c.loop-at.at text c.loop-at-test.false)))
