use Rattle.std.proofs.Common.{List, ℕ, [], ◌++◌, ◌≡◌, ◌∙◌, refl, sym, ap, rules, drop}
use Rattle.std.proofs.lemmas.List.{drop_all, take_rest}
use Rattle.bt_script.specs.Lines.{lines, text_of_lines}
use Rattle.bt_script.proofs.LinePieces.{lines-all, lines-block, lines-more}
use Rattle.bt_script.proofs.Machine.{read-closed, read-cut, read-more}
use Rattle.bt_script.proofs.Texts.{text-between, text-more}
use Rattle.bt_script.proofs.load.read_block_text.Goals as goal

no_text : text_of_lines [] ≡ []
unfolding text_of_lines
no_text = refl

pub loop-at-init : goal.loop-at-init
loop-at-init c = record { within = search rules; past = search rules; so_far = ([], (refl, λ _. rw no_text refl), λ head. refl) }

pub loop-at-preserved : goal.loop-at-preserved
loop-at-preserved c =
    let script = c.args.script.now in
    let read = c.next_line-next in
    let line = read.result.0.now in
    read-more script c.args.start c.loop-at.at c.args.closing.now _ c.loop-at.invariant read.result.1 line c.without_return.result.now c.is_word.result _ read.ensures.line
    (read.ensures.past, read.ensures.within) c.without_return.ensures c.is_word.ensures c.if-is_word.false (λ block made. (
      lines-more _ (drop c.loop-at.at script) (drop read.result.1 script) line block made.0 read.ensures.line,
      λ more. made.1 c.loop-at-test.true ∙ ap (λ (l : List ℕ). text_of_lines block ++ l) (read.ensures.feed more) ∙ sym (text-more block line (drop read.result.1 script)),
    ))

pub returns-then-is_word-clause-block : goal.returns-then-is_word-clause-block
returns-then-is_word-clause-block c =
    let script = c.args.script.now in
    let at = c.loop-at.at in
    let so_far = c.loop-at.invariant in
    let read = c.next_line-next in
    let block = read-closed script c.args.start at c.args.closing.now _ so_far read.result.1 read.result.0.now c.without_return.result.now c.is_word.result read.ensures.line
    c.without_return.ensures c.is_word.ensures c.if-is_word.true in
    let text = block.1.1 c.loop-at-test.true in
    let between = text-between script (text_of_lines block.0) c.args.start at so_far.past so_far.within text in
    (block.0, ap lines between ∙ lines-block (drop c.args.start script) (drop at script) block.0 block.1.0 text, λ _. between, block.2)

pub returns-clause-block : goal.returns-clause-block
returns-clause-block c =
    let script = c.args.script.now in
    let block = read-cut script c.args.start c.loop-at.at c.args.closing.now _ c.loop-at.invariant c.loop-at-test.false in
    let all = lines-all (lines (drop c.args.start script)) (drop c.loop-at.at script) block.0 block.1.0 (drop_all c.loop-at.at script c.loop-at-test.false) in
    (block.0, ap lines (take_rest script c.args.start) ∙ all, λ closed. cc closed, block.2)
