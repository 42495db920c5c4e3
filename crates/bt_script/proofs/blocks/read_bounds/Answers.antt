use Rattle.std.proofs.Common.{Option, Some, None, [], ◌≡◌, refl, ◌∙◌, sym, ap, rules, codes}
use Rattle.bt_script.specs.inside.Blocks.{and_bound}
use Rattle.bt_script.specs.Commands.{bounds_between, bounds_of}
use Rattle.bt_script.specs.Lines.{without_return}
use Rattle.bt_script.specs.declared.command.Bounds.{Bounds}
use Rattle.bt_script.proofs.Machine.{bounds-more, read-closed, read-cut, read-more}
use Rattle.bt_script.proofs.blocks.read_bounds.Goals as goal

no_bounds : bounds_of [] ≡ Some (bounds_between None None)
unfolding bounds_of
no_bounds = refl

pub loop-at-init : goal.loop-at-init
loop-at-init c = record { within = search rules; past = search rules; so_far = ([], sym no_bounds, λ head. refl) }

pub loop-at-preserved : goal.loop-at-preserved
loop-at-preserved c =
    let read = c.next_line-next in
    let line = read.result.0.now in
    read-more c.args.script.now c.args.start c.loop-at.at (codes "go") _ c.loop-at.invariant read.result.1 line c.without_return-line.result.now c.is_word.result _ read.ensures.line
    (read.ensures.past, read.ensures.within) c.without_return-line.ensures c.is_word.ensures c.if-is_word.false (λ block made.
    c.and_bound-bounds.ensures ∙ ap (and_bound c.loop-at.bounds) c.without_return-line.ensures
    ∙ ap (λ (bounds : Option Bounds). and_bound bounds (without_return line)) made ∙ sym (bounds-more block line))

pub returns-then-is_word-clause-block : goal.returns-then-is_word-clause-block
returns-then-is_word-clause-block c =
    let read = c.next_line-next in
    read-closed c.args.script.now c.args.start c.loop-at.at (codes "go") _ c.loop-at.invariant read.result.1 read.result.0.now c.without_return-line.result.now c.is_word.result read.ensures.line
    c.without_return-line.ensures c.is_word.ensures c.if-is_word.true

pub returns-clause-block : goal.returns-clause-block
returns-clause-block c = read-cut c.args.script.now c.args.start c.loop-at.at (codes "go") _ c.loop-at.invariant c.loop-at-test.false
