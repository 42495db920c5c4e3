use Rattle.std.proofs.Common.{◌≡◌, ◌∙◌, List, Some, ap, codes, refl, sym, ℕ}
use Rattle.std.specs.Prelude.{option_map}
use Rattle.bt_script.specs.inside.Blocks.{block_answer}
use Rattle.bt_script.specs.Commands.{closing_of, command_of, items_of}
use Rattle.bt_script.specs.Lines.{lines, words}
use Rattle.bt_script.specs.declared.command.Command.TheVariants.{Batch}
use Rattle.bt_script.proofs.Machine.{headed-block}
use Rattle.bt_script.proofs.parse.parse_batch.Goals as goal

pub returns-clause-found : goal.returns-clause-found
unfolding closing_of command_of
returns-clause-found g c =
    let block = c.read_block_text-content.ensures.block in
    let closes : closing_of (words (codes "batch")) ≡ Some (codes "end") = refl in
    let made : command_of (codes "batch") block.0 ≡ option_map Batch (items_of block.0) = refl in
    let read : c.in_ok-items.items ≡ items_of block.0 = c.in_ok-items.ensures ∙ ap (λ (text : List ℕ). items_of (lines text)) c.as_bytes.ensures ∙ ap items_of block.1 in
    headed-block _ c.args.script.now (codes "batch") _ c.args.at _ _ _ closes block.3 (ap (block_answer _) (made ∙ sym (c.batch_command.ensures ∙ ap (option_map Batch) read))) (c.parsed_command.ensures.found _)
