use Rattle.std.proofs.Common.{[], ◌≡◌, ◌∙◌, ◌∷◌, None, Some, ap, codes, drop, rules, sym}
use Rattle.bt_script.specs.inside.Blocks.{block_answer}
use Rattle.bt_script.specs.Commands.{closing_of, command_of, get_command, load_command}
use Rattle.bt_script.specs.Lines.{text_of_lines, words}
use Rattle.bt_script.proofs.Gets.{closes_none, command_of_line}
use Rattle.bt_script.proofs.Machine.{load-answer, headed-block, headed-line}
use Rattle.bt_script.proofs.parse.parse_headed.Goals as goal

pub returns-then-is_get-clause-found : goal.returns-then-is_get-clause-found
returns-then-is_get-clause-found c =
    let head = c.args.head.now in
    let is : head ≡ 103 ∷ 101 ∷ 116 ∷ 32 ∷ drop 4 head = c.is_get.ensures c.if-is_get.true in
    let closes : closing_of (words head) ≡ None = ap (λ h. closing_of (words h)) is ∙ closes_none (drop 4 head) in
    let same : get_command head ≡ command_of head [] = ap get_command is ∙ sym (command_of_line (drop 4 head)) ∙ ap (λ h. command_of h []) (sym is) in
    headed-line _ c.args.script.now head c.args.at _ closes (c.get_command.ensures ∙ same) (c.parsed_command.ensures.found _)

pub returns-then-begins-clause-found : goal.returns-then-begins-clause-found
unfolding closing_of command_of
returns-then-begins-clause-found c =
    let head = c.args.head.now in
    let block = c.in_ok-content.ensures.block in
    let closes : closing_of (words head) ≡ Some (codes "end") = search rules in
    let made : command_of head block.0 ≡ c.batch_command.result = search rules in
    headed-block _ c.args.script.now head _ c.args.at _ _ _ closes block.2 (ap (block_answer _) made) (c.parsed_command-then-begins.ensures.found _)

pub returns-then-begins-2-clause-found : goal.returns-then-begins-2-clause-found
unfolding closing_of command_of
returns-then-begins-2-clause-found c =
    let head = c.args.head.now in
    let block = c.read_bounds-content.ensures.block in
    let closes : closing_of (words head) ≡ Some (codes "go") = search rules in
    let made : command_of head block.0 ≡ c.in_ok-command.command = search rules in
    headed-block _ c.args.script.now head _ c.args.at _ _ _ closes block.2 (ap (block_answer _) made) (c.parsed_command-then-begins-2.ensures.found _)

pub returns-then-begins-3-clause-found : goal.returns-then-begins-3-clause-found
unfolding closing_of command_of
returns-then-begins-3-clause-found c =
    let head = c.args.head.now in
    let block = c.read_bounds-content-then-begins-3.ensures.block in
    let closes : closing_of (words head) ≡ Some (codes "go") = search rules in
    let made : command_of head block.0 ≡ c.in_ok-command-2.command = search rules in
    headed-block _ c.args.script.now head _ c.args.at _ _ _ closes block.2 (ap (block_answer _) made) (c.parsed_command-then-begins-3.ensures.found _)

pub returns-then-begins-4-clause-found : goal.returns-then-begins-4-clause-found
unfolding closing_of command_of
returns-then-begins-4-clause-found c =
    let head = c.args.head.now in
    let read = c.read_block_text-content.result in
    let block = c.read_block_text-content.ensures.block in
    let closes : closing_of (words head) ≡ Some (codes ".") = search rules in
    let found : command_of head block.0 ≡ load_command (words head) (text_of_lines block.0) = search rules in
    let made : load_command (words head) read.content ≡ c.load_command.result = search rules in
    let same = ap (block_answer read.end) found ∙ load-answer read.end (words head) read.content (text_of_lines block.0) block.2 ∙ ap (block_answer read.end) made in
    headed-block _ c.args.script.now head _ c.args.at _ _ _ closes block.3 same (c.parsed_command-then-begins-4.ensures.found _)

pub returns-clause-found : goal.returns-clause-found
unfolding closing_of command_of
returns-clause-found c =
    let head = c.args.head.now in
    let closes : closing_of (words head) ≡ None = search rules in
    let made : c.in_ok-command-3.command ≡ command_of head [] = search rules in
    headed-line _ c.args.script.now head c.args.at _ closes made (c.parsed_command-2.ensures.found _)
