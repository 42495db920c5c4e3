use Rattle.std.proofs.Common.{ℕ, Bool, List, [], ◌≡◌, ◌∙◌, sym, ap, rules, drop, true, false}
use Rattle.std.proofs.lemmas.List.{drop_all}
use Rattle.bt_script.specs.inside.Blocks.{headed}
use Rattle.bt_script.specs.Commands.{Outside, commands_from, is_blank_line}
use Rattle.bt_script.specs.Lines.{is_blank, lines, without_return}
use Rattle.bt_script.proofs.Machine.{outside-blank, outside-end, outside-head}
use Rattle.bt_script.proofs.parse.next_head.Goals as goal

-- the test of the code is that of the definition
tested : (line inner : List ℕ) (found answer : Bool) → inner ≡ without_return line → found ≡ is_blank inner → found ≡ answer → is_blank_line line ≡ answer
tested line inner found answer cut test is = ap is_blank (sym cut) ∙ sym test ∙ is

pub returns-then-not-is_blank-clause-found : goal.returns-then-not-is_blank-clause-found
returns-then-not-is_blank-clause-found c =
    let line = c.next_line-next.result.0.now in
    let more = lines (drop c.next_line-next.result.1 c.args.script.now) in
    let answer : c.is_blank.result ≡ false = search rules in
    let some = tested line c.without_return-head.result.now c.is_blank.result false c.without_return-head.ensures c.is_blank.ensures answer in
    c.loop-place.invariant.same ∙ ap (commands_from Outside) c.next_line-next.ensures.line ∙ outside-head line more some
    ∙ ap (λ (h : List ℕ). headed h more) (sym c.without_return-head.ensures)

pub loop-place-preserved : goal.loop-place-preserved
loop-place-preserved c =
    let line = c.next_line-next.result.0.now in
    let more = lines (drop c.next_line-next.result.1 c.args.script.now) in
    let answer : c.is_blank.result ≡ true = search rules in
    let none = tested line c.without_return-head.result.now c.is_blank.result true c.without_return-head.ensures c.is_blank.ensures answer in
    record {
      past = search rules;
      same = c.loop-place.invariant.same ∙ ap (commands_from Outside) c.next_line-next.ensures.line ∙ outside-blank line more none;
    }

pub returns-clause-end : goal.returns-clause-end
returns-clause-end c =
    let none : drop c.loop-place.place c.args.script.now ≡ [] = drop_all c.loop-place.place c.args.script.now c.loop-place-test.false in
    c.loop-place.invariant.same ∙ ap (λ (rest : List ℕ). commands_from Outside (lines rest)) none ∙ outside-end
