use Rattle.std.proofs.Common.{◌∙◌, ◌+◌, ◌<◌, ◌≤◌, ◌^◌, ap, arith, rules, sym}
use Rattle.bt_keycode.specs.Codes.{eight_bytes}
use Rattle.bt_keycode.proofs.Prefixes.{first_decided}
use Rattle.bt_keycode.proofs.key.order_at.Goals as goal

pub returns-then-first-second-clause-apart : goal.returns-then-first-second-clause-apart
returns-then-first-second-clause-apart c =
    let first = c.eight_at-first.result in
    let second = c.eight_at-second.result in
    let low : first < 2 ^ 64 = search rules in
    let under : second < 2 ^ 64 = search rules in
    let few : c.args.place + 8 ≤ 22 = omega (arith, c.requires.within) in
    let decided = first_decided c.args.place 22 first second c.args.left.now c.args.right.now few low under c.requires.before c.eight_at-first.ensures
    c.eight_at-second.ensures c.if-first-second.true in
    cc

pub returns-clause-same : goal.returns-clause-same
returns-clause-same c = sym c.eight_at-first.ensures ∙ ap eight_bytes c.if-first-second.false ∙ c.eight_at-second.ensures
