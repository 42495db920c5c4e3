use Rattle.std.proofs.Common.{ℕ, arith, ap, ◌∙◌, drop, length-drop}
use Rattle.bt_script.proofs.Cuts.{after_all, after_feed, feed_after, next_line_at}
use Rattle.bt_script.proofs.lines.next_line.Goals.{then-end-rest, else-end-rest}
use Rattle.bt_script.proofs.lines.next_line.Goals as goal

pub returns-clause-line : goal.returns-clause-line
returns-clause-line c =
    let script = c.args.script.now in
    let at = c.args.at in
    let n = c.line_len-end.result in
    next_line_at script at n c.if-end-rest.next (omega arith) c.line_len-end.ensures (elim c.if-end-rest.branch [
      | then-end-rest w ↦ ap (λ (k : ℕ). drop k script) w.next-is ∙ after_feed script at n
      | else-end-rest w ↦ ap (λ (k : ℕ). drop k script) w.next-is ∙ after_all script at n (omega (arith, length-drop at script, w.if-end-rest))
    ])

pub returns-clause-feed : goal.returns-clause-feed
returns-clause-feed c = elim c.if-end-rest.branch [
  | then-end-rest w ↦ λ within. rw w.next-is (feed_after c.args.script.now c.args.at c.line_len-end.result c.line_len-end.ensures (omega (arith, within, w.next-is)))
  | else-end-rest w ↦ λ within. absurd (omega (arith, within, w.next-is))
]
