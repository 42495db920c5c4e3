use Rattle.bt_script.proofs.Feeds.{before_feed, no_feed}
use Rattle.bt_script.proofs.lines.line_len.Goals as goal

pub returns-in-Some : goal.returns-in-Some
returns-in-Some c = before_feed c.args.text.now c.in-Some.place c.in-Some.ensures.0.high c.in-Some.ensures.0.before c.in-Some.ensures.1

pub returns-in-None : goal.returns-in-None
returns-in-None c = no_feed c.args.text.now c.in-None.ensures
