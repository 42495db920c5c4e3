use Rattle.std.proofs.Common.{◌∙◌, sym}
use Rattle.bt_record.proofs.Found.{none_after_mark, none_of_feeds, none_with_return, record_there, some_record}
use Rattle.bt_record.proofs.line.RecordLine.new.Goals.{then-has_only_feeds-via-then-has_only_feeds, then-has_only_feeds-via-else-has_only_feeds+then-has_mark}
use Rattle.bt_record.proofs.line.RecordLine.new.Goals.{then-has_only_feeds-via-else-has_only_feeds+else-has_mark+then-has_return}
use Rattle.bt_record.proofs.line.RecordLine.new.Goals as goal

pub returns-then-has_only_feeds : goal.returns-then-has_only_feeds
returns-then-has_only_feeds c =
    let line = c.args.line.now in
    let text = c.without_mark-text.result.now in
    let cut = c.without_mark-text.ensures in
    elim c.then-has_only_feeds.branch [
      | then-has_only_feeds-via-then-has_only_feeds w ↦ none_of_feeds line text cut (sym c.has_only_feeds.ensures ∙ w.if-has_only_feeds.true)
      | then-has_only_feeds-via-else-has_only_feeds+then-has_mark w ↦ none_after_mark line text cut (sym w.has_mark.ensures ∙ w.if-has_mark.true)
      | then-has_only_feeds-via-else-has_only_feeds+else-has_mark+then-has_return w ↦ none_with_return line text cut (sym w.has_return.ensures ∙ w.if-has_return.true)
    ]

pub invariant_of-result : goal.invariant_of-result
invariant_of-result c = some_record c.without_mark-text.result.now (sym c.has_only_feeds.ensures ∙ c.if-has_only_feeds.false) (sym c.has_return.ensures ∙ c.if-has_return.false)

pub returns : goal.returns
returns c =
    record_there c.args.line.now c.without_mark-text.result.now c.without_mark-text.ensures (sym c.has_only_feeds.ensures ∙ c.if-has_only_feeds.false) (sym c.has_mark.ensures ∙ c.if-has_mark.false)
    (sym c.has_return.ensures ∙ c.if-has_return.false)
