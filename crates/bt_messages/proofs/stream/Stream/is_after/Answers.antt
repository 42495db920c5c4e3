use Rattle.std.proofs.Common.{◌≡◌, ◌∙◌, false, sym}
use Rattle.std.proofs.lemmas.Bool.{not-true}
use Rattle.bt_messages.specs.inside.Runs.{begins_before}
use Rattle.bt_messages.proofs.Merging.{none_old}
use Rattle.bt_messages.proofs.RunLists.{after_last}
use Rattle.bt_messages.proofs.stream.Stream.is_after.Goals as goal

pub returns-in-empty : goal.returns-in-empty
returns-in-empty g c = λ e n. none_old c.args.older.now c.args.self.now n c.in-empty.len_below c.len-sorted.ensures.sorted

pub returns-in-len1-up : goal.returns-in-len1-up
returns-in-len1-up g c = λ e n.
    let later : begins_before c.last-item.result.0 c.args.self.now ≡ false = sym c.begins_before.ensures.begins ∙ not-true c.begins_before.result e in
    after_last c.args.older.now c.args.self.now c.last-item.result n c.requires c.len-sorted.ensures.sorted c.in-len1-up.len_at_least c.last-item.is later
