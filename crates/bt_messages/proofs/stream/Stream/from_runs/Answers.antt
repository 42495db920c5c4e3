use Rattle.std.proofs.Common.{◌∙◌}
use Rattle.bt_messages.proofs.RunLists.{same_later}
use Rattle.bt_messages.proofs.stream.Stream.from_runs.Goals as goal

pub invariant_of-result : goal.invariant_of-result
invariant_of-result g c =
    same_later c.args.first c.from.result.items c.args.rest.items c.from-2.result.items c.args.count c.count.result c.requires (c.from.ensures.0
    ∙ c.into_messages.ensures.messages) c.from-2.ensures.0 c.count.ensures.count
