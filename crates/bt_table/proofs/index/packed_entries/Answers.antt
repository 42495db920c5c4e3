use Rattle.std.proofs.Common.{◌∙◌, ap}
use Rattle.std.proofs.lemmas.Result.{IfOk-weaker}
use Rattle.bt_flush.specs.Drains.{packed}
use Rattle.bt_table.proofs.index.packed_entries.Goals as goal

pub returns : goal.returns
returns g c =
    IfOk-weaker c.pack.result _ _ (λ tree is. is ∙ ap (λ entries. (c.args.shape, packed c.args.shape entries)) c.in_ok-entries.ensures.entries) c.pack.ensures.tree
