use Rattle.std.proofs.Common.{◌++◌, ◌∙◌, ap, arith}
use Rattle.bt_value.specs.Lists.{concatenation}
use Rattle.bt_messages.proofs.RunLists.{whole_runs}
use Rattle.bt_messages.proofs.packet.sorted_by_messages.Goals as goal

pub from_runs-requires : goal.from_runs-requires
from_runs-requires g c =
    whole_runs c.new.result c.in_ok-runs.runs.items c.sort.new.batch.items c.len-count.result c.new.ensures c.in_ok-runs.ensures.some c.in_ok-sort.ensures.sorted c.in_ok-runs.ensures.concatenation
    (omega (arith, c.len-count.ensures, c.sort.new.batch.ok)) (omega (arith, c.len-count.ensures, c.sort.new.batch.ok, c.sort.new.batch.small))

pub returns : goal.returns
returns g c = c.from_runs.ensures ∙ ap (λ ms. ms ++ concatenation c.in_ok-runs.runs.items) c.new.ensures ∙ c.in_ok-runs.ensures.concatenation ∙ c.in_ok-sort.ensures.value
