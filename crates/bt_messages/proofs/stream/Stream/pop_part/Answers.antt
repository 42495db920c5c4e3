use Rattle.std.proofs.Common.{◌++◌, ◌∙◌, ap, subst, sym, take}
use Rattle.bt_keycode.specs.Keys.{IsSorted}
use Rattle.bt_messages.proofs.offered.Fronts.{sorted_take}
use Rattle.bt_messages.proofs.stream.Stream.pop_part.Goals as goal

pub from_sorted-requires : goal.from_sorted-requires
from_sorted-requires g c =
    let front = take c.args.count c.args.self.now in
    subst IsSorted (sym (c.move_front.ensures.moved ∙ ap (λ ms. ms ++ front) c.in_ok-part.ensures.items)) (sorted_take c.args.count c.args.self.now c.len-sorted.ensures.sorted)
