use Rattle.bt_messages.proofs.Insertions.{inserted, placed_sorted}
use Rattle.bt_messages.proofs.share.insert.Goals as goal

pub returns-clause-inserted : goal.returns-clause-inserted
returns-clause-inserted g c =
    inserted c.args.entry c.args.messages.now.items c.insert.new.self.items c.count_up_to-place.result c.in-Ok.ensures.items
    (rw c.as_slice.ensures.value at c.count_up_to-place.ensures.up_to) (rw c.as_slice.ensures.value at c.count_up_to-place.ensures.past)

pub returns-clause-sorted : goal.returns-clause-sorted
returns-clause-sorted g c = placed_sorted c.args.entry c.args.messages.now.items c.insert.new.self.items (returns-clause-inserted g c) c.requires.sorted
