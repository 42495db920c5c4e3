use Rattle.std.proofs.Common.{◌≡◌, ◌+◌, ◌-◌, ◌<◌, ◌≤◌, ℕ, arith}
use Rattle.bt_gang.proofs.run_room.RunRoom.new.Goals as goal

all_others : (workers len : ℕ) → 0 < workers → len ≡ workers - 1 → len + 1 ≡ workers
all_others workers len some e = omega arith

with_caller : (workers room : ℕ) → 0 < workers → workers - 1 ≤ room → workers ≤ room + 1
with_caller workers room some l = omega arith

pub returns-clause-out : goal.returns-clause-out
returns-clause-out g c = c.in_ok-new-2.ensures

pub returns-clause-outs : goal.returns-clause-outs
returns-clause-outs g c = (c.in_ok-empty_answers.ensures.each, all_others _ _ c.requires c.in_ok-empty_answers.ensures.len)

pub returns-clause-workers : goal.returns-clause-workers
returns-clause-workers g c = (c.in_ok-with_capacity.ensures.items, with_caller _ _ c.requires c.in_ok-with_capacity.ensures.capacity)

pub returns-clause-children : goal.returns-clause-children
returns-clause-children g c = (c.in_ok-with_capacity-2.ensures.items, with_caller _ _ c.requires c.in_ok-with_capacity-2.ensures.capacity)

pub returns-clause-back : goal.returns-clause-back
returns-clause-back g c = (c.in_ok-with_capacity-3.ensures.items, with_caller _ _ c.requires c.in_ok-with_capacity-3.ensures.capacity)

pub returns-clause-answers : goal.returns-clause-answers
returns-clause-answers g c = (c.in_ok-with_capacity-4.ensures.items, with_caller _ _ c.requires c.in_ok-with_capacity-4.ensures.capacity)
