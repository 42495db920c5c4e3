use Rattle.std.proofs.Common.{◌≡◌, ◌<◌, ◌≤◌, ℕ, arith}
use Rattle.bt_gang.proofs.answers.answer_rooms.Goals as goal

room_left : (len counter n room : ℕ) → len ≡ counter → counter < n → n ≤ room → len < room
room_left len counter n room e l m = omega arith

pub push_reserved-requires : goal.push_reserved-requires
push_reserved-requires g c = let i = c.loop.invariant in room_left _ _ _ _ i.count c.loop-test.true i.room
