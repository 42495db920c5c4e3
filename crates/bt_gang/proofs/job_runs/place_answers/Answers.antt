use Rattle.std.proofs.Common.{◌≡◌, ◌+◌, ◌<◌, ◌≤◌, ℕ, length, map, ap, arith}
use Rattle.bt_gang.specs.Numbered.{present}
use Rattle.bt_value.specs.Lists.{concatenation}
use Rattle.bt_gang.specs.inside.Places.{answers_in}
use Rattle.bt_gang.proofs.Finishing.{below_own, below_rest, filled_all, lists_placed}
use Rattle.bt_gang.proofs.job_runs.place_answers.Goals as goal

some_room : (taken len others room : ℕ) → taken ≡ len → len ≡ 0 → others + 1 ≤ room → taken < room
some_room taken len others room e none l = omega arith

room_left : (taken was len others room before : ℕ) → taken ≡ was + 1 → was ≡ len → len ≡ 0 → room ≡ before → others + 1 ≤ before → taken + others ≤ room
room_left taken was len others room before e f none r l = omega arith

all_listed : (lists taken was len others : ℕ) → lists ≡ taken + others → taken ≡ was + 1 → was ≡ len → len ≡ 0 → lists ≡ others + 1
all_listed lists taken was len others a e f none = omega arith

pub push_reserved-requires : goal.push_reserved-requires
push_reserved-requires g c = some_room _ _ _ _ c.args.taken.ok.0 (ap length c.requires.room.0) c.requires.room.1

pub place-requires : goal.place-requires
place-requires g c =
    let shift = c.args.shift.now in
    record {
      numbers = below_own (g.W.Work.allows shift.work.now) c.args.all.now.value.items (present c.args.mine.list)
          (concatenation (map answers_in c.args.others.items)) c.requires.may _ c.requires.slots;
    }

pub place_all-requires-clause-numbers : goal.place_all-requires-clause-numbers
place_all-requires-clause-numbers g c =
    let shift = c.args.shift.now in
    below_rest (g.W.Work.allows shift.work.now) c.args.all.now.value.items (present c.args.mine.list) (concatenation (map answers_in c.args.others.items))
    c.requires.may _ c.requires.slots _ c.place.ensures.slots

pub place_all-requires-clause-room : goal.place_all-requires-clause-room
place_all-requires-clause-room g c =
    let p = c.push_reserved.ensures in
    room_left _ _ _ _ _ _ p.len c.args.taken.ok.0 (ap length c.requires.room.0) p.capacity c.requires.room.1

pub returns-clause-slots : goal.returns-clause-slots
returns-clause-slots g c =
    let shift = c.args.shift.now in
    filled_all (g.W.Work.allows shift.work.now) c.args.all.now.value.items (present c.args.mine.list) (concatenation (map answers_in c.args.others.items))
    c.requires.may _ c.requires.slots _ c.place.ensures.slots _ c.place_all.ensures.slots

pub returns-clause-numbers : goal.returns-clause-numbers
returns-clause-numbers g c =
    lists_placed (present c.args.mine.list) c.args.others.items c.place_all.result.items _ _ _ c.requires.room.0 c.push_reserved.ensures.items c.place.ensures.numbers c.place_all.ensures.numbers

pub returns-clause-len : goal.returns-clause-len
returns-clause-len g c = all_listed _ _ _ _ _ c.place_all.ensures.len c.push_reserved.ensures.len c.args.taken.ok.0 (ap length c.requires.room.0)
