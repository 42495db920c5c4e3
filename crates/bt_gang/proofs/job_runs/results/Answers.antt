use Rattle.std.proofs.Common.{◌≡◌, ◌≤◌, ℕ, ap, arith}
use Rattle.bt_gang.specs.Numbered.{present}
use Rattle.bt_gang.proofs.Filling.{answered, lowest_among, ok_full}
use Rattle.bt_gang.proofs.Finishing.{all_taken, are_empty, are_lists, memory_wanted, once}
use Rattle.bt_gang.proofs.job_runs.results.Goals as goal

fits : (n len : ℕ) {items room : ℕ} → items ≡ n → len ≡ items → n ≤ room → len ≤ room
fits n len e f l = omega arith

pub place_answers-taken-requires-clause-may : goal.place_answers-taken-requires-clause-may
place_answers-taken-requires-clause-may g c κs within = c.requires.come.may

pub place_answers-taken-requires-clause-slots : goal.place_answers-taken-requires-clause-slots
place_answers-taken-requires-clause-slots g c κs within = c.requires.places.slots

pub place_answers-taken-requires-clause-room : goal.place_answers-taken-requires-clause-room
place_answers-taken-requires-clause-room g c κs within = c.requires.places.taken

pub values_or_fault-requires : goal.values_or_fault-requires
values_or_fault-requires g c = let done = c.requires.places.done in (done.0, fits _ _ c.place_answers-taken.ensures.slots.size c.place_answers-taken.new.slots.ok.0 done.1)

pub returns-in-Ok-clause-jobs : goal.returns-in-Ok-clause-jobs
returns-in-Ok-clause-jobs g c = ap (λ v. v.jobs) c.requires.come.knows

pub returns-in-Ok-clause-taken : goal.returns-in-Ok-clause-taken
returns-in-Ok-clause-taken g c = are_lists (g.W.Work.allows c.args.shift.now.work.now) c.args.all.now.value.items _ (present c.args.answers.mine.list)
    c.args.answers.others.items c.requires.come _ c.place_answers-taken.ensures.numbers

pub returns-in-Ok-clause-absent : goal.returns-in-Ok-clause-absent
returns-in-Ok-clause-absent g c = are_empty (g.W.Work.allows c.args.shift.now.work.now) c.args.all.now.value.items _ (present c.args.answers.mine.list)
    c.args.answers.others.items c.requires.come _ c.place_answers-taken.ensures.numbers

pub returns-in-Ok-clause-settled : goal.returns-in-Ok-clause-settled
returns-in-Ok-clause-settled g c = c.requires.come.settled

pub returns-in-Ok-clause-board : goal.returns-in-Ok-clause-board
returns-in-Ok-clause-board g c =
    all_taken (g.W.Work.allows c.args.shift.now.work.now) c.args.all.now.value.items _ (present c.args.answers.mine.list) c.args.answers.others.items
    c.requires.come _ c.place_answers-taken.ensures.numbers _ c.place_answers-taken.ensures.slots (ok_full _ _ c.in-Ok.ensures.values)

pub returns-in-Ok-clause-once : goal.returns-in-Ok-clause-once
returns-in-Ok-clause-once g c =
    once (g.W.Work.allows c.args.shift.now.work.now) c.args.all.now.value.items _ (present c.args.answers.mine.list) c.args.answers.others.items
    c.requires.come _ c.place_answers-taken.ensures.numbers _ c.place_answers-taken.ensures.slots (ok_full _ _ c.in-Ok.ensures.values)

pub returns-in-Ok-clause-done : goal.returns-in-Ok-clause-done
returns-in-Ok-clause-done g c = answered (g.W.Work.allows c.args.shift.now.work.now) c.args.all.now.value.items _ _ _ c.place_answers-taken.ensures.slots c.in-Ok.ensures.values

pub returns-in-Err-clause-fault : goal.returns-in-Err-clause-fault
returns-in-Err-clause-fault g c = lowest_among (g.W.Work.allows c.args.shift.now.work.now) c.args.all.now.value.items _ _ _ c.place_answers-taken.ensures.slots c.in-Err.ensures.fault

pub returns-in-Err-clause-memory : goal.returns-in-Err-clause-memory
returns-in-Err-clause-memory g c = memory_wanted (g.W.Work.allows c.args.shift.now.work.now) c.args.all.now.value.items _ (present c.args.answers.mine.list)
    c.args.answers.others.items c.requires.come _ _ c.place_answers-taken.ensures.slots c.in-Err.ensures.fault
