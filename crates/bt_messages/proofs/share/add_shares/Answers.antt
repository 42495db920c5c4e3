use Rattle.std.proofs.Common.{◌≡◌, ◌<◌, ◌∙◌, None, ap, arith, drop, get_or, length, refl, set, subst, sym}
use Rattle.std.proofs.lemmas.List.{set-get_or}
use Rattle.std.proofs.lemmas.Result.{on_err_weaker, on_ok_weaker}
use Rattle.bt_messages.specs.Shares.{counts}
use Rattle.bt_message.specs.Weights.{weigh_of}
use Rattle.bt_messages.specs.declared.share.Share.{Share}
use Rattle.bt_messages.specs.inside.Rooms.{HaveRoom}
use Rattle.bt_messages.proofs.Insertions.{one_gained, one_together, only_share}
use Rattle.bt_messages.proofs.Weighing.{count_here, length-counts}
use Rattle.bt_messages.proofs.offered.Loads.{shares-within}
use Rattle.bt_messages.proofs.share.add_shares.Goals as goal

pub add_front-requires : goal.add_front-requires
add_front-requires g c =
    let none : Share = record { count = 0; weight = None } in
    only_share (weigh_of g.V.Merge.terms) c.args.stream.now c.args.shares.now c.in-Some.place none c.in-Some.ensures.bound c.in-Some.ensures.only c.requires.shares

pub returns-in-Some-clause-added : goal.returns-in-Some-clause-added
returns-in-Some-clause-added g c =
    let ss = c.args.shares.now in
    let i = c.in-Some.place in
    let none : Share = record { count = 0; weight = None } in
    let n = (get_or ss i none).count in
    let same : length (counts ss) ≡ length c.args.buffers.now.items = length-counts ss ∙ c.requires.len in
    let within : i < length (counts ss) = omega (arith, c.in-Some.ensures.bound, length-counts ss) in
    let here = count_here ss i none n c.in-Some.ensures.bound refl in
    on_ok_weaker c.add_front.result
    (λ gained. one_gained (counts ss) c.args.stream.now c.args.buffers.now.items i n c.index_mut.result.now c.add_front.new.self same within here
    c.index_mut.ensures.value c.in-Some.ensures.only gained)
    c.add_front.ensures.added

pub returns-in-Some-clause-left : goal.returns-in-Some-clause-left
returns-in-Some-clause-left g c =
    let ss = c.args.shares.now in
    let i = c.in-Some.place in
    let none : Share = record { count = 0; weight = None } in
    let n = (get_or ss i none).count in
    let within : i < length (counts ss) = omega (arith, c.in-Some.ensures.bound, length-counts ss) in
    let all = one_together (counts ss) i n within (count_here ss i none n c.in-Some.ensures.bound refl) c.in-Some.ensures.only in
    on_ok_weaker c.add_front.result (λ left. left ∙ ap (λ k. drop k c.args.stream.now) (sym all)) c.add_front.ensures.left

pub returns-in-Some-clause-err : goal.returns-in-Some-clause-err
returns-in-Some-clause-err g c =
    let buffers = c.args.buffers.now.items in
    let place = c.in-Some.place in
    on_err_weaker c.add_front.result (λ same. ap (set buffers place) (same ∙ c.index_mut.ensures.value) ∙ set-get_or buffers place c.index_mut.result.now) c.add_front.ensures.err

pub room_for_each-requires-clause-len : goal.room_for_each-requires-clause-len
room_for_each-requires-clause-len g c = c.requires.len ∙ sym (ap length c.as_slice.ensures.value)

pub room_for_each-requires-clause-bound : goal.room_for_each-requires-clause-bound
room_for_each-requires-clause-bound g c =
    omega (arith, shares-within (weigh_of g.V.Merge.terms) c.args.stream.now c.args.shares.now c.requires.shares, c.len-bound.ensures.len, c.len-bound.ensures.bound)

pub move_each-requires-clause-rooms_len : goal.move_each-requires-clause-rooms_len
move_each-requires-clause-rooms_len g c = c.in_ok-rooms.ensures.len

pub move_each-requires-clause-room : goal.move_each-requires-clause-room
move_each-requires-clause-room g c = subst (λ buffers. HaveRoom (counts c.args.shares.now) buffers c.in_ok-rooms.rooms.items) c.as_slice.ensures.value c.in_ok-rooms.ensures.room
