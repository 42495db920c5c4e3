use Rattle.std.proofs.Common.{◌<◌, None, ap, arith, get_or, length, refl, subst}
use Rattle.std.proofs.lemmas.List.{take_all}
use Rattle.std.proofs.lemmas.Grind.{common_steps}
use Rattle.bt_messages.specs.Shares.{counts}
use Rattle.bt_messages.specs.declared.share.Share.{Share}
use Rattle.bt_messages.specs.inside.Rooms.{HaveRoom}
use Rattle.bt_messages.proofs.Sharing.{AreAt, room_more}
use Rattle.bt_messages.proofs.Weighing.{count_here, length-counts}
use Rattle.bt_messages.proofs.offered.Totals.{part_of_total}
use Rattle.bt_messages.proofs.share.room_for_each.Goals as goal

pub room_with-requires : goal.room_with-requires
room_with-requires g c =
    let ss = c.args.shares.now in
    let none : Share = record { count = 0; weight = None } in
    let within : c.loop-place.place < length (counts ss) = omega (arith, c.loop-place-test.true, length-counts ss) in
    let n = (get_or ss c.loop-place.place none).count in
    omega (arith, c.requires.bound, part_of_total (counts ss) c.loop-place.place n within, count_here ss c.loop-place.place none n c.loop-place-test.true refl)

pub loop-place-preserved : goal.loop-place-preserved
loop-place-preserved g c =
    let ss = c.args.shares.now in
    let buffers = c.args.buffers.now in
    let i = c.loop-place.place in
    let none : Share = record { count = 0; weight = None } in
    let here : AreAt (counts ss) buffers i (get_or ss i none).count c.index-buffers-place.result = record {
      among_shares = omega (arith, c.loop-place-test.true, length-counts ss);
      share_is = count_here ss i none _ c.loop-place-test.true refl;
      among_bins = omega (arith, c.loop-place-test.true, c.requires.len);
      bin_is = c.index-buffers-place.is;
    } in
    record {
      room = room_more c.loop-place.rooms.items c.in_ok-room.room c.loop-place.invariant.len here c.in_ok-room.ensures c.push_reserved.ensures.items c.loop-place.invariant.room;
      len = grind (arith, common_steps);
      capacity = grind (arith, common_steps);
    }

pub loop-place-init : goal.loop-place-init
loop-place-init g c = record {
  room = tt;
  len = ap length c.in_ok-rooms.ensures.items;
  capacity = c.in_ok-rooms.ensures.capacity;
}

pub push_reserved-requires : goal.push_reserved-requires
push_reserved-requires g c =
    omega (arith, c.loop-place.invariant.len, c.loop-place.invariant.capacity, c.loop-place.rooms.ok.0, c.loop-place-test.true)

pub returns : goal.returns
returns g c = record {
  room = subst (λ shares. HaveRoom shares c.args.buffers.now c.loop-place.rooms.items)
      (take_all c.loop-place.place (counts c.args.shares.now) (omega (arith, c.loop-place-test.false, length-counts c.args.shares.now)))
      c.loop-place.invariant.room;
  len = omega (arith, c.loop-place.invariant.len, c.loop-place-test.false, c.loop-place.auto.place-end);
}
