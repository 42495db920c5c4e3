use Rattle.std.proofs.Common.{◌<◌, None, arith, get_or, length, length-set, refl}
use Rattle.bt_messages.specs.Shares.{counts}
use Rattle.bt_message.specs.Weights.{weigh_of}
use Rattle.bt_messages.specs.declared.share.Share.{Share}
use Rattle.bt_messages.proofs.Sharing.{AreAt, left_next, moved_next, room_here, room_later}
use Rattle.bt_messages.proofs.Weighing.{count_here, length-counts}
use Rattle.bt_messages.proofs.offered.Shares.{share_at}
use Rattle.bt_messages.proofs.share.move_each.Goals as goal

pub loop-place-preserved : goal.loop-place-preserved
loop-place-preserved g c =
    let ss = c.args.shares.now in
    let ns = counts ss in
    let bs = c.loop-place.buffers.items in
    let rs = c.loop-place.rooms.items in
    let i = c.loop-place.place in
    let none : Share = record { count = 0; weight = None } in
    let n = (get_or ss i none).count in
    let old = c.index_mut.result.now in
    let new = c.gain.new.buffer in
    let left = c.gain.new.room in
    let s = c.loop-place.stream in
    let s' = c.gain.new.stream in
    let here : AreAt ns bs i n old = record {
      among_shares = omega (arith, c.loop-place-test.true, length-counts ss);
      share_is = count_here ss i none n c.loop-place-test.true refl;
      among_bins = omega (arith, c.loop-place-test.true, c.loop-place.invariant.len);
      bin_is = c.index_mut.ensures.value;
    } in
    let among_rooms : i < length rs = omega (arith, c.loop-place-test.true, c.loop-place.invariant.rooms_len) in
    record {
      moved = moved_next here new s s' c.gain.ensures.gained c.gain.ensures.left c.loop-place.invariant.moved;
      len = omega (arith, c.loop-place.invariant.len, length-set bs i new);
      rooms_len = omega (arith, c.loop-place.invariant.rooms_len, length-set rs i left);
      room = room_later here rs among_rooms c.index_mut-in-loop-place.ensures.value new left c.loop-place.invariant.room;
      left = left_next here s s' c.gain.ensures.left c.loop-place.invariant.left;
      shares = (share_at (weigh_of g.V.Merge.terms) ss i none s s' c.loop-place-test.true c.gain.ensures.left c.loop-place.invariant.shares).1;
    }

pub gain-requires-clause-room : goal.gain-requires-clause-room
gain-requires-clause-room g c =
    let ss = c.args.shares.now in
    let bs = c.loop-place.buffers.items in
    let rs = c.loop-place.rooms.items in
    let i = c.loop-place.place in
    let none : Share = record { count = 0; weight = None } in
    let here : AreAt (counts ss) bs i (get_or ss i none).count c.index_mut.result.now = record {
      among_shares = omega (arith, c.loop-place-test.true, length-counts ss);
      share_is = count_here ss i none _ c.loop-place-test.true refl;
      among_bins = omega (arith, c.loop-place-test.true, c.loop-place.invariant.len);
      bin_is = c.index_mut.ensures.value;
    } in
    let among_rooms : i < length rs = omega (arith, c.loop-place-test.true, c.loop-place.invariant.rooms_len) in
    room_here here rs among_rooms c.index_mut-in-loop-place.ensures.value c.loop-place.invariant.room
