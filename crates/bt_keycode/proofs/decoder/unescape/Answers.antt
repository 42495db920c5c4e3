use Rattle.std.proofs.Common.{◌<◌, arith, length, take}
use Rattle.std.proofs.lemmas.List.{length-take-le}
use Rattle.bt_keycode.proofs.DecodingBytes.{too_long}
use Rattle.bt_keycode.proofs.decoder.unescape.Goals as goal

pub returns-then-len-eq-MOST_VALUE_BYTES-clause-none : goal.returns-then-len-eq-MOST_VALUE_BYTES-clause-none
returns-then-len-eq-MOST_VALUE_BYTES-clause-none c = λ other rest read.
    let len = length-take-le c.loop-byte.len c.loop-byte.room (omega arith) in
    let long : length (take c.loop-byte.len c.loop-byte.room) < length other =
    too_long c.args.bytes.now (take c.loop-byte.len c.loop-byte.room) c.loop-byte.code.now c.in-Some.rest.now c.in-Some.byte c.loop-byte.invariant.read c.in-Some.ensures.byte other rest read in
    omega arith
