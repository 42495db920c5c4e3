use Rattle.std.proofs.Common.{◌≤◌, arith}
use Rattle.bt_messages.proofs.Slices.{cuts_high, cuts_in, cuts_low}
use Rattle.bt_messages.proofs.stream.Stream.place_within.Goals as goal

pub returns-then-place-from : goal.returns-then-place-from
returns-then-place-from g c =
    let cut = cuts_low c.args.key.now c.args.from c.args.to c.count_before-place.result c.args.self.now c.requires.order (omega (arith, c.if-place-from.true)) c.count_before-place.ensures.from in
    record { low = omega arith; high = c.requires.order; before = cut.0; from = cut.1 }

pub returns-then-to-place : goal.returns-then-to-place
returns-then-to-place g c =
    let cut = cuts_high c.args.key.now c.args.from c.args.to c.count_before-place.result c.args.self.now c.requires.order (omega (arith, c.if-to-place.true)) c.count_before-place.ensures.before in
    record { low = c.requires.order; high = omega arith; before = cut.0; from = cut.1 }

pub returns-else-to-place : goal.returns-else-to-place
returns-else-to-place g c =
    let low : c.args.from ≤ c.count_before-place.result = omega (arith, c.if-place-from.false) in
    let high : c.count_before-place.result ≤ c.args.to = omega (arith, c.if-to-place.false) in
    let cut = cuts_in c.args.key.now c.args.from c.args.to c.count_before-place.result c.args.self.now low high c.count_before-place.ensures.before c.count_before-place.ensures.from in
    record { low = low; high = high; before = cut.0; from = cut.1 }
