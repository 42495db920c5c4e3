use Rattle.std.proofs.Common.{SFits, w64, rules}
use Rattle.bt_keycode.proofs.Decoding.{no_number, number_found}
use Rattle.bt_keycode.proofs.decoder.first_number.Goals as goal

pub returns-then-bytes-lt8-clause-none : goal.returns-then-bytes-lt8-clause-none
returns-then-bytes-lt8-clause-none c = λ other rest b short. no_number c.args.bytes.now other rest c.if-bytes-lt8.true b

pub returns-clause-found : goal.returns-clause-found
returns-clause-found c =
    let fits : SFits w64 c.lower.result = search rules in
    number_found c.lower.result c.prefix_of.result c.args.bytes.now fits c.lower.ensures c.prefix_of.ensures c.if-bytes-lt8.false
