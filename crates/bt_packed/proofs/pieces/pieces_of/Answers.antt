use Rattle.std.proofs.Common.{rules, ◌≡◌, [], append-nil, arith, length, subst}
use Rattle.bt_packed.specs.Pieces.{AreInRow}
use Rattle.bt_packed.proofs.pieces.pieces_of.Goals as goal

pub returns-then-start-bytes-clause-row : goal.returns-then-start-bytes-clause-row
returns-then-start-bytes-clause-row c =
    let ends : c.loop-left.start ≡ length c.args.bytes.now = search rules in
    let none : c.loop-left.left ≡ 0 = omega (arith, c.loop-left-test.false) in
    subst (λ pieces. AreInRow 0 c.args.count pieces (length c.args.bytes.now)) (append-nil c.loop-left.pieces.items) (c.loop-left.invariant.row [] (ends, none))
