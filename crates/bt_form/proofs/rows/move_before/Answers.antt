use Rattle.std.proofs.Common.{◌≡◌, ◌∙◌, ◌++◌, false, append-nil, ap, arith, length, sym, rules}
use Rattle.bt_keycode.specs.Keys.{is_before}
use Rattle.bt_form.proofs.offered.code.RowPass.{stops_at}
use Rattle.bt_form.proofs.rows.move_before.Goals as goal

pub returns-then-ne-clause-moved : goal.returns-then-ne-clause-moved
returns-then-ne-clause-moved g c =
    let stop : is_before c.in-Some.first.now.0 c.args.key.now ≡ false = search rules in
    let none = stops_at c.args.key.now c.in-Some.first.now c.loop-first.older.items c.loop-first.invariant.sorted c.in-Some.ensures.lookup stop in
    sym (append-nil c.loop-first.moved.items) ∙ sym (ap (λ rows. c.loop-first.moved.items ++ rows) none.0) ∙ c.loop-first.invariant.moved

pub returns-then-ne-clause-left : goal.returns-then-ne-clause-left
returns-then-ne-clause-left g c =
    let stop : is_before c.in-Some.first.now.0 c.args.key.now ≡ false = search rules in
    let none = stops_at c.args.key.now c.in-Some.first.now c.loop-first.older.items c.loop-first.invariant.sorted c.in-Some.ensures.lookup stop in
    sym none.1 ∙ c.loop-first.invariant.left

pub push_reserved-requires : goal.push_reserved-requires
push_reserved-requires g c = omega (arith, c.requires.room, c.loop-first.invariant.len, c.loop-first.invariant.capacity, ap length c.in-Some-pop_front.ensures.items)
