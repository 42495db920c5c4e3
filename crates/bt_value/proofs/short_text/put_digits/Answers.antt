use Rattle.std.proofs.Common.{ℕ, arith, ◌≡◌, ◌^◌, ◌≤◌, length}
use Rattle.std.proofs.lemmas.Fmt.{length-decimal-le}
use Rattle.std.specs.Fmt.{decimal}
use Rattle.bt_value.proofs.ShortTexts.{put_at}
use Rattle.bt_value.proofs.short_text.put_digits.Goals as goal

most : (n : ℕ) → n ≤ 2 ^ 63 → length (decimal n) ≤ 19
most n small = length-decimal-le 19 n (omega arith) (omega arith) (omega arith)

pub overflow_add-end : goal.overflow_add-end
overflow_add-end c = omega (arith, most c.args.number c.requires.small, c.digit_count.ensures)

pub write_digits-start-requires : goal.write_digits-start-requires
write_digits-start-requires c = (omega (arith, c.digit_count.ensures), omega (arith, most c.args.number c.requires.small, c.digit_count.ensures))

pub returns-clause-text : goal.returns-clause-text
returns-clause-text c =
    let w = c.write_digits-start in
    let start : w.result ≡ c.args.at = omega (arith, w.ensures.start, c.digit_count.ensures) in
    rw c.digit_count.ensures (put_at c.args.room.now w.new.buf (decimal c.args.number) _ c.args.at (rw start at w.ensures.before) (rw start at w.ensures.written) (omega arith))

pub returns-clause-room : goal.returns-clause-room
returns-clause-room c = omega (arith, most c.args.number c.requires.small, c.digit_count.ensures)
