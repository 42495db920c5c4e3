use Rattle.std.proofs.Common.{arith, ap, pos, sym, ◌∙◌, ◌≡◌, ◌*◌, ◌+◌, ◌-◌, ◌<◌, ◌^◌, get_or, subst}
use Rattle.std.proofs.lemmas.Bool.{eqb-true}
use Rattle.std.proofs.lemmas.Int.{to_z_pos}
use Rattle.std.specs.Int.{w64}
use Rattle.bt_value.specs.Ints.{is_digit}
use Rattle.bt_value.proofs.IntTexts.{below_power}
use Rattle.bt_value.proofs.offered.PlainFields.{all_more, digits_end, small_more, written_more}
use Rattle.bt_value.proofs.plain_fields.plain_number.Goals as goal

pub overflow_mul-number : goal.overflow_mul-number
overflow_mul-number c =
    let small = below_power c.loop-end.number c.loop-end.end 17 c.loop-end.invariant.small (omega arith) in
    omega arith

pub overflow_add-number : goal.overflow_add-number
overflow_add-number c =
    let small = below_power c.loop-end.number c.loop-end.end 17 c.loop-end.invariant.small (omega arith) in
    omega (arith, c.type_inv.text c.loop-end.end)

pub loop-end-preserved : goal.loop-end-preserved
loop-end-preserved c =
    let text = c.args.text.now in
    let end = c.loop-end.end in
    let so_far = c.loop-end.invariant in
    let inside = c.loop-end-test.true in
    let digit = sym c.is_digit.ensures ∙ c.if-is_digit.true in
    let units : get_or text end 0 - 48 ≡ c.from.result = sym c.from.ensures in
    record {
      within = omega (arith, inside);
      few = omega (arith, c.if-end-lt-SAFE_DIGITS.true);
      digits = all_more is_digit text end inside so_far.digits digit;
      written = written_more text end inside ∙ ap (λ n. n * 10 + (get_or text end 0 - 48)) so_far.written ∙ ap (λ d. c.loop-end.number * 10 + d) units;
      small = subst (λ d. c.loop-end.number * 10 + d < 10 ^ (end + 1)) units (small_more c.loop-end.number end (get_or text end 0) so_far.small digit);
    }

pub overflow_cast-result : goal.overflow_cast-result
overflow_cast-result c =
    let small = below_power c.loop-end.number c.loop-end.end 18 c.loop-end.invariant.small c.loop-end.invariant.few in
    omega arith

pub returns-clause-number : goal.returns-clause-number
returns-clause-number c =
    let small = below_power c.loop-end.number c.loop-end.end 18 c.loop-end.invariant.small c.loop-end.invariant.few in
    rw (to_z_pos w64 c.loop-end.number (omega arith)) (ap pos c.loop-end.invariant.written)

pub returns-clause-small : goal.returns-clause-small
returns-clause-small c =
    let small = below_power c.loop-end.number c.loop-end.end 18 c.loop-end.invariant.small c.loop-end.invariant.few in
    omega (arith, c.loop-end.invariant.written)

pub returns-clause-ends : goal.returns-clause-ends
returns-clause-ends c =
    digits_end c.args.text.now c.loop-end.end c.loop-end.invariant.within c.loop-end.invariant.digits (eqb-true _ _ (sym c.has_end.ensures ∙ c.if-not-has_end.false))
