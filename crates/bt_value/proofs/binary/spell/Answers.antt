use Rattle.std.proofs.Common.{◌≡◌, ◌∙◌, ◌<◌, ℕ, arith, length, length-take, rules, sym, take}
use Rattle.std.proofs.lemmas.Bool.{eqb-true, eqb-false}
use Rattle.bt_value.proofs.Spelling.{all_spelled, no_byte, odd, one_more, too_many}
use Rattle.bt_value.proofs.binary.spell.Goals as goal

pub returns-in_err-byte-clause-bytes : goal.returns-in_err-byte-clause-bytes
returns-in_err-byte-clause-bytes c =
    rw c.from_residual.ensures (sym (no_byte c.args.digits.now (take c.loop-rest.len c.loop-rest.room) c.loop-rest.rest.now c.in-len2-up.len_at_least
    c.in_err-byte.ensures c.loop-rest.invariant.spelled))

pub returns-then-len-eq-MOST_VALUE_BYTES-clause-bytes : goal.returns-then-len-eq-MOST_VALUE_BYTES-clause-bytes
returns-then-len-eq-MOST_VALUE_BYTES-clause-bytes c =
    sym (too_many c.args.digits.now (take c.loop-rest.len c.loop-rest.room) c.loop-rest.rest.now c.in_ok-byte.byte
    (omega (arith, length-take c.loop-rest.len c.loop-rest.room, c.loop-rest.invariant.size, c.if-len-eq-MOST_VALUE_BYTES.true)) c.in-len2-up.len_at_least
    c.in_ok-byte.ensures c.loop-rest.invariant.spelled)

pub loop-rest-preserved : goal.loop-rest-preserved
loop-rest-preserved c = record {
  size = search rules;
  bound = omega (arith, c.loop-rest.invariant.bound, c.if-len-eq-MOST_VALUE_BYTES.false);
  spelled = one_more c.args.digits.now c.loop-rest.room c.loop-rest.rest.now c.loop-rest.len c.in_ok-byte.byte c.in-len2-up.len_at_least c.in_ok-byte.ensures
      (omega (arith, c.loop-rest.invariant.bound, c.loop-rest.invariant.size, c.if-len-eq-MOST_VALUE_BYTES.false)) c.loop-rest.invariant.spelled;
}

pub returns-then-is_empty-clause-bytes : goal.returns-then-is_empty-clause-bytes
returns-then-is_empty-clause-bytes c =
    sym (all_spelled c.args.digits.now (take c.loop-rest.len c.loop-rest.room) c.loop-rest.rest.now (eqb-true (length c.loop-rest.rest.now) 0 (sym c.is_empty.ensures ∙ c.if-is_empty.true))
    (omega (arith, length-take c.loop-rest.len c.loop-rest.room, c.loop-rest.invariant.bound)) c.loop-rest.invariant.spelled)

one_left : (n : ℕ) → n < 2 → (n ≡ 0 → ⊥) → n ≡ 1
one_left n few some = omega (arith, few, some)

pub returns-else-is_empty-clause-bytes : goal.returns-else-is_empty-clause-bytes
returns-else-is_empty-clause-bytes c =
    sym (odd c.args.digits.now (take c.loop-rest.len c.loop-rest.room) c.loop-rest.rest.now
    (one_left (length c.loop-rest.rest.now) c.in_default.len_below (eqb-false (length c.loop-rest.rest.now) 0 (sym c.is_empty.ensures ∙ c.if-is_empty.false))) c.loop-rest.invariant.spelled)
