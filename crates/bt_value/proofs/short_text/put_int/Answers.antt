use Rattle.std.proofs.Common.{ℕ, ℤ, pos, negsuc, ◌≡◌, ◌∙◌, ◌++◌, ◌∷◌, [], List, ap, append_assoc, decimal, int_le, refl, take, to_z-of_z, true, unsigned_abs}
use Rattle.std.specs.Fmt.{signed_decimal}
use Rattle.csv.specs.Writing.{default_writer, field_text}
use Rattle.itoa.proofs.Decimal.{minus_first}
use Rattle.bt_value.proofs.FieldTexts.{int_field}
use Rattle.bt_value.proofs.short_text.put_int.Goals as goal

not_below_zero : (n : ℤ) → int_le (pos 0) n ≡ true → decimal (unsigned_abs n) ≡ signed_decimal n
not_below_zero (pos n) e = refl
not_below_zero (negsuc n) e = (cc)

pub returns-then-number-ge0-clause-text : goal.returns-then-number-ge0-clause-text
returns-then-number-ge0-clause-text c =
    let plain : field_text default_writer (signed_decimal c.args.number) ≡ signed_decimal c.args.number = int_field c.args.number c.ranges.number.sfits in
    let back = to_z-of_z c.ranges.number in
    let old = take c.args.at c.args.room.now in
    rw plain (
    c.put_digits.ensures.text ∙ ap (λ (n : ℕ). old ++ decimal n) (rw back at c.unsigned_abs.ensures.value)
    ∙ ap (λ (t : List ℕ). old ++ t) (not_below_zero c.args.number (rw back at c.if-number-ge0.true))
    )

pub returns-clause-text : goal.returns-clause-text
returns-clause-text c =
    let plain : field_text default_writer (signed_decimal c.args.number) ≡ signed_decimal c.args.number = int_field c.args.number c.ranges.number.sfits in
    let back = to_z-of_z c.ranges.number in
    let old = take c.args.at c.args.room.now in
    let digits = decimal c.unsigned_abs-2.result in
    rw plain (
    c.put_digits-2.ensures.text ∙ ap (λ (t : List ℕ). t ++ digits) c.put_byte-start.ensures.text ∙ append_assoc old (45 ∷ []) digits
    ∙ ap (λ (n : ℕ). old ++ (45 ∷ decimal n)) (rw back at c.unsigned_abs-2.ensures.value) ∙ ap (λ (t : List ℕ). old ++ t) (minus_first c.args.number (rw back at c.if-number-ge0.false))
    )
