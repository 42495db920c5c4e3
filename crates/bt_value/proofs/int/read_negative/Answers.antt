use Rattle.std.proofs.Common.{arith, ◌≡◌, ◌≤◌, ◌-◌, ◌^◌, ◌∷◌, refl, Bool, true, false, Some, None, if◌then◌else◌, ℕ, pos, neg_ℤ, ◌-ℤ◌, to_z, of_z}
use Rattle.std.proofs.lemmas.Int.{ints}
use Rattle.std.specs.Int.{w64}
use Rattle.bt_value.specs.Ints.{is_numeral, number_written}
use Rattle.bt_value.proofs.IntTexts.{minus_short}
use Rattle.bt_value.proofs.int.read_negative.Goals as goal

-- if a value was found, the test was true and this is the value
found : {X : Type 0} (b : Bool) (x value : X) → Some x ≡ (if b then Some value else None) → (b ≡ true) × (x ≡ value)
found true x value is = (refl, cc)
found false x value is = cc

missed : {X : Type 0} (b : Bool) (value : X) → None ≡ (if b then Some value else None) → b ≡ false
missed true value is = cc
missed false value is = refl

-- the negation of a number of 63 bits has 64 bits
negated : (n : ℕ) → n ≤ 2 ^ 63 - 1 → to_z w64 (of_z w64 (pos 0 -ℤ to_z w64 (of_z w64 (pos n)))) ≡ neg_ℤ (pos n)
negated n small = omega (arith, ints)

pub returns-in-Some : goal.returns-in-Some
returns-in-Some c =
    let digits = c.args.digits.now in
    let is = found (is_numeral digits) c.in-Some.number (pos (number_written digits)) c.in-Some.ensures.number in
    let small = c.in-Some.ensures.small is.0 in
    rw (minus_short (45 ∷ digits) digits refl c.in-Some.ensures.small, is.0, is.1, negated (number_written digits) small) refl

pub returns-in-None : goal.returns-in-None
returns-in-None c =
    let digits = c.args.digits.now in
    rw (minus_short (45 ∷ digits) digits refl c.in-None.ensures.small, missed (is_numeral digits) (pos (number_written digits)) c.in-None.ensures.number) refl
