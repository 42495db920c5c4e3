-- Arithmetic operations: what they do, and the range of the result. Serves ReadFits, the operations of a change, and the ranges of a table's rows.
use Rattle.std.proofs.Common.{◌≡◌, ℕ, ℤ, pos, negsuc, Bool, true, false, arith, refl}
use Rattle.std.specs.Int.{saturate_to_bits, w64}
use Rattle.std.specs.Prelude.{FitsSigned, ◌+ℤ◌, cond, int_lt}
use Rattle.bt_row.specs.Arithmetic.{Makes, Sets, action_of, new_number, op_making}
use Rattle.bt_row.specs.declared.operations.op.Arithmetic.{Arithmetic}
use Rattle.bt_row.specs.declared.operations.op.Arithmetic.TheVariants as arithmetic
use Rattle.bt_row.specs.declared.operations.op.Op.{Op}
use Rattle.bt_row.specs.declared.operations.op.Op.TheVariants.{Add, Max, Min, Set}
use Rattle.bt_value.specs.declared.value.Value.{Value}

pub action_making : (how : Arithmetic) (place : ℕ) (n : ℤ) → action_of (op_making how place n) ≡ Makes how place n
action_making arithmetic.Add place n = refl
action_making arithmetic.Max place n = refl
action_making arithmetic.Min place n = refl

-- an arithmetic operation is the one with these parts
pub making_action : (op : Op) (how : Arithmetic) (place : ℕ) (n : ℤ) → Makes how place n ≡ action_of op → op_making how place n ≡ op
making_action (Set at new) how place n is = absurd cc
making_action (Add at m) how place n is = cc
making_action (Max at m) how place n is = cc
making_action (Min at m) how place n is = cc

-- an operation that sets a value is the one with these parts
pub set_action : (op : Op) (place : ℕ) (new : Value) → Sets place new ≡ action_of op → Set place new ≡ op
set_action (Set at old) place new is = cc
set_action (Add at m) place new is = absurd cc
set_action (Max at m) place new is = absurd cc
set_action (Min at m) place new is = absurd cc

-- ---- ranges

saturated : (z : ℤ) → FitsSigned w64 (saturate_to_bits 63 z)
saturated (pos n) = record { sfits = omega arith }
saturated (negsuc n) = record { sfits = omega arith }

one_of : (b : Bool) (old n : ℤ) → FitsSigned w64 old → FitsSigned w64 n → FitsSigned w64 (cond b old n)
one_of true old n f g = f
one_of false old n f g = g

-- two numbers of 64 bits combined have 64 bits
pub new_number_fits : (how : Arithmetic) (old n : ℤ) → FitsSigned w64 old → FitsSigned w64 n → FitsSigned w64 (new_number how old n)
new_number_fits arithmetic.Add old n f g = saturated (old +ℤ n)
new_number_fits arithmetic.Max old n f g = one_of (int_lt n old) old n f g
new_number_fits arithmetic.Min old n f g = one_of (int_lt n old) n old g f
