-- The code of a single value, for `encode` of an int and of few bytes.
use Rattle.std.proofs.Common.{ℕ, zero, suc, ◌≡◌, ◌+◌, ◌≤◌, ◌++◌, ◌∙◌, List, [], ◌∷◌, ap, append-nil, arith, drop, length, refl, replicate, slice_set, take}
use Rattle.bt_value.specs.declared.value.Value.{Value}
use Rattle.bt_keycode.specs.Codes.{code_of, code_of_value}

pub code_of_one : (v : Value) → code_of (v ∷ []) ≡ code_of_value v
code_of_one v = append-nil (code_of_value v)

one_written : (n : ℕ) (plain : List ℕ) → suc (suc (length plain)) ≤ n →
    take (suc (suc (length plain))) (slice_set (plain ++ drop (length plain) (replicate n 0)) (suc (length plain)) 1) ≡ plain ++ (0 ∷ 1 ∷ [])
one_written zero plain few = absurd (omega (arith, few))
one_written (suc zero) plain few = absurd (omega (arith, few))
one_written (suc (suc n)) [] few = refl
one_written (suc (suc n)) (b ∷ bs) few = ap (λ rest. b ∷ rest) (one_written (suc n) bs (omega (arith, few)))

-- bytes, and 0 and 1 after them: the former over the first of some zeros, and 1 over the second one after them
pub end_written : (n : ℕ) (plain seen : List ℕ) → length plain + 2 ≤ n → seen ≡ plain →
    take (length plain + 2) (slice_set (seen ++ drop (length plain) (replicate n 0)) (length plain + 1) 1) ≡ plain ++ (0 ∷ 1 ∷ [])
end_written n plain seen few is =
    let two : length plain + 2 ≡ suc (suc (length plain)) = omega arith in
    let one : length plain + 1 ≡ suc (length plain) = omega arith in
    ap (λ (bytes : List ℕ). take (length plain + 2) (slice_set (bytes ++ drop (length plain) (replicate n 0)) (length plain + 1) 1)) is
    ∙ ap (λ k. take k (slice_set (plain ++ drop (length plain) (replicate n 0)) (length plain + 1) 1)) two
    ∙ ap (λ k. take (suc (suc (length plain))) (slice_set (plain ++ drop (length plain) (replicate n 0)) k 1)) one
    ∙ one_written n plain (omega (arith, few))
