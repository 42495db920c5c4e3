-- Bytes followed by zeros.
use Rattle.std.proofs.Common.{ℕ, zero, suc, ◌≡◌, ◌≤◌, ◌++◌, List, [], ◌∷◌, arith, drop, length, refl, replicate, take, ap}
use Rattle.bt_value.specs.Paddings.{padded}

-- as long as the bytes: no zeros
pub padded-all : (bytes : List ℕ) → padded (length bytes) bytes ≡ bytes
padded-all [] = refl
padded-all (b ∷ bs) = ap (λ rest. b ∷ rest) (padded-all bs)

pub length-padded : (n : ℕ) (bytes : List ℕ) → length (padded n bytes) ≡ n
length-padded zero bytes = refl
length-padded (suc n) [] = ap (λ m. suc m) (length-padded n [])
length-padded (suc n) (b ∷ bs) = ap (λ m. suc m) (length-padded n bs)

-- the bytes before the zeros
pub padded-front : (n : ℕ) (bytes : List ℕ) → length bytes ≤ n → take (length bytes) (padded n bytes) ≡ bytes
padded-front n [] few = refl
padded-front zero (b ∷ bs) few = absurd (omega (arith, few))
padded-front (suc n) (b ∷ bs) few = ap (λ rest. b ∷ rest) (padded-front n bs (omega (arith, few)))

zeros : (n : ℕ) → replicate n 0 ≡ padded n []
zeros zero = refl
zeros (suc n) = ap (λ rest. 0 ∷ rest) (zeros n)

-- the bytes written over the first zeros of a list of zeros
pub written-over : (n : ℕ) (bytes : List ℕ) → length bytes ≤ n → bytes ++ drop (length bytes) (replicate n 0) ≡ padded n bytes
written-over n [] few = zeros n
written-over zero (b ∷ bs) few = absurd (omega (arith, few))
written-over (suc n) (b ∷ bs) few = ap (λ rest. b ∷ rest) (written-over n bs (omega (arith, few)))
