-- An item of a piece, among all items.
use Rattle.std.proofs.Common.{◌≡◌, ℕ, ◌+◌, ◌<◌, List, get_or, length, subst, arith}

-- a fact about each item of a piece and its place holds for it among all
pub in_piece : {X : Type 0} (Is : ℕ → X → Type 0) (piece : List X) (start offset k : ℕ) (d x : X) → start + offset ≡ k → offset < length piece
    → ((j : ℕ) → j < length piece → Is (start + j) (get_or piece j d)) → get_or piece offset d ≡ x → Is (0 + k) x
in_piece Is piece start offset k d x place inside are is =
    let same : start + offset ≡ 0 + k = omega (arith, place) in
    subst (λ n. Is n x) same (subst (Is (start + offset)) is (are offset inside))
