-- Pieces of a list, one after the other.
use Rattle.std.specs.Prelude.{◌≡◌, ℕ, ◌+◌, ◌≤◌, List, [], ◌∷◌, length, ⊤}
use Rattle.bt_gang.specs.declared.piece.Piece.{Piece}

-- the first piece comes after this many items, and each other piece also after those of the pieces before it
abbrev pub AreInRow : {T : Type 0} → ℕ → List (Piece T) → Type 0
AreInRow before [] = ⊤
AreInRow before (p ∷ ps) = (p.before ≡ before) × AreInRow (before + length p.items.now) ps

-- each piece has this many items, or one more
abbrev pub AreEven : {T : Type 0} → ℕ → List (Piece T) → Type 0
AreEven share [] = ⊤
AreEven share (p ∷ ps) = ((share ≤ length p.items.now) × (length p.items.now ≤ share + 1)) × AreEven share ps
