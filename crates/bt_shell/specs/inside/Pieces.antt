-- Text in pieces.
use Rattle.std.specs.Prelude.{ℕ, List, Vec, flat_map}
use Rattle.std.specs.Global.{Global}

-- the bytes of pieces, one after the other
abbrev pub text_of_pieces : List (Vec ℕ Global) → List ℕ
text_of_pieces pieces = flat_map (λ (piece : Vec ℕ Global). piece.items) pieces
