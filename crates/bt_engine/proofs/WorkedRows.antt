-- Worked requests, answered by the definitions themselves. Serves as a test of the definitions.
use Rattle.std.proofs.Common.{◌≡◌, ◌++◌, ℕ, List, [], ◌∷◌, None, codes, refl}
use Rattle.bt_frame.specs.Frames.{arrivals_in, frame, number_bytes, number_from}
use Rattle.bt_frame.specs.Services.{answers, served}
use Rattle.bt_engine.specs.Exchanges.{after, reply}

-- what an engine writes for an input
abbrev written : List ℕ → List ℕ
written input = served after reply 100 None input

-- a number below 256 in eight bytes
abbrev eight : ℕ → List ℕ
eight n = n ∷ 0 ∷ 0 ∷ 0 ∷ 0 ∷ 0 ∷ 0 ∷ 0 ∷ []

nothing : written [] ≡ []
unfolding answers arrivals_in
nothing = refl

-- a question to no table: refused 3
no_table : written (frame 4 []) ≡ frame 1 (eight 3 ++ (eight 0 ++ eight 0))
unfolding answers arrivals_in number_bytes number_from
no_table = refl

unknown_kind : written (frame 12 (codes "x") ++ frame 0 []) ≡ frame 2 (codes "UnknownKind") ++ frame 2 (codes "UnknownKind")
unfolding answers arrivals_in number_bytes number_from
unknown_kind = refl

-- nothing follows bytes that are no frame
no_frame : written (codes "get 1\nget 2\nget 3\n" ++ frame 11 []) ≡ frame 2 (codes "NoFrame")
unfolding answers arrivals_in number_bytes number_from
no_frame = refl
