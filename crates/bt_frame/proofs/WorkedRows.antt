-- Worked bytes, computed by the definitions themselves. Serves as a test of the definitions.
use Rattle.std.proofs.Common.{◌≡◌, ◌++◌, ℕ, List, [], ◌∷◌, codes, refl}
use Rattle.bt_frame.specs.Frames.{arrivals, arrivals_in, frame, number_bytes, number_from}
use Rattle.bt_frame.specs.declared.arrival.Arrival.TheVariants.{CutOff, Frame, NoFrame, TooLong}

-- a header of the kind 1, of a payload of n bytes
abbrev header : ℕ → List ℕ
header n = 66 ∷ 84 ∷ 70 ∷ 1 ∷ n ∷ 0 ∷ 0 ∷ 0 ∷ 0 ∷ 0 ∷ 0 ∷ 0 ∷ 1 ∷ []

frame_written : frame 1 (codes "get 1\n") ≡ header 6 ++ codes "get 1\n"
unfolding number_bytes
frame_written = refl

nothing : arrivals 10 [] ≡ []
unfolding arrivals_in
nothing = refl

two_frames : arrivals 10 (header 6 ++ codes "get 1\n" ++ (header 0)) ≡ (Frame 1, codes "get 1\n") ∷ (Frame 1, []) ∷ []
unfolding arrivals_in number_from
two_frames = refl

too_long : arrivals 5 (header 6 ++ codes "get 1\n" ++ (header 2 ++ codes "go")) ≡ (TooLong, []) ∷ (Frame 1, codes "go") ∷ []
unfolding arrivals_in number_from
too_long = refl

cut_in_payload : arrivals 10 (header 0 ++ (header 6 ++ codes "get 1")) ≡ (Frame 1, []) ∷ (CutOff, []) ∷ []
unfolding arrivals_in number_from
cut_in_payload = refl

-- also one that is too long
cut_too_long : arrivals 5 (header 6 ++ codes "get 1") ≡ (CutOff, []) ∷ []
unfolding arrivals_in number_from
cut_too_long = refl

cut_in_header : arrivals 10 (66 ∷ []) ≡ (CutOff, []) ∷ []
unfolding arrivals_in number_from
cut_in_header = refl

script_text : arrivals 10 (header 0 ++ (codes "get 1\nget 2\nget 3\n" ++ header 0)) ≡ (Frame 1, []) ∷ (NoFrame, []) ∷ []
unfolding arrivals_in number_from
script_text = refl

other_version : arrivals 10 (66 ∷ 84 ∷ 70 ∷ 2 ∷ 0 ∷ 0 ∷ 0 ∷ 0 ∷ 0 ∷ 0 ∷ 0 ∷ 0 ∷ 1 ∷ []) ≡ (NoFrame, []) ∷ []
unfolding arrivals_in number_from
other_version = refl
