-- What arrives first, and what follows.
use Rattle.std.proofs.Common.{ℕ, zero, suc, ◌≡◌, ◌≤◌, ◌<◌, ◌^◌, ◌∙◌, ◌++◌, List, [], ◌∷◌, Bool, true, false, ap}
use Rattle.std.proofs.Common.{arith, append-nil, append_assoc, drop, length, length-append, length-drop, nat_le, nat_lt, refl, subst, sym, take, if◌then◌else◌, Option, None, Some}
use Rattle.std.proofs.Math.Seq.{drop-append_seam, take-append_seam}
use Rattle.std.proofs.lemmas.Bool.Decides.{nat_tests}
use Rattle.std.proofs.lemmas.Nat.{from_le_bytes-to_le_bytes_8}
use Rattle.bt_frame.specs.Frames.{Arrived, IsFirstArrival, arrivals, arrivals_in, arrived_under, first_arrived, frame, header_at, header_size, last, magic, number_bytes, number_from}
use Rattle.bt_frame.specs.declared.arrival.Arrival.{Arrival}
use Rattle.bt_frame.specs.declared.arrival.Arrival.TheVariants.{CutOff, Frame, NoFrame, TooLong}

-- a fact of both values is one of the chosen value
of_both : {A : Type 0} (Fact : A → Type 0) (b : Bool) (x y : A) → Fact x → Fact y → Fact (if b then x else y)
of_both Fact true x y one other = one
of_both Fact false x y one other = other

-- ---- each arrival takes bytes

under_takes : (most : ℕ) (header : Option (ℕ × ℕ)) (bytes : List ℕ) → length (arrived_under most header bytes).2 ≤ length bytes
under_takes most None bytes = omega arith
under_takes most (Some header) bytes =
    of_both (λ (arrived : Arrived). length arrived.2 ≤ length bytes) (nat_lt (length bytes) header.1) _ _ (omega arith)
    (of_both (λ (arrived : Arrived). length arrived.2 ≤ length bytes) (nat_le header.1 most) _ _ (omega (arith, length-drop header.1 bytes)) (omega (arith, length-drop header.1 bytes)))

takes : (most byte : ℕ) (bytes : List ℕ) → length (first_arrived most (byte ∷ bytes)).2 ≤ length bytes
takes most byte bytes =
    let under = under_takes most (header_at (take header_size (byte ∷ bytes))) (drop header_size (byte ∷ bytes)) in
    of_both (λ (arrived : Arrived). length arrived.2 ≤ length bytes) (nat_lt (length (byte ∷ bytes)) header_size) _ _ (omega arith)
    (omega (arith, under, length-drop header_size (byte ∷ bytes)))

-- so more steps than bytes find nothing more
same_steps : (steps others most : ℕ) (bytes : List ℕ) → length bytes ≤ steps → length bytes ≤ others → arrivals_in steps most bytes ≡ arrivals_in others most bytes
unfolding arrivals_in
same_steps zero zero most bytes enough so = refl
same_steps zero (suc others) most [] enough so = refl
same_steps zero (suc others) most (byte ∷ bytes) enough so = absurd (omega arith)
same_steps (suc steps) zero most [] enough so = refl
same_steps (suc steps) zero most (byte ∷ bytes) enough so = absurd (omega arith)
same_steps (suc steps) (suc others) most [] enough so = refl
same_steps (suc steps) (suc others) most (byte ∷ bytes) enough so =
    let fewer = takes most byte bytes in
    let first = first_arrived most (byte ∷ bytes) in
    ap (λ (more : List (Arrival × List ℕ)). (first.0, first.1) ∷ more) (same_steps steps others most first.2 (omega arith) (omega arith))

-- what arrives is the first arrival, and then what arrives of the other bytes
one_more : (most byte : ℕ) (bytes : List ℕ) → let first = first_arrived most (byte ∷ bytes) in arrivals most (byte ∷ bytes) ≡ (first.0, first.1) ∷ arrivals most first.2
unfolding arrivals_in
one_more most byte bytes =
    let first = first_arrived most (byte ∷ bytes) in
    let fewer = takes most byte bytes in
    ap (λ (more : List (Arrival × List ℕ)). (first.0, first.1) ∷ more) (same_steps (length bytes) (length first.2) most first.2 (omega arith) (omega arith))

pub arrivals_from : (most : ℕ) (bytes : List ℕ) (arrived : Arrived) → 0 < length bytes → first_arrived most bytes ≡ arrived → arrivals most bytes ≡ (arrived.0, arrived.1) ∷ arrivals most arrived.2
arrivals_from most [] arrived some is = absurd (omega arith)
arrivals_from most (byte ∷ bytes) arrived some is =
    subst (λ (first : Arrived). arrivals most (byte ∷ bytes) ≡ (first.0, first.1) ∷ arrivals most first.2) is (one_more most byte bytes)

pub nothing_arrives : (most : ℕ) → arrivals most [] ≡ []
unfolding arrivals_in
nothing_arrives most = refl

-- ---- the first arrival, in terms of the bytes that were read of it

-- after a whole header
under_header : (most : ℕ) (header bytes : List ℕ) → length header ≡ header_size → first_arrived most (header ++ bytes) ≡ arrived_under most (header_at header) bytes
under_header most header bytes long =
    let whole : nat_lt (length (header ++ bytes)) header_size ≡ false = grind (arith, nat_tests, length-append header bytes) in
    let front : take header_size (header ++ bytes) ≡ header = ap (λ n. take n (header ++ bytes)) (sym long) ∙ take-append_seam header bytes in
    let back : drop header_size (header ++ bytes) ≡ bytes = ap (λ n. drop n (header ++ bytes)) (sym long) ∙ drop-append_seam header bytes in
    rw (whole, front, back) refl

-- the input ends within a header
pub cut_in_header : (most : ℕ) (read : List ℕ) → 0 < length read → length read < header_size → IsFirstArrival most read CutOff []
cut_in_header most read some short = λ rest ends.
    let all : read ++ rest ≡ read = ap (λ (l : List ℕ). read ++ l) (ends refl) ∙ append-nil read in
    let cut : nat_lt (length read) header_size ≡ true = grind (arith, nat_tests) in
    let first : first_arrived most read ≡ last CutOff = rw cut refl in
    ap (arrivals most) all ∙ arrivals_from most read (last CutOff) some first ∙ ap (λ (l : List ℕ). (CutOff, []) ∷ arrivals most l) (sym (ends refl))

-- no header is found
pub no_frame : (most : ℕ) (header : List ℕ) → length header ≡ header_size → header_at header ≡ None → IsFirstArrival most header NoFrame []
no_frame most header long none = λ rest _.
    arrivals_from most (header ++ rest) (last NoFrame) (omega (arith, length-append header rest)) (under_header most header rest long ∙ ap (λ (h : Option (ℕ × ℕ)). arrived_under most h rest) none)

module _ (most : ℕ) (header : List ℕ) (kind size : ℕ) (long : length header ≡ header_size) (is : header_at header ≡ Some (kind, size)) where
  under : (bytes : List ℕ) (arrived : Arrived) → arrived_under most (Some (kind, size)) bytes ≡ arrived → arrivals most (header ++ bytes) ≡ (arrived.0, arrived.1) ∷ arrivals most arrived.2
  under bytes arrived found =
      arrivals_from most (header ++ bytes) arrived (omega (arith, length-append header bytes, long))
      (under_header most header bytes long ∙ ap (λ (h : Option (ℕ × ℕ)). arrived_under most h bytes) is ∙ found)

  -- the input ends within a payload
  pub cut_in_payload : (part : List ℕ) → length part < size → IsFirstArrival most (header ++ part) CutOff []
  cut_in_payload part short = λ rest ends.
      let all : (header ++ part) ++ rest ≡ header ++ part = ap (λ (l : List ℕ). (header ++ part) ++ l) (ends refl) ∙ append-nil (header ++ part) in
      let cut : nat_lt (length part) size ≡ true = grind (arith, nat_tests) in
      ap (arrivals most) all ∙ under part (last CutOff) (rw cut refl) ∙ ap (λ (l : List ℕ). (CutOff, []) ∷ arrivals most l) (sym (ends refl))

  module _ (payload : List ℕ) (whole : length payload ≡ size) where
    enough : (rest : List ℕ) → nat_lt (length (payload ++ rest)) size ≡ false
    enough rest = grind (arith, nat_tests, length-append payload rest)

    back : (rest : List ℕ) → drop size (payload ++ rest) ≡ rest
    back rest = ap (λ n. drop n (payload ++ rest)) (sym whole) ∙ drop-append_seam payload rest

    front : (rest : List ℕ) → take size (payload ++ rest) ≡ payload
    front rest = ap (λ n. take n (payload ++ rest)) (sym whole) ∙ take-append_seam payload rest

    -- a payload is over the limit
    pub too_long : most < size → IsFirstArrival most (header ++ payload) TooLong []
    too_long over = λ rest _.
        let larger : nat_le size most ≡ false = grind (arith, nat_tests) in
        ap (arrivals most) (append_assoc header payload rest) ∙ under (payload ++ rest) (TooLong, [], rest) (rw (enough rest, larger, back rest) refl)

    -- a whole frame
    pub whole_frame : size ≤ most → IsFirstArrival most (header ++ payload) (Frame kind) payload
    whole_frame within = λ rest _.
        let fits : nat_le size most ≡ true = grind (arith, nat_tests) in
        ap (arrivals most) (append_assoc header payload rest) ∙ under (payload ++ rest) (Frame kind, payload, rest) (rw (enough rest, fits, front rest, back rest) refl)

-- ---- what was sent arrives

-- the header of a frame is one, of its kind and of the length of its payload
module _ (kind size : ℕ) (fits : size < 2 ^ 64) where
  header_long : length (magic ++ (number_bytes size ++ kind ∷ [])) ≡ header_size
  unfolding number_bytes
  header_long = refl

  header_is : header_at (magic ++ (number_bytes size ++ kind ∷ [])) ≡ Some (kind, size)
  unfolding number_bytes number_from
  header_is = ap (λ n. Some (kind, n)) (from_le_bytes-to_le_bytes_8 size fits)

-- a frame that fits the limit arrives as it was sent
pub sent_arrives : (most kind : ℕ) (payload : List ℕ) → length payload ≤ most → most < 2 ^ 64 → IsFirstArrival most (frame kind payload) (Frame kind) payload
sent_arrives most kind payload within limit =
    let fits : length payload < 2 ^ 64 = omega arith in
    let header = magic ++ (number_bytes (length payload) ++ kind ∷ []) in
    let parts : header ++ payload ≡ frame kind payload = ap (λ (l : List ℕ). magic ++ l) (append_assoc (number_bytes (length payload)) (kind ∷ []) payload) in
    subst (λ (l : List ℕ). IsFirstArrival most l (Frame kind) payload) parts
    (whole_frame most header kind (length payload) (header_long kind (length payload) fits) (header_is kind (length payload) fits) payload refl within)
