-- Bytes that are frames, one after the other.
use Rattle.std.proofs.Common.{◌≡◌, ◌⊎◌, inl, inr, ℕ, zero, suc, ◌+◌, ◌-◌, ◌≤◌, List, [], ◌∷◌, ◌++◌}
use Rattle.std.proofs.Common.{length, take, drop, Option, Some, None, refl, sym, ◌∙◌, ap, subst, arith, length-take, length-drop, take-append-drop}
use Rattle.std.proofs.lemmas.List.{drop-append-le, drop-drop, drop-take, take_rest, append-nil}
use Rattle.bt_journal.specs.Frames.{frame_size, next_seed, payload_at, payloads_at, all_at, seed_after, extent, Begins}
use Rattle.bt_journal.proofs.FrontFrames.{IsFront, payload_at-front, front-payload_at, front-append, front-shrink}

pub payload_at-append : (seed : ℕ) (payload xs ys : List ℕ) → payload_at seed xs ≡ Some payload → payload_at seed (xs ++ ys) ≡ Some payload
payload_at-append seed payload xs ys e = payload_at-front seed payload (xs ++ ys) (front-append seed payload xs ys (front-payload_at seed payload xs e))

pub payload_at-long : (seed : ℕ) (payload bytes : List ℕ) → payload_at seed bytes ≡ Some payload → frame_size payload ≤ length bytes
payload_at-long seed payload bytes e = (front-payload_at seed payload bytes e).long

pub some_or_none : {A : Type 0} (o : Option A) → (o ≡ None) ⊎ ((a : A) × (o ≡ Some a))
some_or_none None = inl refl
some_or_none (Some a) = inr (a, refl)

pub payload_at_cases : (seed : ℕ) (bytes : List ℕ) → (payload_at seed bytes ≡ None) ⊎ ((payload : List ℕ) × (payload_at seed bytes ≡ Some payload))
payload_at_cases seed bytes = some_or_none (payload_at seed bytes)

-- no frame is found in a part of bytes in which none is found
pub none_of_front : (seed n : ℕ) (bytes : List ℕ) → payload_at seed bytes ≡ None → payload_at seed (take n bytes) ≡ None
none_of_front seed n bytes none = elim (payload_at_cases seed (take n bytes)) [
  | inl e ↦ e
  | inr found ↦
      let whole = payload_at-append seed found.0 (take n bytes) (drop n bytes) found.1 in
      let same : payload_at seed bytes ≡ Some found.0 = subst (λ (l : List ℕ). payload_at seed l ≡ Some found.0) (take-append-drop n bytes) whole in
      absurd (cc (same, none))
]

-- one more frame of bytes
step_some : (most seed : ℕ) (payload bytes : List ℕ) → payload_at seed bytes ≡ Some payload
    → payloads_at (suc most) seed bytes ≡ payload ∷ payloads_at most (next_seed seed payload) (drop (frame_size payload) bytes)
unfolding payloads_at
step_some most seed payload bytes e =
    ap (λ (o : Option (List ℕ)). elim o as (λ _. List (List ℕ)) [ None ↦ [] | Some p ↦ p ∷ payloads_at most (next_seed seed p) (drop (frame_size p) bytes) ]) e

step_none : (most seed : ℕ) (bytes : List ℕ) → payload_at seed bytes ≡ None → payloads_at most seed bytes ≡ []
unfolding payloads_at
step_none zero seed bytes e = refl
step_none (suc most) seed bytes e =
    ap (λ (o : Option (List ℕ)). elim o as (λ _. List (List ℕ)) [ None ↦ [] | Some p ↦ p ∷ payloads_at most (next_seed seed p) (drop (frame_size p) bytes) ]) e

-- more steps than there are bytes find no more frames
enough : (m n seed : ℕ) (bytes : List ℕ) → length bytes ≤ m → length bytes ≤ n → payloads_at m seed bytes ≡ payloads_at n seed bytes
enough zero n seed bytes le le' = elim (payload_at_cases seed bytes) [
  | inl none ↦ step_none zero seed bytes none ∙ sym (step_none n seed bytes none)
  | inr found ↦ absurd (omega (arith, payload_at-long seed found.0 bytes found.1, le))
]
enough (suc m) zero seed bytes le le' = elim (payload_at_cases seed bytes) [
  | inl none ↦ step_none (suc m) seed bytes none ∙ sym (step_none zero seed bytes none)
  | inr found ↦ absurd (omega (arith, payload_at-long seed found.0 bytes found.1, le'))
]
enough (suc m) (suc n) seed bytes le le' = elim (payload_at_cases seed bytes) [
  | inl none ↦ step_none (suc m) seed bytes none ∙ sym (step_none (suc n) seed bytes none)
  | inr found ↦
      let long = payload_at-long seed found.0 bytes found.1 in
      let rest = drop (frame_size found.0) bytes in
      let shorter = length-drop (frame_size found.0) bytes in
      step_some m seed found.0 bytes found.1
      ∙ ap (λ (l : List (List ℕ)). found.0 ∷ l) (enough m n (next_seed seed found.0) rest (omega (arith, long, le, shorter)) (omega (arith, long, le', shorter)))
      ∙ sym (step_some n seed found.0 bytes found.1)
]

pub all_at-some : (seed : ℕ) (payload bytes : List ℕ) → payload_at seed bytes ≡ Some payload
    → all_at seed bytes ≡ payload ∷ all_at (next_seed seed payload) (drop (frame_size payload) bytes)
all_at-some seed payload bytes e =
    let long = payload_at-long seed payload bytes e in
    let rest = drop (frame_size payload) bytes in
    let most = length bytes - 1 in
    let one : length bytes ≡ suc most = omega (arith, long) in
    ap (λ (n : ℕ). payloads_at n seed bytes) one ∙ step_some most seed payload bytes e
    ∙ ap (λ (l : List (List ℕ)). payload ∷ l) (enough most (length rest) (next_seed seed payload) rest (omega (arith, long, length-drop (frame_size payload) bytes)) (omega arith))

pub all_at-none : (seed : ℕ) (bytes : List ℕ) → payload_at seed bytes ≡ None → all_at seed bytes ≡ []
all_at-none seed bytes none = step_none (length bytes) seed bytes none

pub begins-append : (seed : ℕ) (payloads : List (List ℕ)) (bytes rest more : List ℕ) → Begins seed payloads bytes rest → Begins seed payloads (bytes ++ more) (rest ++ more)
unfolding Begins
begins-append seed [] bytes rest more b = ap (λ (l : List ℕ). l ++ more) b
begins-append seed (p ∷ ps) bytes rest more b = (
  payload_at-append seed p bytes more b.0,
  subst (λ (l : List ℕ). Begins (next_seed seed p) ps l (rest ++ more)) (sym (drop-append-le (frame_size p) bytes more (payload_at-long seed p bytes b.0)))
      (begins-append (next_seed seed p) ps (drop (frame_size p) bytes) rest more b.1),
)

-- frames that follow frames
pub begins-join : (seed : ℕ) (payloads more : List (List ℕ)) (bytes middle rest : List ℕ) → Begins seed payloads bytes middle → Begins (seed_after seed payloads) more middle rest
    → Begins seed (payloads ++ more) bytes rest
unfolding Begins seed_after
begins-join seed [] more bytes middle rest b e = subst (λ (l : List ℕ). Begins seed more l rest) (sym b) e
begins-join seed (p ∷ ps) more bytes middle rest b e = (b.0, begins-join (next_seed seed p) ps more (drop (frame_size p) bytes) middle rest b.1 e)

pub begins-push : (seed : ℕ) (payloads : List (List ℕ)) (payload bytes rest : List ℕ) → Begins seed payloads bytes rest → payload_at (seed_after seed payloads) rest ≡ Some payload
    → Begins seed (payloads ++ payload ∷ []) bytes (drop (frame_size payload) rest)
unfolding Begins
begins-push seed payloads payload bytes rest b e = begins-join seed payloads (payload ∷ []) bytes rest (drop (frame_size payload) rest) b (e, refl)

pub seed_after-append : (seed : ℕ) (payloads more : List (List ℕ)) → seed_after seed (payloads ++ more) ≡ seed_after (seed_after seed payloads) more
unfolding seed_after
seed_after-append seed [] more = refl
seed_after-append seed (p ∷ ps) more = seed_after-append (next_seed seed p) ps more

pub extent-append : (payloads more : List (List ℕ)) → extent (payloads ++ more) ≡ extent payloads + extent more
unfolding extent
extent-append [] more = omega arith
extent-append (p ∷ ps) more = omega (arith, extent-append ps more)

pub all_at-begins : (seed : ℕ) (payloads : List (List ℕ)) (bytes rest : List ℕ) → Begins seed payloads bytes rest → all_at seed bytes ≡ payloads ++ all_at (seed_after seed payloads) rest
unfolding Begins seed_after
all_at-begins seed [] bytes rest b = ap (all_at seed) b
all_at-begins seed (p ∷ ps) bytes rest b =
    all_at-some seed p bytes b.0 ∙ ap (λ (l : List (List ℕ)). p ∷ l) (all_at-begins (next_seed seed p) ps (drop (frame_size p) bytes) rest b.1)

-- the frames of bytes whose rest begins with none
pub all_at-end : (seed : ℕ) (payloads : List (List ℕ)) (bytes rest : List ℕ) → Begins seed payloads bytes rest → payload_at (seed_after seed payloads) rest ≡ None → all_at seed bytes ≡ payloads
all_at-end seed payloads bytes rest b none =
    all_at-begins seed payloads bytes rest b ∙ ap (λ (l : List (List ℕ)). payloads ++ l) (all_at-none (seed_after seed payloads) rest none) ∙ append-nil payloads

pub begins-length : (seed : ℕ) (payloads : List (List ℕ)) (bytes rest : List ℕ) → Begins seed payloads bytes rest → length bytes ≡ extent payloads + length rest
unfolding Begins extent
begins-length seed [] bytes rest b = ap (λ (l : List ℕ). length l) b ∙ omega arith
begins-length seed (p ∷ ps) bytes rest b =
    omega (arith, begins-length (next_seed seed p) ps (drop (frame_size p) bytes) rest b.1, payload_at-long seed p bytes b.0, length-drop (frame_size p) bytes)

pub begins-drop : (seed : ℕ) (payloads : List (List ℕ)) (bytes rest : List ℕ) → Begins seed payloads bytes rest → drop (extent payloads) bytes ≡ rest
unfolding Begins extent
begins-drop seed [] bytes rest b = b
begins-drop seed (p ∷ ps) bytes rest b = sym (drop-drop (extent ps) (frame_size p) bytes) ∙ begins-drop (next_seed seed p) ps (drop (frame_size p) bytes) rest b.1

pub begins-take : (seed : ℕ) (payloads : List (List ℕ)) (bytes rest : List ℕ) (n : ℕ) → Begins seed payloads bytes rest → Begins seed payloads (take (extent payloads + n) bytes) (take n rest)
unfolding Begins extent
begins-take seed [] bytes rest n b = let same : 0 + n ≡ n = omega arith in ap (λ (k : ℕ). take k bytes) same ∙ ap (λ (l : List ℕ). take n l) b
begins-take seed (p ∷ ps) bytes rest n b =
    let m = frame_size p in
    let front = take (m + extent ps + n) bytes in
    let long = payload_at-long seed p bytes b.0 in
    let parts : front ++ drop (m + extent ps + n) bytes ≡ bytes = take-append-drop (m + extent ps + n) bytes in
    let whole = subst (IsFront seed p) (sym parts) (front-payload_at seed p bytes b.0) in
    let found : payload_at seed front ≡ Some p =
    payload_at-front seed p front (front-shrink seed p front (drop (m + extent ps + n) bytes) (omega (arith, long, length-take (m + extent ps + n) bytes)) whole) in
    let sum : m + extent ps + n ≡ m + (extent ps + n) = omega arith in
    let rest_of : drop m front ≡ take (extent ps + n) (drop m bytes) = ap (λ (k : ℕ). drop m (take k bytes)) sum ∙ drop-take m (extent ps + n) bytes in
    (found, subst (λ (l : List ℕ). Begins (next_seed seed p) ps l (take n rest)) (sym rest_of) (begins-take (next_seed seed p) ps (drop m bytes) rest n b.1))

-- other bytes with the same frames: the rest is what follows these in them
pub begins_in : (seed : ℕ) (payloads : List (List ℕ)) (bytes rest other : List ℕ) → Begins seed payloads bytes rest → take (extent payloads) other ≡ take (extent payloads) bytes
    → Begins seed payloads other (drop (extent payloads) other)
begins_in seed payloads bytes rest other b same =
    let n = extent payloads in
    let none : n + 0 ≡ n = omega arith in
    let front : Begins seed payloads (take n bytes) [] = subst (λ (k : ℕ). Begins seed payloads (take k bytes) []) none (begins-take seed payloads bytes rest 0 b) in
    let joined : take n bytes ++ drop n other ≡ other = ap (λ (l : List ℕ). l ++ drop n other) (sym same) ∙ take-append-drop n other in
    subst (λ (l : List ℕ). Begins seed payloads l (drop n other)) joined (begins-append seed payloads (take n bytes) [] (drop n other) front)

-- bytes are frames, and a rest that begins with none
pub record FramesAndRest (seed : ℕ) (payloads : List (List ℕ)) (bytes : List ℕ) : Type 0 where
  pub rest : List ℕ
  pub begins : Begins seed payloads bytes rest
  pub nothing : payload_at (seed_after seed payloads) rest ≡ None

divided_at : (most seed : ℕ) (bytes : List ℕ) → length bytes ≤ most → FramesAndRest seed (payloads_at most seed bytes) bytes
unfolding Begins seed_after
divided_at zero seed bytes le = elim (payload_at_cases seed bytes) [
  | inl none ↦ subst (λ (ps : List (List ℕ)). FramesAndRest seed ps bytes) (sym (step_none zero seed bytes none)) (record { rest = bytes; begins = refl; nothing = none })
  | inr found ↦ absurd (omega (arith, payload_at-long seed found.0 bytes found.1, le))
]
divided_at (suc most) seed bytes le = elim (payload_at_cases seed bytes) [
  | inl none ↦ subst (λ (ps : List (List ℕ)). FramesAndRest seed ps bytes) (sym (step_none (suc most) seed bytes none)) (record { rest = bytes; begins = refl; nothing = none })
  | inr found ↦
      let rest = drop (frame_size found.0) bytes in
      let others = divided_at most (next_seed seed found.0) rest (omega (arith, le, payload_at-long seed found.0 bytes found.1, length-drop (frame_size found.0) bytes)) in
      subst (λ (ps : List (List ℕ)). FramesAndRest seed ps bytes) (sym (step_some most seed found.0 bytes found.1))
      (record { rest = others.rest; begins = (found.1, others.begins); nothing = others.nothing })
]

pub divided : (seed : ℕ) (bytes : List ℕ) → FramesAndRest seed (all_at seed bytes) bytes
divided seed bytes = divided_at (length bytes) seed bytes (omega arith)

-- the frame at a place of a walk over frames
module _ (seed at : ℕ) (bytes payload : List ℕ) (found : Some payload ≡ payload_at seed (take (length bytes - at) (drop at bytes))) where
  here : payload_at seed (drop at bytes) ≡ Some payload
  here = ap (payload_at seed) (sym (take_rest bytes at)) ∙ sym found

  pub fits : frame_size payload ≤ length bytes - at
  fits = omega (arith, payload_at-long seed payload (drop at bytes) here, length-drop at bytes)

  pub goes_on : all_at seed (drop at bytes) ≡ payload ∷ all_at (next_seed seed payload) (drop (at + frame_size payload) bytes)
  goes_on = all_at-some seed payload (drop at bytes) here ∙ ap (λ (l : List ℕ). payload ∷ all_at (next_seed seed payload) l) (drop-drop (frame_size payload) at bytes)

pub ends : (seed at : ℕ) (bytes : List ℕ) → None ≡ payload_at seed (take (length bytes - at) (drop at bytes)) → all_at seed (drop at bytes) ≡ []
ends seed at bytes none = all_at-none seed (drop at bytes) (ap (payload_at seed) (sym (take_rest bytes at)) ∙ sym none)
