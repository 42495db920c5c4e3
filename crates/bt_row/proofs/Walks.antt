-- A walk over the bytes of values.
use Rattle.std.proofs.Common.{◌≡◌, ◌≢◌, ℕ, zero, suc, ◌+◌, ◌<◌, ◌≤◌, ◌==◌, true, false, List, [], ◌∷◌, ◌++◌, length, length-append, length-drop}
use Rattle.std.proofs.Common.{append-nil, take, drop, get_or, set, slice_get, None, Some, refl, sym, ap, subst, ◌∙◌, arith}
use Rattle.std.proofs.Math.Logic.{⊎_elim}
use Rattle.std.proofs.lemmas.Bool.{cases_lt, ne_eqb}
use Rattle.std.proofs.lemmas.List.{take_all, drop_all}
use Rattle.bt_value.specs.declared.value.Value.{Value}
use Rattle.bt_value.specs.Values.{IsInRange}
use Rattle.bt_row.specs.inside.Packing.{IsAt, IsPacked, first_of, offset_of, packed_values, packed_value, unpacked, unpacked_by, width_of}
use Rattle.bt_row.proofs.Packing.{are_packed, has_first, in_range-append, in_range-take, is_at, packed-append, unpacked-packed}

pub unpacked_none : unpacked [] ≡ []
unfolding unpacked unpacked_by
unpacked_none = refl

-- this many values are before this byte
pub record Walk (bytes : List ℕ) (passed at : ℕ) : Type 0 where
  pub offset : at ≡ offset_of passed (unpacked bytes)
  pub count : passed ≤ length (unpacked bytes)
  pub within : at ≤ length bytes
  pub fewer : passed ≤ at

pub walk_begins : (bytes : List ℕ) → IsPacked bytes → Walk bytes 0 0
walk_begins bytes h = record { offset = refl; count = omega arith; within = omega arith; fewer = omega arith }

pub take_one_more : {A : Type 0} (n : ℕ) (vs : List A) (v : A) (rest : List A) → drop n vs ≡ v ∷ rest → take (n + 1) vs ≡ take n vs ++ v ∷ []
take_one_more zero [] v rest e = (cc)
take_one_more zero (w ∷ vs) v rest e = (cc)
take_one_more (suc n) [] v rest e = (cc)
take_one_more (suc n) (w ∷ vs) v rest e = let k : suc n + 1 ≡ suc (n + 1) = omega arith in rw k (ap (λ z. w ∷ z) (take_one_more n vs v rest e))

-- the byte after the next value has one more value before it
pub next_offset : (bytes : List ℕ) (passed : ℕ) → IsPacked bytes → offset_of passed (unpacked bytes) < length bytes →
    (offset_of (passed + 1) (unpacked bytes) ≡ offset_of passed (unpacked bytes) + width_of (drop (offset_of passed (unpacked bytes)) bytes)) × (passed < length (unpacked bytes))
next_offset bytes passed h more =
    let at : ℕ = offset_of passed (unpacked bytes) in
    let here = is_at bytes passed h in
    let first = has_first (drop at bytes) here.rest (omega (arith, length-drop at bytes)) in
    let values : drop passed (unpacked bytes) ≡ first_of (drop at bytes) ∷ unpacked (drop (width_of (drop at bytes)) (drop at bytes)) = sym here.values ∙ first.values in
    let taken = take_one_more passed (unpacked bytes) _ _ values in
    let joined = ap packed_values taken ∙ packed-append (take passed (unpacked bytes)) (first_of (drop at bytes) ∷ []) in (
      omega (
        arith,
        ap length joined,
        length-append (packed_values (take passed (unpacked bytes))) (packed_value (first_of (drop at bytes)) ++ []),
        length-append (packed_value (first_of (drop at bytes))) [],
        first.width,
      ),
      omega (arith, ap length values, length-drop passed (unpacked bytes)),
    )

pub walked : (bytes : List ℕ) (passed at width : ℕ) → IsPacked bytes → Walk bytes passed at → at < length bytes → width ≡ width_of (drop at bytes) → Walk bytes (passed + 1) (at + width)
walked bytes passed at width h w more e =
    let here : offset_of passed (unpacked bytes) < length bytes = omega (arith, w.offset) in
    let next = next_offset bytes passed h here in
    let at_next = is_at bytes (passed + 1) h in
    let first = has_first (drop at bytes) (subst (λ z. IsPacked (drop z bytes)) (sym w.offset) (is_at bytes passed h).rest) (omega (arith, length-drop at bytes)) in
    let same : width_of (drop (offset_of passed (unpacked bytes)) bytes) ≡ width = ap (λ z. width_of (drop z bytes)) (sym w.offset) ∙ sym e in
    record {
      offset = omega (arith, next.0, same, w.offset);
      count = omega (arith, next.1);
      within = omega (arith, next.0, same, w.offset, at_next.within);
      fewer = omega (arith, w.fewer, first.some, e);
    }

pub walk_done : (bytes : List ℕ) (passed at place : ℕ) → IsPacked bytes → Walk bytes passed at → passed ≡ place → IsAt bytes place at
walk_done bytes passed at place h w done = subst (λ n. IsAt bytes n at) done (subst (IsAt bytes passed) (sym w.offset) (is_at bytes passed h))

pub walked_all : (bytes : List ℕ) (passed at : ℕ) → IsPacked bytes → Walk bytes passed at → length bytes ≤ at → passed ≡ length (unpacked bytes)
walked_all bytes passed at h w all =
    let here = is_at bytes passed h in
    let none : drop passed (unpacked bytes) ≡ [] = sym here.values ∙ ap unpacked (ap (λ z. drop z bytes) (sym w.offset) ∙ drop_all at bytes all) ∙ unpacked_none in
    omega (arith, ap length none, length-drop passed (unpacked bytes), w.count)

pub walk_ended : (bytes : List ℕ) (passed at place : ℕ) → IsPacked bytes → Walk bytes passed at → length bytes ≤ at → passed ≤ place → IsAt bytes place at
walk_ended bytes passed at place h w all up_to =
    let count = walked_all bytes passed at h w all in
    let same : at ≡ offset_of place (unpacked bytes) =
    w.offset ∙ ap (λ z. length (packed_values z)) (take_all passed (unpacked bytes) (omega (arith, count)) ∙ sym (take_all place (unpacked bytes) (omega (arith, count, up_to)))) in
    subst (IsAt bytes place) (sym same) (is_at bytes place h)

first_dropped : (n : ℕ) (vs : List Value) (v : Value) (rest : List Value) → drop n vs ≡ v ∷ rest → slice_get vs n ≡ Some v
first_dropped zero [] v rest e = (cc)
first_dropped zero (w ∷ vs) v rest e = (cc)
first_dropped (suc n) [] v rest e = (cc)
first_dropped (suc n) (w ∷ vs) v rest e = first_dropped n vs v rest e

pub before_end : (bytes : List ℕ) (place at : ℕ) → place < length (unpacked bytes) → IsAt bytes place at → at < length bytes
before_end bytes place at within here =
    ⊎_elim (λ below. below) (λ all.
    let none : drop place (unpacked bytes) ≡ [] = sym here.values ∙ ap unpacked (drop_all at bytes all) ∙ unpacked_none in
    absurd (omega (arith, ap length none, length-drop place (unpacked bytes)))) (cases_lt at (length bytes))

-- what is at the byte where a value begins
pub record HasValue (bytes : List ℕ) (place at : ℕ) : Type 0 where
  pub some : at < length bytes
  pub left : 0 < length (drop at bytes)
  pub within : width_of (drop at bytes) ≤ length (drop at bytes)
  pub value : slice_get (unpacked bytes) place ≡ Some (first_of (drop at bytes))
  pub in_range : IsInRange (first_of (drop at bytes))

-- if bytes are left, a value begins there
pub value_there : (bytes : List ℕ) (place at : ℕ) → IsAt bytes place at → at < length bytes → HasValue bytes place at
value_there bytes place at here some =
    let left : 0 < length (drop at bytes) = omega (arith, length-drop at bytes) in
    let first = has_first (drop at bytes) here.rest left in
    record { some = some; left = left; within = first.within; value = first_dropped place (unpacked bytes) _ _ (sym here.values ∙ first.values); in_range = first.in_range }

pub has_value : (bytes : List ℕ) (place at : ℕ) → IsAt bytes place at → place < length (unpacked bytes) → HasValue bytes place at
has_value bytes place at here within = value_there bytes place at here (before_end bytes place at within here)

pub no_value_there : (bytes : List ℕ) (place at : ℕ) → IsAt bytes place at → length bytes ≤ at → length (unpacked bytes) ≤ place
no_value_there bytes place at here all =
    let none : drop place (unpacked bytes) ≡ [] = sym here.values ∙ ap unpacked (drop_all at bytes all) ∙ unpacked_none in
    omega (arith, ap length none, length-drop place (unpacked bytes))

pub are_first_packed : (bytes : List ℕ) (count end : ℕ) → IsPacked bytes → IsAt bytes count end → IsPacked (take end bytes)
are_first_packed bytes count end h here = subst IsPacked here.front (are_packed _ (in_range-take count (unpacked bytes) h.in_range))

pub are_first : (bytes : List ℕ) (count end : ℕ) → IsPacked bytes → IsAt bytes count end → unpacked (take end bytes) ≡ take count (unpacked bytes)
are_first bytes count end h here = ap unpacked (sym here.front) ∙ unpacked-packed _ (in_range-take count (unpacked bytes) h.in_range)

pub none_of_none : (bytes : List ℕ) → (length bytes == 0) ≡ true → unpacked bytes ≡ []
none_of_none [] e = unpacked_none
none_of_none (b ∷ bs) e = let other : (length (b ∷ bs) == 0) ≡ false = ne_eqb (length (b ∷ bs)) 0 (λ (z : length (b ∷ bs) ≡ 0). omega arith) in absurd cc

pub some_byte : (bytes : List ℕ) → (length bytes == 0) ≡ false → 0 < length bytes
some_byte [] e = absurd cc
some_byte (b ∷ bs) e = omega arith

-- there is no value exactly if there is no byte
pub none_left : (bytes : List ℕ) → IsPacked bytes → (length bytes == 0) ≡ (length (unpacked bytes) == 0)
none_left [] h = ap (λ vs. length vs == 0) (sym unpacked_none)
none_left (b ∷ bs) h =
    let some : length (b ∷ bs) ≢ 0 = omega arith in
    let first = has_first (b ∷ bs) h (omega arith) in
    let more : length (unpacked (b ∷ bs)) ≢ 0 = omega (arith, ap length first.values) in
    ne_eqb (length (b ∷ bs)) 0 some ∙ sym (ne_eqb (length (unpacked (b ∷ bs))) 0 more)

pub none_packed : IsPacked []
none_packed = are_packed [] tt

pub pushed_packed : (bytes : List ℕ) (v : Value) → IsPacked bytes → IsInRange v → IsPacked (bytes ++ packed_value v)
pushed_packed bytes v h fits =
    let joined : packed_values (unpacked bytes ++ v ∷ []) ≡ bytes ++ packed_value v =
    packed-append (unpacked bytes) (v ∷ []) ∙ ap (λ z. z ++ (packed_value v ++ [])) h.same ∙ ap (λ z. bytes ++ z) (append-nil (packed_value v)) in
    subst IsPacked joined (are_packed _ (in_range-append (unpacked bytes) (v ∷ []) h.in_range (fits, tt)))

pub pushed : (bytes : List ℕ) (v : Value) → IsPacked bytes → IsInRange v → unpacked (bytes ++ packed_value v) ≡ unpacked bytes ++ v ∷ []
pushed bytes v h fits =
    let joined : packed_values (unpacked bytes ++ v ∷ []) ≡ bytes ++ packed_value v =
    packed-append (unpacked bytes) (v ∷ []) ∙ ap (λ z. z ++ (packed_value v ++ [])) h.same ∙ ap (λ z. bytes ++ z) (append-nil (packed_value v)) in
    sym (ap unpacked joined) ∙ unpacked-packed _ (in_range-append (unpacked bytes) (v ∷ []) h.in_range (fits, tt))

-- bytes of values after bytes of values
join : (first second : List ℕ) → IsPacked first → IsPacked second → packed_values (unpacked first ++ unpacked second) ≡ first ++ second
join first second f g = packed-append (unpacked first) (unpacked second) ∙ ap (λ z. z ++ packed_values (unpacked second)) f.same ∙ ap (λ z. first ++ z) g.same

pub joined : (first second : List ℕ) → IsPacked first → IsPacked second → unpacked (first ++ second) ≡ unpacked first ++ unpacked second
joined first second f g = sym (ap unpacked (join first second f g)) ∙ unpacked-packed _ (in_range-append (unpacked first) (unpacked second) f.in_range g.in_range)

none_some : (v : Value) → None ≡ Some v → ⊥
none_some v e = (cc)

absurd_some : {P : Type 0} (v : Value) → None ≡ Some v → P
absurd_some v e = absurd (none_some v e)

pub got : (vs : List Value) (n : ℕ) (d v : Value) → slice_get vs n ≡ Some v → get_or vs n d ≡ v
got [] n d v e = absurd_some v e
got (w ∷ vs) zero d v e = (cc)
got (w ∷ vs) (suc n) d v e = got vs n d v e
