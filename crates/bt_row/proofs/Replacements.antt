-- Replacing one value in the bytes of values.
use Rattle.std.proofs.Common.{◌≡◌, ℕ, zero, suc, ◌+◌, ◌-◌, ◌<◌, ◌≤◌, ◌==◌, List, [], ◌∷◌, ◌++◌, length, length-drop, append_assoc}
use Rattle.std.proofs.Common.{take, drop, get_or, set, Option, Some, None, refl, sym, ap, subst, ◌∙◌, ℤ, pos, SFits, w64, arith}
use Rattle.std.proofs.lemmas.List.{drop-drop, drop_all}
use Rattle.bt_row.specs.Arithmetic.{Makes, new_number, new_value}
use Rattle.bt_value.specs.Kinds.{form_of, kind_of, kind_of_tag, tag_of}
use Rattle.bt_row.specs.Ops.{after_action}
use Rattle.bt_row.specs.declared.operations.op.Arithmetic.{Arithmetic}
use Rattle.bt_value.specs.declared.value.Kind.TheVariants as kind
use Rattle.bt_value.specs.declared.value.Value.{Value}
use Rattle.bt_value.specs.declared.value.Value.TheVariants as value
use Rattle.bt_row.specs.inside.Numbers.{int_number}
use Rattle.bt_value.specs.Values.{AreInRange, IsInRange}
use Rattle.bt_row.specs.inside.Packing.{IsAt, IsPacked, content_at, first_of, int_bytes, int_from, packed_values, packed_value, unpacked, value_tagged, width_in, width_of}
use Rattle.bt_value.proofs.offered.Kinds.{int_tag, kind_with}
use Rattle.bt_row.proofs.Packing.{are_packed, has_first, in_range-append, in_range-take, packed-append, unpacked-packed}
use Rattle.bt_row.proofs.Walks.{take_one_more, unpacked_none}

number_kind : (v : Value) (n : ℤ) → int_number v ≡ Some n → v ≡ value.Int n
number_kind (value.Int m) n e = cc
number_kind v n e = absurd cc

-- new bytes are the old ones with the value that begins at a byte replaced
pub record Replaces (old new : List ℕ) (at : ℕ) (v : Value) : Type 0 where
  pub bytes : new ≡ take at old ++ (packed_value v ++ drop (at + width_of (drop at old)) old)

set_dropped : (n : ℕ) (vs : List Value) (v w : Value) (rest : List Value) → drop n vs ≡ v ∷ rest → set vs n w ≡ take n vs ++ w ∷ rest
set_dropped zero [] v w rest e = (cc)
set_dropped zero (u ∷ vs) v w rest e = (cc)
set_dropped (suc n) [] v w rest e = (cc)
set_dropped (suc n) (u ∷ vs) v w rest e = ap (λ z. u ∷ z) (set_dropped n vs v w rest e)

replaced_are : (old : List ℕ) (place at : ℕ) (v : Value) → IsPacked old → IsAt old place at → at < length old → IsInRange v →
    AreInRange (set (unpacked old) place v) × (packed_values (set (unpacked old) place v) ≡ take at old ++ (packed_value v ++ drop (at + width_of (drop at old)) old))
replaced_are old place at v h here more fits =
    let vs = unpacked old in
    let first = has_first (drop at old) here.rest (omega (arith, length-drop at old)) in
    let width : ℕ = width_of (drop at old) in
    let rest : List Value = unpacked (drop width (drop at old)) in
    let values : drop place (unpacked old) ≡ first_of (drop at old) ∷ rest = sym here.values ∙ first.values in
    let replaced = set_dropped place (unpacked old) _ v rest values in
    let fits_rest : AreInRange rest = first.rest.in_range in (
      subst AreInRange (sym replaced) (in_range-append (take place (unpacked old)) (v ∷ rest) (in_range-take place (unpacked old) h.in_range) (fits, fits_rest)),
      ap packed_values replaced ∙ packed-append (take place (unpacked old)) (v ∷ rest)
          ∙ ap (λ z. z ++ (packed_value v ++ packed_values rest)) here.front
          ∙ ap (λ z. take at old ++ (packed_value v ++ z)) (first.rest.same ∙ drop-drop width at old),
    )

pub replaced_packed : (old new : List ℕ) (place at : ℕ) (v : Value) → IsPacked old → IsAt old place at → at < length old → IsInRange v → Replaces old new at v → IsPacked new
replaced_packed old new place at v h here more fits r =
    let both = replaced_are old place at v h here more fits in
    subst IsPacked (both.1 ∙ sym r.bytes) (are_packed _ both.0)

pub replaced : (old new : List ℕ) (place at : ℕ) (v : Value) → IsPacked old → IsAt old place at → at < length old → IsInRange v → Replaces old new at v → unpacked new ≡ set (unpacked old) place v
replaced old new place at v h here more fits r =
    let both = replaced_are old place at v h here more fits in
    ap unpacked (r.bytes ∙ sym both.1) ∙ unpacked-packed _ both.0

-- a place past the end
pub set_past_end : (bytes : List ℕ) (place at : ℕ) (v : Value) → IsAt bytes place at → length bytes ≤ at → set (unpacked bytes) place v ≡ unpacked bytes
set_past_end bytes place at v here past =
    let none : drop place (unpacked bytes) ≡ [] = sym here.values ∙ ap unpacked (drop_all at bytes past) ∙ unpacked_none in
    past_last place (unpacked bytes) v none
  where
    past_last : (n : ℕ) (vs : List Value) (w : Value) → drop n vs ≡ [] → set vs n w ≡ vs
    past_last n [] w e = refl
    past_last zero (u ∷ vs) w e = absurd cc
    past_last (suc n) (u ∷ vs) w e = ap (λ z. u ∷ z) (past_last n vs w e)

-- ---- an int combined with a number

-- the first value takes no more bytes than there are
pub width_fits : (bytes : List ℕ) → IsPacked bytes → width_of bytes ≤ length bytes
width_fits [] h = omega arith
width_fits (b ∷ bs) h = (has_first (b ∷ bs) h (omega arith)).within

-- the tag of an int
tag_of_int : (tag : ℕ) (bs : List ℕ) (n : ℤ) → int_number (first_of (tag ∷ bs)) ≡ Some n → kind_of_tag tag ≡ kind.Int
tag_of_int tag bs n e =
    sym (kind_with (kind_of_tag tag) (content_at (form_of (kind_of_tag tag)) (tag == tag_of (kind_of_tag tag) + 1) bs)) ∙ ap kind_of (number_kind (first_of (tag ∷ bs)) n e)

int_first : (bytes : List ℕ) (n : ℤ) → int_number (first_of bytes) ≡ Some n → (first_of bytes ≡ value.Int n) × (width_of bytes ≡ 9) × (bytes ≡ 0 ∷ drop 1 bytes)
int_first [] n e = absurd (cc)
int_first (tag ∷ bs) n e =
    let k = tag_of_int tag bs n e in
    (number_kind (first_of (tag ∷ bs)) n e, ap (λ j. width_in (form_of j) bs) k, ap (λ t. t ∷ bs) (int_tag tag k))

-- bytes that begin with the tag of an int have an int of nine bytes
pub int_width : (tag : ℕ) (bs : List ℕ) → kind_of_tag tag ≡ kind.Int → width_of (tag ∷ bs) ≡ 9
int_width tag bs is = ap (λ k. width_in (form_of k) bs) is

pub is_number : (tag : ℕ) (bs : List ℕ) → kind_of_tag tag ≡ kind.Int → Some (int_from bs) ≡ int_number (first_of (tag ∷ bs))
is_number tag bs is = sym (ap (λ k. int_number (value_tagged k tag bs)) is)

-- bytes that begin with another tag have no int
pub no_number : (tag : ℕ) (bs : List ℕ) → (kind_of_tag tag ≡ kind.Int → ⊥) → None ≡ int_number (first_of (tag ∷ bs))
no_number tag bs other = by_number (int_number (first_of (tag ∷ bs))) refl
  where
    by_number : (o : Option ℤ) → int_number (first_of (tag ∷ bs)) ≡ o → None ≡ o
    by_number None e = refl
    by_number (Some n) e = absurd (other (tag_of_int tag bs n e))

get_dropped : (n : ℕ) (vs : List Value) (v d : Value) (rest : List Value) → drop n vs ≡ v ∷ rest → get_or vs n d ≡ v
get_dropped zero [] v d rest e = (cc)
get_dropped zero (u ∷ vs) v d rest e = (cc)
get_dropped (suc n) [] v d rest e = (cc)
get_dropped (suc n) (u ∷ vs) v d rest e = get_dropped n vs v d rest e

-- what is at the byte where an int begins
pub record HasInt (bytes : List ℕ) (place at : ℕ) (m : ℤ) : Type 0 where
  pub more : at < length bytes
  pub within : at + 9 ≤ length bytes
  pub width : width_of (drop at bytes) ≡ 9
  pub front : take (at + 1) bytes ≡ take at bytes ++ 0 ∷ []
  pub old : (d : Value) → get_or (unpacked bytes) place d ≡ value.Int m

pub has_int : (bytes : List ℕ) (place at : ℕ) (m : ℤ) → IsAt bytes place at → int_number (first_of (drop at bytes)) ≡ Some m → HasInt bytes place at m
has_int bytes place at m here e =
    let found = int_first (drop at bytes) m e in
    let fits = width_fits (drop at bytes) here.rest in
    let many : 9 ≤ length bytes - at = omega (arith, fits, found.1, length-drop at bytes) in
    let first = has_first (drop at bytes) here.rest (omega (arith, length-drop at bytes)) in
    record {
      more = omega arith;
      within = omega arith;
      width = found.1;
      front = take_one_more at bytes 0 _ found.2;
      old = λ d. get_dropped place (unpacked bytes) _ d _ (sym here.values ∙ first.values) ∙ found.0;
    }

written : (old new : List ℕ) (place at : ℕ) (m k : ℤ) → HasInt old place at m → new ≡ take (at + 1) old ++ (int_bytes k ++ drop (at + 9) old) → Replaces old new at (value.Int k)
written old new place at m k has e = record {
  bytes =
      e ∙ ap (λ z. z ++ (int_bytes k ++ drop (at + 9) old)) has.front ∙ append_assoc (take at old) (0 ∷ []) (int_bytes k ++ drop (at + 9) old)
      ∙ ap (λ w. take at old ++ (0 ∷ (int_bytes k ++ drop (at + w) old))) (sym has.width);
}

pub made_packed : (old new : List ℕ) (place at : ℕ) (m k : ℤ) → IsPacked old → IsAt old place at → int_number (first_of (drop at old)) ≡ Some m → SFits w64 k →
    new ≡ take (at + 1) old ++ (int_bytes k ++ drop (at + 9) old) → IsPacked new
made_packed old new place at m k h here e fits r =
    let has = has_int old place at m here e in
    replaced_packed old new place at (value.Int k) h here has.more fits (written old new place at m k has r)

pub made_values : (old new : List ℕ) (arithmetic : Arithmetic) (place at : ℕ) (m n k : ℤ) → IsPacked old → IsAt old place at → int_number (first_of (drop at old)) ≡ Some m → SFits w64 k →
    k ≡ new_number arithmetic m n → new ≡ take (at + 1) old ++ (int_bytes k ++ drop (at + 9) old) → unpacked new ≡ after_action (unpacked old) (Makes arithmetic place n)
made_values old new arithmetic place at m n k h here e fits is r =
    let has = has_int old place at m here e in
    replaced old new place at (value.Int k) h here has.more fits (written old new place at m k has r)
    ∙ ap (λ z. set (unpacked old) place (value.Int z)) is ∙ sym (ap (λ z. set (unpacked old) place (new_value arithmetic n z)) (has.old (value.Int (pos 0))))
