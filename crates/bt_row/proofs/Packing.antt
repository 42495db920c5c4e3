-- Bytes of values, and the values of bytes.
use Rattle.std.proofs.Common.{◌≡◌, ℕ, zero, suc, ◌+◌, ◌<◌, ◌≤◌, ◌^◌, ◌==◌, true, false, List, [], ◌∷◌, ◌++◌, length, length-append}
use Rattle.std.proofs.Common.{append_assoc, take, drop, refl, sym, ap, subst, ◌∙◌, ℤ, pos, negsuc, SFits, w64, arith}
use Rattle.std.proofs.lemmas.Bool.{eq-eqb, ne_eqb}
use Rattle.std.proofs.lemmas.Int.{ints}
use Rattle.std.proofs.lemmas.List.{take-append-drop}
use Rattle.std.proofs.lemmas.Nat.{from_le_bytes-to_le_bytes_8}
use Rattle.std.specs.Int.{cast_signed, cast_unsigned}
use Rattle.std.proofs.Math.Seq.{drop-append_seam, take-append_seam}
use Rattle.bt_value.specs.Kinds.{Content, Number, Bytes, Bit, content_of, form_in, form_of, kind_of, kind_of_tag, tag_of, value_with}
use Rattle.bt_value.specs.Values.{AreInRange, IsInRange, LiesInRange}
use Rattle.bt_value.specs.declared.value.Form.{Form}
use Rattle.bt_value.specs.declared.value.Form.TheVariants as form
use Rattle.bt_value.specs.declared.value.Kind.{Kind}
use Rattle.bt_value.specs.declared.value.Value.{Value}
use Rattle.bt_row.specs.inside.Packing.{IsPacked, content_at, first_of, int_bytes, int_from, packed_values, packed_content, offset_of}
use Rattle.bt_row.specs.inside.Packing.{packed_value, unpacked, unpacked_by, value_tagged, width_in, width_of, HasFirst, IsAt}
use Rattle.bt_value.proofs.offered.Kinds.{form_held, tagged, tagged_next, with_content}

pub length_int_bytes : (n : ℤ) → length (int_bytes n) ≡ 8
unfolding int_bytes
length_int_bytes n = refl

low_bits : (n : ℤ) → SFits w64 n → cast_unsigned w64 n < 2 ^ 64
low_bits (pos n) fits = let f = fits.sfits in omega arith
low_bits (negsuc n) fits = let f = fits.sfits in omega arith

same_int : (n : ℤ) → SFits w64 n → cast_signed w64 (cast_unsigned w64 n) ≡ n
same_int n fits = omega (arith, ints)

-- the int that the bytes of an int encode is that int, with any bytes after it
pub int_from-int_bytes : (n : ℤ) (more : List ℕ) → SFits w64 n → int_from (int_bytes n ++ more) ≡ n
unfolding int_bytes int_from
int_from-int_bytes n more fits = ap (cast_signed w64) (from_le_bytes-to_le_bytes_8 (cast_unsigned w64 n) (low_bits n fits)) ∙ same_int n fits

-- ---- the first of packed values, and its width, by the form of its content

-- the value of bytes that begin with a tag of a kind
as_tagged : (k : Kind) (f : Form) (tag : ℕ) (bytes : List ℕ) → kind_of_tag tag ≡ k → form_of k ≡ f → first_of (tag ∷ bytes) ≡ value_with k (content_at f (tag == tag_of k + 1) bytes)
as_tagged k f tag bytes is of_form = ap (λ j. value_tagged j tag bytes) is ∙ ap (λ g. value_with k (content_at g (tag == tag_of k + 1) bytes)) of_form

as_wide : (k : Kind) (f : Form) (tag : ℕ) (bytes : List ℕ) → kind_of_tag tag ≡ k → form_of k ≡ f → width_of (tag ∷ bytes) ≡ width_in f bytes
as_wide k f tag bytes is of_form = ap (λ j. width_in (form_of j) bytes) is ∙ ap (λ g. width_in g bytes) of_form

first-content : (k : Kind) (c : Content) (more : List ℕ) → form_in c ≡ form_of k → LiesInRange k c → first_of (packed_content (tag_of k) c ++ more) ≡ value_with k c
first-content k (Number n) more same fits =
    as_tagged k form.Number (tag_of k) (int_bytes n ++ more) (tagged k) (sym same) ∙ ap (λ z. value_with k (Number z)) (int_from-int_bytes n more fits)
first-content k (Bytes bytes) more same fits =
    as_tagged k form.Bytes (tag_of k) (length bytes ∷ bytes ++ more) (tagged k) (sym same) ∙ ap (λ z. value_with k (Bytes z)) (take-append_seam bytes more)
first-content k (Bit true) more same fits =
    as_tagged k form.Bit (tag_of k + 1) more (tagged_next k (sym same)) (sym same) ∙ ap (λ z. value_with k (Bit z)) (eq-eqb (tag_of k + 1) (tag_of k + 1) refl)
first-content k (Bit false) more same fits =
    as_tagged k form.Bit (tag_of k) more (tagged k) (sym same) ∙ ap (λ z. value_with k (Bit z)) (ne_eqb (tag_of k) (tag_of k + 1) (λ (e : tag_of k ≡ tag_of k + 1). omega (arith, e)))

pub first-packed : (v : Value) (more : List ℕ) → IsInRange v → first_of (packed_value v ++ more) ≡ v
first-packed v more fits = first-content (kind_of v) (content_of v) more (form_held v) fits ∙ with_content v

width-content : (k : Kind) (c : Content) (more : List ℕ) → form_in c ≡ form_of k → width_of (packed_content (tag_of k) c ++ more) ≡ length (packed_content (tag_of k) c)
width-content k (Number n) more same = as_wide k form.Number (tag_of k) (int_bytes n ++ more) (tagged k) (sym same) ∙ sym (ap suc (length_int_bytes n))
width-content k (Bytes bytes) more same = as_wide k form.Bytes (tag_of k) (length bytes ∷ bytes ++ more) (tagged k) (sym same) ∙ omega arith
width-content k (Bit true) more same = as_wide k form.Bit (tag_of k + 1) more (tagged_next k (sym same)) (sym same)
width-content k (Bit false) more same = as_wide k form.Bit (tag_of k) more (tagged k) (sym same)

pub width-packed : (v : Value) (more : List ℕ) → width_of (packed_value v ++ more) ≡ length (packed_value v)
width-packed v more = width-content (kind_of v) (content_of v) more (form_held v)

some_content : (tag : ℕ) (c : Content) → 0 < length (packed_content tag c)
some_content tag (Number n) = omega arith
some_content tag (Bytes bytes) = omega arith
some_content tag (Bit bit) = omega arith

pub some_width : (v : Value) → 0 < length (packed_value v)
some_width v = some_content (tag_of (kind_of v)) (content_of v)

-- one step of the reading, with the first value in front
one_more : (most : ℕ) (bytes : List ℕ) → 0 < length bytes → unpacked_by (suc most) bytes ≡ first_of bytes ∷ unpacked_by most (drop (width_of bytes) bytes)
unfolding unpacked_by
one_more most [] some = absurd (omega arith)
one_more most (b ∷ bs) some = refl

pub rest-packed : (v : Value) (more : List ℕ) → drop (width_of (packed_value v ++ more)) (packed_value v ++ more) ≡ more
rest-packed v more = ap (λ w. drop w (packed_value v ++ more)) (width-packed v more) ∙ drop-append_seam (packed_value v) more

step : (most : ℕ) (v : Value) (more : List ℕ) → IsInRange v → unpacked_by (suc most) (packed_value v ++ more) ≡ v ∷ unpacked_by most more
step most v more fits =
    one_more most (packed_value v ++ more) (omega (arith, length-append (packed_value v) more, some_width v))
    ∙ ap (λ z. z ∷ unpacked_by most (drop (width_of (packed_value v ++ more)) (packed_value v ++ more))) (first-packed v more fits)
    ∙ ap (λ z. v ∷ unpacked_by most z) (rest-packed v more)

unpacked_by-packed : (most : ℕ) (vs : List Value) → AreInRange vs → length (packed_values vs) ≤ most → unpacked_by most (packed_values vs) ≡ vs
unfolding unpacked_by
unpacked_by-packed zero [] fits enough = refl
unpacked_by-packed (suc most) [] fits enough = refl
unpacked_by-packed zero (v ∷ vs) fits enough = absurd (omega (arith, length-append (packed_value v) (packed_values vs), some_width v))
unpacked_by-packed (suc most) (v ∷ vs) fits enough =
    step most v (packed_values vs) fits.0 ∙ ap (λ z. v ∷ z) (unpacked_by-packed most vs fits.1 (omega (arith, length-append (packed_value v) (packed_values vs), some_width v)))

-- reading the bytes of values gives these values
pub unpacked-packed : (vs : List Value) → AreInRange vs → unpacked (packed_values vs) ≡ vs
unfolding unpacked
unpacked-packed vs fits = unpacked_by-packed (length (packed_values vs)) vs fits (omega arith)

pub are_packed : (vs : List Value) → AreInRange vs → IsPacked (packed_values vs)
are_packed vs fits = record {
  in_range = subst AreInRange (sym (unpacked-packed vs fits)) fits;
  same = ap packed_values (unpacked-packed vs fits);
}

-- ---- values side by side

pub packed-append : (vs ws : List Value) → packed_values (vs ++ ws) ≡ packed_values vs ++ packed_values ws
packed-append [] ws = refl
packed-append (v ∷ vs) ws = ap (λ z. packed_value v ++ z) (packed-append vs ws) ∙ sym (append_assoc (packed_value v) (packed_values vs) (packed_values ws))

pub in_range-append : (vs ws : List Value) → AreInRange vs → AreInRange ws → AreInRange (vs ++ ws)
in_range-append [] ws f g = g
in_range-append (v ∷ vs) ws f g = (f.0, in_range-append vs ws f.1 g)

pub in_range-take : (n : ℕ) (vs : List Value) → AreInRange vs → AreInRange (take n vs)
in_range-take zero vs f = tt
in_range-take (suc n) [] f = tt
in_range-take (suc n) (v ∷ vs) f = (f.0, in_range-take n vs f.1)

pub in_range-drop : (n : ℕ) (vs : List Value) → AreInRange vs → AreInRange (drop n vs)
in_range-drop zero vs f = f
in_range-drop (suc n) [] f = tt
in_range-drop (suc n) (v ∷ vs) f = in_range-drop n vs f.1

-- ---- the first value

has_first-packed : (v : Value) (vs : List Value) → AreInRange (v ∷ vs) → HasFirst (packed_values (v ∷ vs))
has_first-packed v vs fits =
    let width = width-packed v (packed_values vs) in
    let first = first-packed v (packed_values vs) fits.0 in
    let rest = rest-packed v (packed_values vs) in
    record {
      within = omega (arith, width, length-append (packed_value v) (packed_values vs));
      some = omega (arith, width, some_width v);
      width = ap (λ z. length (packed_value z)) first ∙ sym width;
      front = ap packed_value first ∙ sym (ap (λ w. take w (packed_value v ++ packed_values vs)) width ∙ take-append_seam (packed_value v) (packed_values vs));
      values =
          unpacked-packed (v ∷ vs) fits
          ∙ sym (ap (λ z. z ∷ unpacked (drop (width_of (packed_value v ++ packed_values vs)) (packed_value v ++ packed_values vs))) first
          ∙ ap (λ z. v ∷ unpacked z) rest ∙ ap (λ z. v ∷ z) (unpacked-packed vs fits.1));
      in_range = subst IsInRange (sym first) fits.0;
      rest = subst IsPacked (sym rest) (are_packed vs fits.1);
    }

has_first_of : (vs : List Value) → AreInRange vs → 0 < length (packed_values vs) → HasFirst (packed_values vs)
has_first_of [] fits some = absurd (omega arith)
has_first_of (v ∷ vs) fits some = has_first-packed v vs fits

pub has_first : (bytes : List ℕ) → IsPacked bytes → 0 < length bytes → HasFirst bytes
has_first bytes h some = subst HasFirst h.same (has_first_of (unpacked bytes) h.in_range (omega (arith, ap length h.same)))

-- ---- the value at a place

seam : (n : ℕ) (vs : List Value) → packed_values vs ≡ packed_values (take n vs) ++ packed_values (drop n vs)
seam n vs = ap packed_values (sym (take-append-drop n vs)) ∙ packed-append (take n vs) (drop n vs)

is_at-packed : (vs : List Value) (n : ℕ) → AreInRange vs → IsAt (packed_values vs) n (offset_of n vs)
is_at-packed vs n fits =
    let back = unpacked-packed vs fits in
    let rest : drop (offset_of n vs) (packed_values vs) ≡ packed_values (drop n vs) =
    ap (drop (offset_of n vs)) (seam n vs) ∙ drop-append_seam (packed_values (take n vs)) (packed_values (drop n vs)) in
    record {
      within = omega (arith, ap length (seam n vs), length-append (packed_values (take n vs)) (packed_values (drop n vs)));
      front = ap (λ z. packed_values (take n z)) back ∙ sym (ap (take (offset_of n vs)) (seam n vs) ∙ take-append_seam (packed_values (take n vs)) (packed_values (drop n vs)));
      values = ap unpacked rest ∙ unpacked-packed (drop n vs) (in_range-drop n vs fits) ∙ sym (ap (drop n) back);
      rest = subst IsPacked (sym rest) (are_packed (drop n vs) (in_range-drop n vs fits));
    }

pub is_at : (bytes : List ℕ) (place : ℕ) → IsPacked bytes → IsAt bytes place (offset_of place (unpacked bytes))
is_at bytes place h = subst (λ z. IsAt z place (offset_of place (unpacked bytes))) h.same (is_at-packed (unpacked bytes) place h.in_range)

-- the number of the bytes of values
pub length_packed : (v : Value) (vs : List Value) → length (packed_values (v ∷ vs)) ≡ length (packed_value v) + length (packed_values vs)
length_packed v vs = length-append (packed_value v) (packed_values vs)
