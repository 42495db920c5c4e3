-- Codes are ordered like the values that they encode, value by value. Used by `cmp_rows` and offered/Codes.
use Rattle.std.proofs.Common.{◌≡◌, ℕ, ◌^◌, ◌<◌, Bool, true, false, List, [], ◌∷◌, ◌++◌, append_assoc, length, refl, sym, ap, ◌∙◌, arith, ℤ}
use Rattle.std.specs.Cmp.{int_ranks, nat_cmp_is}
use Rattle.std.specs.Cmp.Lexicographic.{slice_cmp}
use Rattle.std.specs.Int.{w64}
use Rattle.std.specs.Prelude.{FitsSigned, pos, negsuc, ◌<ℤ◌}
use Rattle.std.specs.Ordering.{bool_cmp, int_cmp, nat_cmp, ordering_then, MatchOrdering}
use Rattle.std.specs.declared.cmp.Ordering.{Ordering}
use Rattle.std.specs.declared.cmp.Ordering.TheVariants.{Less, Equal, Greater}
use Rattle.std.proofs.lemmas.Int.{ints}
use Rattle.bt_value.specs.Kinds.{Content, Number, Bytes, Bit, content_of, form_in, form_of}
use Rattle.bt_value.specs.Values.{IsInRange, LiesInRange, content_cmp, value_cmp}
use Rattle.bt_value.specs.declared.value.Kind.{Kind}
use Rattle.bt_value.specs.declared.value.Value.{Value}
use Rattle.bt_value.proofs.offered.Kinds.{form_held}
use Rattle.bt_keycode.specs.Codes.{HaveSameKinds, code_of, code_of_content, code_of_value, eight_bytes, escaped, kind_of, raised}
use Rattle.bt_keycode.specs.inside.CodeBeginnings.{HasBits}
use Rattle.bt_keycode.proofs.Escapes.{escaped_compare, escaped_unique, then_assoc, then_equal}
use Rattle.bt_keycode.proofs.Numbers.{slice_cmp-eight_bytes}

-- ---- numbers

raised_ranks : (a b : ℤ) → FitsSigned w64 a → FitsSigned w64 b → (o : Ordering) → MatchOrdering o (a <ℤ b) (a ≡ b) (b <ℤ a)
    → MatchOrdering o (raised a < raised b) (raised a ≡ raised b) (raised b < raised a)
raised_ranks a b f g Equal h = ap raised h
raised_ranks (pos a) (pos b) f g Less h = omega (arith, ints)
raised_ranks (pos a) (negsuc b) f g Less h = absurd (omega (arith, ints))
raised_ranks (negsuc a) (pos b) f g Less h = omega (arith, ints, f.sfits)
raised_ranks (negsuc a) (negsuc b) f g Less h = omega (arith, ints, f.sfits, g.sfits)
raised_ranks (pos a) (pos b) f g Greater h = omega (arith, ints)
raised_ranks (pos a) (negsuc b) f g Greater h = omega (arith, ints, g.sfits)
raised_ranks (negsuc a) (pos b) f g Greater h = absurd (omega (arith, ints))
raised_ranks (negsuc a) (negsuc b) f g Greater h = omega (arith, ints, f.sfits, g.sfits)

raised-below : (a : ℤ) → FitsSigned w64 a → raised a < 2 ^ 64
raised-below (pos a) f = omega (arith, f.sfits)
raised-below (negsuc a) f = omega (arith, f.sfits)

-- the bytes of ints are ordered like the ints
ints_compare : (a b : ℤ) → FitsSigned w64 a → FitsSigned w64 b → slice_cmp nat_cmp (eight_bytes (raised a)) (eight_bytes (raised b)) ≡ int_cmp a b
ints_compare a b f g =
    slice_cmp-eight_bytes (raised a) (raised b) (raised-below a f) (raised-below b g)
    ∙ sym (nat_cmp_is (raised a) (raised b) (int_cmp a b) (raised_ranks a b f g (int_cmp a b) (int_ranks a b)))

-- ---- contents

-- the codes of bits are ordered like the bits
bits_compare : (a b : Bool) → slice_cmp nat_cmp (code_of_content (Bit a)) (code_of_content (Bit b)) ≡ bool_cmp a b
bits_compare false false = refl
bits_compare false true = refl
bits_compare true false = refl
bits_compare true true = refl

-- the codes of bytes are ordered like the bytes
bytes_compare : (a b : List ℕ) → slice_cmp nat_cmp (escaped a ++ (0 ∷ 1 ∷ [])) (escaped b ++ (0 ∷ 1 ∷ [])) ≡ slice_cmp nat_cmp a b
bytes_compare a b = escaped_compare a b [] [] ∙ then_equal (slice_cmp nat_cmp a b)

content_ordered : (c d : Content) → form_in c ≡ form_in d → HasBits c → HasBits d → slice_cmp nat_cmp (code_of_content c) (code_of_content d) ≡ content_cmp c d
content_ordered (Number m) (Number n) same f g = ints_compare m n f g
content_ordered (Bytes a) (Bytes b) same f g = bytes_compare a b
content_ordered (Bit a) (Bit b) same f g = bits_compare a b
content_ordered c d same f g = cc

-- two values of a kind have the same form
pub same_form : (v w : Value) → kind_of v ≡ kind_of w → form_in (content_of v) ≡ form_in (content_of w)
same_form v w same = form_held v ∙ ap form_of same ∙ sym (form_held w)

has_bits_in : (k : Kind) (c : Content) → LiesInRange k c → HasBits c
has_bits_in k (Number n) fits = fits
has_bits_in k (Bytes bytes) fits = tt
has_bits_in k (Bit bit) fits = tt

pub has_bits : (v : Value) → IsInRange v → HasBits (content_of v)
has_bits v fits = has_bits_in (kind_of v) (content_of v) fits

-- the codes of two values of a kind are ordered like the values
pub value_ordered : (v w : Value) → kind_of v ≡ kind_of w → IsInRange v → IsInRange w → slice_cmp nat_cmp (code_of_value v) (code_of_value w) ≡ value_cmp v w
value_ordered v w same f g = content_ordered (content_of v) (content_of w) (same_form v w same) (has_bits v f) (has_bits w g)

slice_cmp-append : (xs ys ps qs : List ℕ) → length xs ≡ length ys →
    slice_cmp nat_cmp (xs ++ ps) (ys ++ qs) ≡ ordering_then (slice_cmp nat_cmp xs ys) (slice_cmp nat_cmp ps qs)
slice_cmp-append [] [] ps qs e = refl
slice_cmp-append [] (y ∷ ys) ps qs e = absurd (omega arith)
slice_cmp-append (x ∷ xs) [] ps qs e = absurd (omega arith)
slice_cmp-append (x ∷ xs) (y ∷ ys) ps qs e =
    let same : length xs ≡ length ys = omega arith in
    ap (ordering_then (nat_cmp x y)) (slice_cmp-append xs ys ps qs same) ∙ then_assoc (nat_cmp x y) (slice_cmp nat_cmp xs ys) (slice_cmp nat_cmp ps qs)

-- the codes of two contents of a form decide the order; if they are equal, the bytes after them do
contents_compare : (c d : Content) → form_in c ≡ form_in d → (xs ys : List ℕ) →
    slice_cmp nat_cmp (code_of_content c ++ xs) (code_of_content d ++ ys) ≡ ordering_then (slice_cmp nat_cmp (code_of_content c) (code_of_content d)) (slice_cmp nat_cmp xs ys)
unfolding eight_bytes
contents_compare (Number m) (Number n) same xs ys = slice_cmp-append (eight_bytes (raised m)) (eight_bytes (raised n)) xs ys refl
contents_compare (Bytes a) (Bytes b) same xs ys =
    ap (λ cs. slice_cmp nat_cmp cs ((escaped b ++ 0 ∷ 1 ∷ []) ++ ys)) (append_assoc (escaped a) (0 ∷ 1 ∷ []) xs)
    ∙ ap (λ cs. slice_cmp nat_cmp (escaped a ++ 0 ∷ 1 ∷ xs) cs) (append_assoc (escaped b) (0 ∷ 1 ∷ []) ys)
    ∙ escaped_compare a b xs ys
    ∙ ap (λ o. ordering_then o (slice_cmp nat_cmp xs ys)) (sym (bytes_compare a b))
contents_compare (Bit a) (Bit b) same xs ys = slice_cmp-append (code_of_content (Bit a)) (code_of_content (Bit b)) xs ys refl
contents_compare c d same xs ys = cc

-- the codes of two values of a kind decide the order; if they are equal, the bytes after them do
pub codes_compare : (v w : Value) → kind_of v ≡ kind_of w → (xs ys : List ℕ) →
    slice_cmp nat_cmp (code_of_value v ++ xs) (code_of_value w ++ ys) ≡ ordering_then (slice_cmp nat_cmp (code_of_value v) (code_of_value w)) (slice_cmp nat_cmp xs ys)
codes_compare v w same xs ys = contents_compare (content_of v) (content_of w) (same_form v w same) xs ys

-- if two codes of a form, followed by more bytes, are the same as a whole, then the bytes after the codes are the same
after_contents : (c d : Content) → form_in c ≡ form_in d → (xs ys : List ℕ) → code_of_content c ++ xs ≡ code_of_content d ++ ys → xs ≡ ys
unfolding eight_bytes
after_contents (Number m) (Number n) same xs ys e = cc
after_contents (Bytes a) (Bytes b) same xs ys e =
    let both = escaped_unique a b xs ys (sym (append_assoc (escaped a) (0 ∷ 1 ∷ []) xs) ∙ e ∙ append_assoc (escaped b) (0 ∷ 1 ∷ []) ys) in
    both.1
after_contents (Bit a) (Bit b) same xs ys e = cc
after_contents c d same xs ys e = cc

pub after_codes : (v w : Value) → kind_of v ≡ kind_of w → (xs ys : List ℕ) → code_of_value v ++ xs ≡ code_of_value w ++ ys → xs ≡ ys
after_codes v w same xs ys e = after_contents (content_of v) (content_of w) (same_form v w same) xs ys e

-- ---- lists of values

-- no code is longer than another one of the same kinds that it begins with
pub no_prefix : (vs ws : List Value) → HaveSameKinds vs ws → (more : List ℕ) → code_of ws ≡ code_of vs ++ more → more ≡ []
no_prefix [] [] kinds more e = sym e
no_prefix [] (w ∷ ws) kinds more e = cc
no_prefix (v ∷ vs) [] kinds more e = cc
no_prefix (v ∷ vs) (w ∷ ws) kinds more e =
    let first : kind_of w ≡ kind_of v = cc in
    let others : HaveSameKinds vs ws = cc in
    no_prefix vs ws others more (after_codes w v first (code_of ws) (code_of vs ++ more) (e ∙ append_assoc (code_of_value v) (code_of vs) more))
