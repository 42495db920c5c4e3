-- A code is that of only one list of values of given kinds. Used by `decode`.
use Rattle.std.proofs.Common.{◌≡◌, ℕ, List, [], ◌∷◌, ◌++◌, map, take, drop, length, ◌-◌, ◌<◌, ◌≤◌, append_assoc, append-nil, get_or}
use Rattle.std.proofs.Common.{◌+◌, refl, sym, ap, subst, ◌∙◌, Bool, true, false, Some, ℤ, SFits, w64, to_z, of_z, arith}
use Rattle.bt_value.specs.Kinds.{Content, Number, Bytes, Bit, content_of, form_in, form_of, value_with}
use Rattle.bt_value.specs.Texts.{most_value_bytes}
use Rattle.bt_value.specs.Values.{AreInRange, IsInRange, LiesInRange, takes_content}
use Rattle.bt_value.specs.declared.value.Form.TheVariants as form
use Rattle.bt_value.specs.declared.value.Kind.{Kind}
use Rattle.bt_value.specs.declared.value.Value.{Value}
use Rattle.bt_value.proofs.offered.Kinds.{content_with, form_held, bytes_fit, kind_with, with_content}
use Rattle.bt_keycode.specs.Codes.{IsCode, IsCodeOf, IsNoCode, code_of, code_of_content, code_of_value, eight_bytes, escaped, kind_of, raised}
use Rattle.bt_keycode.specs.Prefixes.{first_eight}
use Rattle.bt_keycode.proofs.CodeLengths.{is_short}
use Rattle.bt_keycode.proofs.Codes.{has_bits, same_form}
use Rattle.std.proofs.lemmas.Int.{to_z-of_z}
use Rattle.std.proofs.Math.Seq.{take-length}
use Rattle.std.proofs.lemmas.List.{map-append, take-append-drop, take_more}
use Rattle.bt_keycode.specs.inside.Readings.{unescaped}
use Rattle.bt_keycode.specs.inside.CodeBeginnings.{BeginsWith, BeginsWithAll, BeginsWithContent, BeginsWithNo, BeginsWithNoContent, BeginsWithNone, HasBits}
use Rattle.bt_keycode.proofs.DecodingInts.{eight_and_others, eight_long, same_int}
use Rattle.bt_keycode.proofs.DecodingBytes.{both_read, read_again, spelled, split_end}

same_bytes : (s t q r : List ℕ) → (escaped s ++ (0 ∷ 1 ∷ [])) ++ q ≡ (escaped t ++ (0 ∷ 1 ∷ [])) ++ r → (s ≡ t) × (q ≡ r)
same_bytes s t q r e = both_read s q t r (sym (read_again s q) ∙ ap unescaped (sym (split_end s q) ∙ e ∙ split_end t r) ∙ read_again t r)

same_bit : (a b : Bool) (q r : List ℕ) → code_of_content (Bit a) ++ q ≡ code_of_content (Bit b) ++ r → (a ≡ b) × (q ≡ r)
same_bit true true q r e = (refl, (cc))
same_bit true false q r e = cc
same_bit false true q r e = cc
same_bit false false q r e = (refl, (cc))

-- the contents of two values of one form are the same, and so are the bytes after their codes
same_content : (c d : Content) (q r : List ℕ) → form_in c ≡ form_in d → HasBits c → HasBits d → code_of_content c ++ q ≡ code_of_content d ++ r → (c ≡ d) × (q ≡ r)
same_content (Number a) (Number b) q r k f g e = let both = same_int a b q r f g e in (ap Number both.0, both.1)
same_content (Bytes s) (Bytes t) q r k f g e = let both = same_bytes s t q r e in (ap Bytes both.0, both.1)
same_content (Bit a) (Bit b) q r k f g e = let both = same_bit a b q r e in (ap Bit both.0, both.1)
same_content (Number a) (Bytes t) q r k f g e = cc
same_content (Number a) (Bit b) q r k f g e = cc
same_content (Bytes s) (Number b) q r k f g e = cc
same_content (Bytes s) (Bit b) q r k f g e = cc
same_content (Bit a) (Number b) q r k f g e = cc
same_content (Bit a) (Bytes t) q r k f g e = cc

-- two values of one kind are the same, and so are the bytes after their codes
same_value : (v w : Value) (q r : List ℕ) → kind_of v ≡ kind_of w → IsInRange v → IsInRange w → code_of_value v ++ q ≡ code_of_value w ++ r → (v ≡ w) × (q ≡ r)
same_value v w q r k f g e =
    let both = same_content (content_of v) (content_of w) q r (same_form v w k) (has_bits v f) (has_bits w g) e in
    (sym (with_content v) ∙ ap (λ j. value_with j (content_of v)) k ∙ ap (value_with (kind_of w)) both.0 ∙ with_content w, both.1)

first_of_both : {A : Type 0} {x y : A} {xs ys : List A} → x ∷ xs ≡ y ∷ ys → (x ≡ y) × (xs ≡ ys)
first_of_both e = ((cc), (cc))

-- if bytes begin with the codes of values and of one more, the code of a value of its kind follows the first ones
next_value : (values others : List Value) (kind : Kind) (kinds : List Kind) (rest more : List ℕ) →
    AreInRange values → AreInRange others → map kind_of others ≡ map kind_of values ++ (kind ∷ kinds) →
    code_of values ++ rest ≡ code_of others ++ more → (v : Value) × (r : List ℕ) × BeginsWith kind rest v r
next_value [] [] kind kinds rest more f g k e = cc
next_value [] (w ∷ others) kind kinds rest more f g k e = (
  w,
  code_of others ++ more,
  record {
    of_kind = (first_of_both k).0;
    in_range = g.0;
    code = sym (append_assoc (code_of_value w) (code_of others) more) ∙ sym e;
  },
)
next_value (v ∷ values) [] kind kinds rest more f g k e = cc
next_value (v ∷ values) (w ∷ others) kind kinds rest more f g k e =
    let both = first_of_both k in
    let same = same_value v w (code_of values ++ rest) (code_of others ++ more) (sym both.0) f.0 g.0
    (sym (append_assoc (code_of_value v) (code_of values) rest) ∙ e ∙ append_assoc (code_of_value w) (code_of others) more) in
    next_value values others kind kinds rest more f.1 g.1 both.1 same.1

-- two lists of values of the same kinds are the same, and so are the bytes after their codes
pub same_values : (values others : List Value) (rest more : List ℕ) → AreInRange values → AreInRange others → map kind_of values ≡ map kind_of others →
    code_of values ++ rest ≡ code_of others ++ more → (values ≡ others) × (rest ≡ more)
same_values [] [] rest more f g k e = (refl, e)
same_values [] (w ∷ others) rest more f g k e = cc
same_values (v ∷ values) [] rest more f g k e = cc
same_values (v ∷ values) (w ∷ others) rest more f g k e =
    let both = first_of_both k in
    let same = same_value v w (code_of values ++ rest) (code_of others ++ more) both.0 f.0 g.0
    (sym (append_assoc (code_of_value v) (code_of values) rest) ∙ e ∙ append_assoc (code_of_value w) (code_of others) more) in
    let tail = same_values values others rest more f.1 g.1 both.1 same.1 in
    (cc, tail.1)

-- ---- numbers

-- fewer than eight bytes do not begin with a number
pub no_number : (bytes : List ℕ) (other : Content) (rest : List ℕ) → length bytes < 8 → BeginsWithContent form.Number bytes other rest → ⊥
no_number bytes (Number n) rest short b =
    let long = eight_long (raised n) rest in
    let same : length (eight_bytes (raised n) ++ rest) ≡ length bytes = ap length b.code in
    omega arith
no_number bytes (Bytes bs) rest short b = let k = b.of_form in cc
no_number bytes (Bit bit) rest short b = let k = b.of_form in cc

-- eight or more bytes begin with the number that the first eight encode
number_begins : (z : ℤ) (number : ℕ) (bytes : List ℕ) → SFits w64 z → raised z ≡ number → eight_bytes number ≡ first_eight bytes → 8 ≤ length bytes →
    BeginsWithContent form.Number bytes (Number z) (take (length bytes - 8) (drop 8 bytes))
number_begins z number bytes fits up same long = record {
  of_form = refl;
  bits = fits;
  code = ap (λ n. eight_bytes n ++ take (length bytes - 8) (drop 8 bytes)) up ∙ eight_and_others number bytes same long;
}

pub number_found : (z : ℤ) (number : ℕ) (bytes : List ℕ) → SFits w64 z → raised z ≡ number → eight_bytes number ≡ first_eight bytes → 8 ≤ length bytes →
    BeginsWithContent form.Number bytes (Number (to_z w64 (of_z w64 z))) (take (length bytes - 8) (drop 8 bytes))
number_found z number bytes fits up same long = rw (to_z-of_z w64 z fits) (number_begins z number bytes fits up same long)

-- ---- bytes

pub bytes_found : (bytes found rest : List ℕ) → unescaped bytes ≡ Some (found, rest) → BeginsWithContent form.Bytes bytes (Bytes found) rest
bytes_found bytes found rest read = record { of_form = refl; bits = tt; code = split_end found rest ∙ spelled bytes found rest read }

-- if only more bytes than a value may have are read, there are none of a value
pub no_bytes : (bytes : List ℕ) → ((found rest : List ℕ) → unescaped bytes ≡ Some (found, rest) → most_value_bytes < length found) → BeginsWithNoContent form.Bytes bytes
no_bytes bytes long (Bytes found) rest b short =
    let read : unescaped bytes ≡ Some (found, rest) = ap unescaped (sym b.code ∙ split_end found rest) ∙ read_again found rest in
    let past : most_value_bytes < length found = long found rest read in
    omega (arith, past, short)
no_bytes bytes long (Number n) rest b short = let k = b.of_form in cc
no_bytes bytes long (Bit bit) rest b short = let k = b.of_form in cc

-- ---- values of a kind

in_range_with : (k : Kind) (c : Content) → form_in c ≡ form_of k → LiesInRange k c → IsInRange (value_with k c)
in_range_with k c same fits = subst (λ j. LiesInRange j (content_of (value_with k c))) (sym (kind_with k c)) (subst (LiesInRange k) (sym (content_with k c same)) fits)

lies_in_range : (k : Kind) (c : Content) → HasBits c → takes_content k c ≡ true → LiesInRange k c
lies_in_range k (Number n) bits taken = bits
lies_in_range k (Bytes bytes) bits taken = taken
lies_in_range k (Bit bit) bits taken = tt

-- a content that a kind takes is that of a value of the kind
pub value_found : (k : Kind) (bytes : List ℕ) (c : Content) (rest : List ℕ) → BeginsWithContent (form_of k) bytes c rest → takes_content k c ≡ true → BeginsWith k bytes (value_with k c) rest
value_found k bytes c rest b taken = record {
  of_kind = kind_with k c;
  in_range = in_range_with k c b.of_form (lies_in_range k c b.bits taken);
  code = ap (λ d. code_of_content d ++ rest) (content_with k c b.of_form) ∙ b.code;
}

-- the content of a value of a kind
held_in : (k : Kind) (bytes : List ℕ) (v : Value) (rest : List ℕ) → BeginsWith k bytes v rest → BeginsWithContent (form_of k) bytes (content_of v) rest
held_in k bytes v rest b = record { of_form = form_held v ∙ ap form_of b.of_kind; bits = has_bits v b.in_range; code = b.code }

taken_in : (k : Kind) (c : Content) → LiesInRange k c → takes_content k c ≡ true
taken_in k (Number n) fits = refl
taken_in k (Bytes bytes) fits = fits
taken_in k (Bit bit) fits = refl

-- if there is no content of its form, there is no value of a kind
pub no_value : (k : Kind) (bytes : List ℕ) → BeginsWithNoContent (form_of k) bytes → BeginsWithNo k bytes
no_value k bytes none v rest b = none (content_of v) rest (held_in k bytes v rest b) (is_short v (bytes_fit v b.in_range))

-- if the kind does not take the content, there is none either
pub not_taken : (k : Kind) (bytes : List ℕ) (c : Content) (rest : List ℕ) → BeginsWithContent (form_of k) bytes c rest → takes_content k c ≡ false → BeginsWithNo k bytes
not_taken k bytes c rest found other v more b =
    let held = held_in k bytes v more b in
    let both = same_content c (content_of v) rest more (found.of_form ∙ sym held.of_form) found.bits held.bits (found.code ∙ sym held.code) in
    let taken : takes_content k (content_of v) ≡ true = taken_in k (content_of v) (subst (λ j. LiesInRange j (content_of v)) b.of_kind b.in_range) in
    let same : takes_content k c ≡ takes_content k (content_of v) = ap (takes_content k) both.0 in
    cc

-- ---- lists

range-append : (values : List Value) (value : Value) → AreInRange values → IsInRange value → AreInRange (values ++ value ∷ [])
range-append [] value f g = (g, tt)
range-append (v ∷ values) value f g = (f.0, range-append values value f.1 g)

code-append : (values : List Value) (value : Value) → code_of (values ++ value ∷ []) ≡ code_of values ++ code_of_value value
code-append [] value = append-nil (code_of_value value)
code-append (v ∷ values) value = ap (λ s. code_of_value v ++ s) (code-append values value) ∙ sym (append_assoc (code_of_value v) (code_of values) (code_of_value value))

-- one more value after the others
one_more : (kinds : List Kind) (kind : Kind) (bytes : List ℕ) (values : List Value) (value : Value) (code rest : List ℕ) →
    BeginsWithAll kinds bytes values code → BeginsWith kind code value rest → BeginsWithAll (kinds ++ kind ∷ []) bytes (values ++ value ∷ []) rest
one_more kinds kind bytes values value code rest a b = record {
  of_kinds = map-append kind_of values (value ∷ []) ∙ ap (λ ks. ks ++ kind_of value ∷ []) a.of_kinds ∙ ap (λ k. kinds ++ k ∷ []) b.of_kind;
  in_range = range-append values value a.in_range b.in_range;
  code = ap (λ s. s ++ rest) (code-append values value) ∙ append_assoc (code_of values) (code_of_value value) rest ∙ ap (λ s. code_of values ++ s) b.code ∙ a.code;
}

split_at : {A : Type 0} (xs : List A) (i : ℕ) (d : A) → i < length xs → xs ≡ take i xs ++ (get_or xs i d ∷ drop (i + 1) xs)
split_at xs i d below = sym (take-append-drop (i + 1) xs) ∙ ap (λ prefix. prefix ++ drop (i + 1) xs) (take_more xs i d below) ∙ append_assoc (take i xs) (get_or xs i d ∷ []) (drop (i + 1) xs)

pub goes_on : (kinds : List Kind) (i : ℕ) (d : Kind) (bytes : List ℕ) (values new : List Value) (value : Value) (code rest : List ℕ) → i < length kinds →
    new ≡ values ++ value ∷ [] → BeginsWithAll (take i kinds) bytes values code → BeginsWith (get_or kinds i d) code value rest →
    BeginsWithAll (take (i + 1) kinds) bytes new rest
goes_on kinds i d bytes values new value code rest below pushed a b =
    subst (λ ks. BeginsWithAll ks bytes new rest) (sym (take_more kinds i d below))
    (subst (λ vs. BeginsWithAll (take i kinds ++ get_or kinds i d ∷ []) bytes vs rest) (sym pushed)
    (one_more (take i kinds) (get_or kinds i d) bytes values value code rest a b))

-- if there is no next value, there is no list of values
pub none_begins : (kinds : List Kind) (i : ℕ) (d : Kind) (bytes : List ℕ) (values : List Value) (code : List ℕ) → i < length kinds →
    BeginsWithAll (take i kinds) bytes values code → BeginsWithNo (get_or kinds i d) code → BeginsWithNone kinds bytes
none_begins kinds i d bytes values code below a none others rest b =
    let next = next_value values others (get_or kinds i d) (drop (i + 1) kinds) code rest a.in_range b.in_range
    (b.of_kinds ∙ split_at kinds i d below ∙ ap (λ ks. ks ++ (get_or kinds i d ∷ drop (i + 1) kinds)) (sym a.of_kinds)) (a.code ∙ sym b.code) in
    none next.0 next.1 next.2

-- if the first kinds are all kinds, the bytes begin with values of all kinds
pub of_all : (kinds : List Kind) (i : ℕ) (bytes : List ℕ) (values : List Value) (code : List ℕ) → i ≡ length kinds
    → BeginsWithAll (take i kinds) bytes values code → BeginsWithAll kinds bytes values code
of_all kinds i bytes values code past a = subst (λ ks. BeginsWithAll ks bytes values code) (ap (λ n. take n kinds) past ∙ take-length kinds) a

-- ---- whole codes

-- a code is at the start of bytes, with nothing after it
whole : (kinds : List Kind) (bytes : List ℕ) (values : List Value) → IsCodeOf kinds bytes values → BeginsWithAll kinds bytes values []
whole kinds bytes values h = record { of_kinds = h.of_kinds; in_range = h.in_range; code = append-nil (code_of values) ∙ h.code }

pub no_values : (kinds : List Kind) (bytes : List ℕ) → BeginsWithNone kinds bytes → IsNoCode kinds bytes
no_values kinds bytes none values h = none values [] (whole kinds bytes values h)

-- the bytes can only be the code of the values that they begin with, and only if nothing is left
pub one_list : (kinds : List Kind) (bytes : List ℕ) (values : List Value) (rest : List ℕ) → BeginsWithAll kinds bytes values rest →
    (other : List Value) → IsCodeOf kinds bytes other → (other ≡ values) × (rest ≡ [])
one_list kinds bytes values rest a other h =
    let b = whole kinds bytes other h in
    let same = same_values values other rest [] a.in_range b.in_range (a.of_kinds ∙ sym b.of_kinds) (a.code ∙ sym b.code) in
    (sym same.0, same.1)

-- bytes are the code of one list of values
pub one_code : (kinds : List Kind) (bytes : List ℕ) (values : List Value) → IsCodeOf kinds bytes values → (other : List Value) → IsCodeOf kinds bytes other → other ≡ values
one_code kinds bytes values h other g = (one_list kinds bytes values [] (whole kinds bytes values h) other g).0

-- if bytes are left after the values, the bytes are not a code
pub goes_past : (kinds : List Kind) (bytes : List ℕ) (values : List Value) (rest : List ℕ) → BeginsWithAll kinds bytes values rest → (rest ≡ [] → ⊥) → IsNoCode kinds bytes
goes_past kinds bytes values rest a more other h = more (one_list kinds bytes values rest a other h).1

-- if nothing is left after the values, the bytes are a code
pub nothing_past : (kinds : List Kind) (bytes : List ℕ) (values : List Value) (rest : List ℕ) → BeginsWithAll kinds bytes values rest → rest ≡ [] → IsCode kinds bytes
nothing_past kinds bytes values rest a none = (
  values,
  record {
    of_kinds = a.of_kinds;
    in_range = a.in_range;
    code = sym (append-nil (code_of values)) ∙ ap (λ zs. code_of values ++ zs) (sym none) ∙ a.code;
  },
)

pub nothing : {A : Type 0} (xs : List A) → length xs ≡ 0 → xs ≡ []
nothing [] e = refl
nothing (x ∷ xs) e = absurd (omega (arith, e))
