-- The text of a record, field by field. Serves writing a record.
use Rattle.std.proofs.Common.{ℕ, List, [], ◌∷◌, ◌++◌, ◌+◌, ◌*◌, ◌<◌, ◌≤◌, ◌≡◌, ◌∙◌, refl, sym, ap, ◌==◌, length, length-drop}
use Rattle.std.proofs.Common.{take, take_all, drop, get_or, map, arith, zero, suc, true, false, ◌≢◌, length-append, append_assoc}
use Rattle.std.proofs.lemmas.Bool.{eq-eqb, ne_eqb}
use Rattle.std.proofs.lemmas.List.{append-nil, get_or_default, length-map}
use Rattle.std.proofs.Math.ListN.{get_or-map}
use Rattle.csv.specs.Writing.{default_writer, field_text, fields_text, is_blank, next_sep, row_body}
use Rattle.csv.proofs.WriteFacts.{row-step}
use Rattle.bt_value.specs.Kinds.{Content, Number, Bytes, Bit, content_of, kind_of, tag_of}
use Rattle.bt_value.specs.Room.{room_in, room_of}
use Rattle.bt_value.specs.Values.{text_of}
use Rattle.bt_value.specs.declared.value.Value.{Value}
use Rattle.bt_row.specs.RecordTexts.{record_text}
use Rattle.bt_row.specs.inside.Packing.{packed_content, packed_value, packed_values}
use Rattle.bt_row.proofs.Packing.{length_int_bytes}

-- one more field
pub one_more : (values : List Value) (i : ℕ) (v : Value) → i < length values → v ≡ get_or values i v
    → row_body default_writer (take (i + 1) (map text_of values)) ≡ row_body default_writer (take i (map text_of values)) ++ (next_sep default_writer i ++ field_text default_writer (text_of v))
one_more values i v within at =
    let texts = map text_of values in
    let here : get_or texts i [] ≡ text_of v = get_or_default texts i [] (text_of v) (omega (arith, length-map values text_of)) ∙ get_or-map text_of values i v ∙ ap text_of (sym at) in
    row-step default_writer texts i (omega (arith, length-map values text_of))
    ∙ ap (λ (f : List ℕ). row_body default_writer (take i texts) ++ (next_sep default_writer i ++ field_text default_writer f)) here

-- the text of the first values was added, and these values are left
pub record Wrote (values rest : List Value) (place : ℕ) (old out : List ℕ) : Type 0 where
  pub count : ℕ
  pub left : rest ≡ drop count values
  pub text : out ≡ old ++ row_body default_writer (take count (map text_of values))
  pub separator : next_sep default_writer place ≡ next_sep default_writer count

-- before the first value
pub wrote_none : (values : List Value) (old : List ℕ) → Wrote values values 0 old old
wrote_none values old = record { count = 0; left = refl; text = sym (append-nil old); separator = refl }

-- the first value of those that are left
pub record First (values : List Value) (count : ℕ) (v : Value) (rest : List Value) : Type 0 where
  pub within : count < length values
  pub at : v ≡ get_or values count v
  pub left : rest ≡ drop (count + 1) values

pub first_left : (values : List Value) (count : ℕ) (v : Value) (rest : List Value) → v ∷ rest ≡ drop count values → First values count v rest
first_left [] zero v rest e = absurd cc
first_left [] (suc n) v rest e = absurd cc
first_left (w ∷ vs) zero v rest e = let same : v ≡ w = cc in let others : rest ≡ vs = cc in record { within = omega arith; at = same; left = others }
first_left (w ∷ vs) (suc n) v rest e =
    let first = first_left vs n v rest e in
    let more : suc n + 1 ≡ suc (n + 1) = omega arith in
    record { within = omega (arith, first.within); at = first.at; left = rw more first.left }

-- one more value was written
pub wrote_more : (values rest others : List Value) (place : ℕ) (old out new : List ℕ) (v : Value) → Wrote values rest place old out → rest ≡ v ∷ others
    → new ≡ out ++ (next_sep default_writer place ++ field_text default_writer (text_of v)) → Wrote values others 1 old new
wrote_more values rest others place old out new v so_far is added =
    let first = first_left values so_far.count v others (sym is ∙ so_far.left) in
    let wrote = row_body default_writer (take so_far.count (map text_of values)) in
    let field = field_text default_writer (text_of v) in
    record {
      count = so_far.count + 1;
      left = first.left;
      text =
          added ∙ ap (λ (s : List ℕ). out ++ (s ++ field)) so_far.separator
          ∙ ap (λ (t : List ℕ). t ++ (next_sep default_writer so_far.count ++ field)) so_far.text
          ∙ append_assoc old wrote (next_sep default_writer so_far.count ++ field)
          ∙ ap (λ (t : List ℕ). old ++ t) (sym (one_more values so_far.count v first.within first.at));
      separator = sep_after so_far.count;
    }
  where
    sep_after : (n : ℕ) → next_sep default_writer 1 ≡ next_sep default_writer (n + 1)
    sep_after n = let other : n + 1 ≢ 0 = omega arith in rw (ne_eqb (n + 1) 0 other) refl

-- all values were written
pub wrote_all : (values rest : List Value) (place : ℕ) (old out : List ℕ) → Wrote values rest place old out → rest ≡ [] → out ≡ old ++ row_body default_writer (map text_of values)
wrote_all values rest place old out so_far none =
    let past : length values ≤ so_far.count = omega (arith, ap length (sym so_far.left ∙ none), length-drop so_far.count values) in
    so_far.text ∙ ap (λ (ts : List (List ℕ)). old ++ row_body default_writer ts) (take_all so_far.count (map text_of values) (omega (arith, past, length-map values text_of)))

-- a record shows no byte exactly if its text is empty
pub blank_is_empty : (fields : List (List ℕ)) → is_blank default_writer fields ≡ (length (row_body default_writer fields) == 0)
unfolding is_blank fields_text
blank_is_empty [] = refl
blank_is_empty (field ∷ []) = rw (append-nil (field_text default_writer field)) refl
blank_is_empty (field ∷ next ∷ rest) =
    let shown : length (field_text default_writer field ++ (44 ∷ (field_text default_writer next ++ fields_text default_writer rest))) ≢ 0 = simp length-append (omega arith) in
    sym (ne_eqb _ 0 shown)

-- six bytes of a record for each byte of a row are enough for a value and the comma before it; a flag needs all of them
content_room : (tag : ℕ) (c : Content) → room_in c + 1 ≤ 6 * length (packed_content tag c)
content_room tag (Number n) = omega (arith, length_int_bytes n)
content_room tag (Bytes bytes) = omega arith
content_room tag (Bit bit) = omega arith

pub room_enough : (v : Value) → room_of v + 1 ≤ 6 * length (packed_value v)
room_enough v = content_room (tag_of (kind_of v)) (content_of v)

-- the bytes that the values take are those of the first and of the others
pub width : (values rest : List Value) (v : Value) → values ≡ v ∷ rest → length (packed_values values) ≡ length (packed_values (v ∷ rest))
width values rest v is = ap (λ (vs : List Value). length (packed_values vs)) is

-- nothing was printed
pub blank : (old out : List ℕ) (values : List Value) → out ≡ old ++ row_body default_writer (map text_of values) → length out ≡ length old
    → out ++ (34 ∷ 34 ∷ []) ≡ old ++ record_text (map text_of values)
blank old out values wrote same =
    let texts = map text_of values in
    let body = row_body default_writer texts in
    let none : (length body == 0) ≡ true = eq-eqb _ 0 (omega (arith, simp length-append at (ap length wrote))) in
    let is = blank_is_empty texts ∙ none in
    rw is (ap (λ (t : List ℕ). t ++ (34 ∷ 34 ∷ [])) wrote ∙ append_assoc old body (34 ∷ 34 ∷ []))

-- something was printed
pub something : (old out : List ℕ) (values : List Value) → out ≡ old ++ row_body default_writer (map text_of values) → length out ≢ length old
    → out ≡ old ++ record_text (map text_of values)
something old out values wrote other =
    let texts = map text_of values in
    let body = row_body default_writer texts in
    let none : (length body == 0) ≡ false = ne_eqb _ 0 (λ e. other (omega (arith, e, simp length-append at (ap length wrote)))) in
    let is = blank_is_empty texts ∙ none in
    rw (is, append-nil body) wrote
