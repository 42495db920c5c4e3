-- The end of the first record of a text. Serves finding the next one.
use Rattle.std.proofs.Common.{ℕ, zero, suc, Bool, List, [], ◌∷◌, ◌++◌, ◌≡◌, ◌≢◌, ◌==◌, ◌<◌, ◌≤◌, ◌+◌, ◌∙◌, ◌⊎◌, refl, ap, sym, arith, true}
use Rattle.std.proofs.Common.{false, not, inl, inr, append_assoc, drop, get_or, get_or-take, length, length-take, take, Option, Some}
use Rattle.std.proofs.lemmas.Bool.{cases_Bool, eqb-true, false≢true, ne_eqb}
use Rattle.std.proofs.lemmas.List.{append-nil, drop_all, take-append-drop, take_all, take_more}
use Rattle.std.proofs.lemmas.Grind.{get_or_default_zero}
use Rattle.std.proofs.lemmas.List.Folds.{list_any_none}
use Rattle.std.specs.List.{list_any}
use Rattle.std.specs.Prelude.{is_some, option_map, unwrap_or}
use Rattle.csv.specs.Machine.{Read, field_after, fields_after, is_end, next_record, step}
use Rattle.csv.specs.Reading.{default_config, records}
use Rattle.csv.specs.declared.parser.Action.{Action}
use Rattle.csv.specs.declared.parser.Action.TheVariants as act
use Rattle.csv.specs.declared.parser.State.{State}
use Rattle.csv.specs.declared.parser.State.TheVariants as st
use Rattle.csv.proofs.RoundTrip.{record-same}
use Rattle.memchr.specs.Find.{Nowhere, Passes}
use Rattle.bt_record.specs.Records.{csv_record, fields_in}
use Rattle.bt_record.specs.inside.RecordParts.{EndsAt, begins_record, is_line_end}
use Rattle.bt_value.specs.PlainFields.{is_special}
use Rattle.bt_record.proofs.Found.{ends_inside, is_inside, or-left, or-right, step_inside}
use Rattle.bt_record.proofs.ReaderSteps.{at_byte, ends, goes_on}
use Rattle.bt_record.proofs.RecordsOf.{first_record, line_end_more}

-- ---- bytes in a record

-- no record ends in these bytes: what follows them is read from this state
abbrev pub Goes : List ℕ → State → List (List ℕ) → List ℕ → Type 0
Goes bytes s fields field = (rest : List ℕ) → next_record default_config st.StartField [] [] (bytes ++ rest) ≡ next_record default_config s fields field rest

-- no record ends before this place of a text, and at this place the reader is inside a record
abbrev pub Inside : List ℕ → ℕ → State → Type 0
Inside text place s = (is_inside s ≡ true) × (fields : List (List ℕ)) × (field : List ℕ) × Goes (take place text) s fields field

pub inside_start : (text : List ℕ) → Inside text 0 st.StartField
inside_start text = (refl, [], [], λ rest. refl)

-- one more byte, with the action x of csv's reader, which leaves it in the state t
pub inside_more : (text : List ℕ) (place : ℕ) (s t : State) (x : Action) → place < length text → x ≡ (step default_config s (get_or text place 0)).1
    → (is_end x ≡ false → t ≡ (step default_config s (get_or text place 0)).0) → is_end x ≡ false → Inside text place s → Inside text (place + 1) t
inside_more text place s t x within action state more so_far =
    let b = get_or text place 0 in
    let fields = so_far.1 in
    let field = so_far.2 in
    let there : is_end (step default_config s b).1 ≡ false = ap is_end (sym action) ∙ more in (
      rw (state more) (step_inside s b so_far.0 there),
      fields_after x fields field,
      field_after x b field,
      λ rest.
          ap (λ (l : List ℕ). next_record default_config st.StartField [] [] (l ++ rest)) (take_more text place 0 within)
          ∙ ap (next_record default_config st.StartField [] []) (append_assoc (take place text) (b ∷ []) rest)
          ∙ so_far.3 (b ∷ rest)
          ∙ goes_on s t x fields field b rest action (state more) more,
    )

-- ---- the byte that ends a record

-- a byte that is not a line end does not end a record
ends_none : (s : State) (b : ℕ) → is_inside s ≡ true → is_line_end b ≡ false → is_end (step default_config s b).1 ≡ false
ends_none st.StartRecord b inside other = absurd cc
ends_none st.AfterCr b inside other = absurd cc
ends_none st.InEscape b inside other = absurd cc
ends_none st.InComment b inside other = absurd cc
ends_none st.InField b inside other = elim (cases_Bool (b == 44)) [ inl comma ↦ rw comma refl | inr plain ↦ rw (plain, other) refl ]
ends_none st.StartField b inside other = elim (cases_Bool (b == 34)) [
  | inl quote ↦ rw quote refl
  | inr plain ↦ elim (cases_Bool (b == 44)) [ inl comma ↦ rw (plain, comma) refl | inr no_comma ↦ rw (plain, no_comma, other) refl ]
]
ends_none st.InQuoted b inside other = elim (cases_Bool (b == 34)) [ inl quote ↦ rw quote refl | inr plain ↦ rw plain refl ]
ends_none st.AfterQuote b inside other = elim (cases_Bool (b == 34)) [
  | inl quote ↦ rw quote refl
  | inr plain ↦ elim (cases_Bool (b == 44)) [ inl comma ↦ rw (plain, comma) refl | inr no_comma ↦ rw (plain, no_comma, other) refl ]
]

not-true : (b : Bool) → not b ≡ true → b ≡ false
not-true true is = absurd cc
not-true false is = refl

-- a text that begins with a record is read as from the start of a field
from_field : (text : List ℕ) → begins_record text ≡ true → next_record default_config st.StartRecord [] [] text ≡ next_record default_config st.StartField [] [] text
from_field [] begins = absurd cc
from_field (b ∷ bs) begins = elim (cases_Bool (b == 13)) [
  | inl return ↦ absurd (false≢true (rw return at begins))
  | inr other ↦ elim (cases_Bool (b == 10)) [
    | inl feed ↦ absurd (false≢true (rw (other, feed) at begins))
    | inr plain ↦ record-same [] [] b bs other plain
  ]
]

-- a record that was read is the first
first_of : (text : List ℕ) (r : Read) → begins_record text ≡ true → next_record default_config st.StartRecord [] [] text ≡ Some r → records default_config text ≡ r.0 ∷ records default_config r.2
first_of [] r begins read = absurd cc
first_of (b ∷ bs) r begins read = first_record b bs r read

-- the bytes before the place where a record ends begin with this record, as the text does
begins_before : (text : List ℕ) (place : ℕ) (s : State) → begins_record text ≡ true → is_inside s ≡ true
    → is_end (step default_config s (get_or text place 0)).1 ≡ true → begins_record (take place text) ≡ true
begins_before [] place s begins inside is = absurd cc
begins_before (b ∷ bs) zero s begins inside is = absurd (false≢true (sym (ends_none s b inside (not-true (is_line_end b) begins)) ∙ is))
begins_before (b ∷ bs) (suc place) s begins inside is = begins

-- the fields of the bytes before a place
fields_before : (text : List ℕ) (place : ℕ) (s : State) (so_far : Inside text place s) → begins_record (take place text) ≡ true → csv_record (take place text) ≡ Some (so_far.1 ++ so_far.2 ∷ [])
unfolding next_record
fields_before text place s so_far begins =
    let bytes = take place text in
    let end : next_record default_config s so_far.1 so_far.2 [] ≡ Some (so_far.1 ++ so_far.2 ∷ [], st.StartRecord, []) = rw (ends_inside s so_far.0) refl in
    let read = from_field bytes begins ∙ ap (next_record default_config st.StartField [] []) (sym (append-nil bytes)) ∙ so_far.3 [] ∙ end in
    ap (option_map (λ p. p.0)) read

-- the same fields, and the text from the place on
ends_with : (text : List ℕ) (place : ℕ) (fields : List (List ℕ)) (t : State) (rest : List ℕ) → begins_record text ≡ true → csv_record (take place text) ≡ Some fields
    → next_record default_config st.StartRecord [] [] text ≡ Some (fields, t, rest) → records default_config rest ≡ records default_config (drop place text)
    → begins_record (drop place text) ≡ false → EndsAt text place
ends_with text place fields t rest begins alone read others line_end =
    let same : fields_in (take place text) ≡ fields = ap (λ (o : Option (List (List ℕ))). unwrap_or o []) alone in
    (ap is_some alone, rw same (first_of text (fields, t, rest) begins read ∙ ap (λ (l : List (List (List ℕ))). fields ∷ l) others), line_end)

-- a byte that ends a record is a line end
end_is : (s : State) (b : ℕ) → is_inside s ≡ true → is_end (step default_config s b).1 ≡ true → is_line_end b ≡ true
end_is s b inside ends = elim (cases_Bool (is_line_end b)) [ inl is ↦ is | inr other ↦ absurd (false≢true (sym (ends_none s b inside other) ∙ ends)) ]

-- a text, by the bytes before a place
from_place : (text : List ℕ) (place : ℕ) (s : State) (so_far : Inside text place s)
    → next_record default_config st.StartField [] [] text ≡ next_record default_config s so_far.1 so_far.2 (drop place text)
from_place text place s so_far = ap (next_record default_config st.StartField [] []) (sym (take-append-drop place text)) ∙ so_far.3 (drop place text)

-- the record ends at this byte
pub ends_here : (text : List ℕ) (place : ℕ) (s : State) (x : Action) → begins_record text ≡ true → place < length text → x ≡ (step default_config s (get_or text place 0)).1 → x ≡ act.EndRecord
    → Inside text place s → EndsAt text place
ends_here text place s x begins within action is so_far =
    let b = get_or text place 0 in
    let fields = so_far.1 ++ so_far.2 ∷ [] in
    let ended = ap is_end (sym action ∙ is) in
    let line_end = end_is s b so_far.0 ended in
    let rest = drop (place + 1) text in
    let here = at_byte text place within in
    let before = begins_before text place s begins so_far.0 ended in
    let last = ends s so_far.1 so_far.2 b rest (sym is ∙ action) in
    let read = from_field text begins ∙ from_place text place s so_far ∙ ap (next_record default_config s so_far.1 so_far.2) here ∙ last in
    ends_with text place fields (step default_config s b).0 rest begins (fields_before text place s so_far before) read
    (sym (ap (records default_config) here ∙ line_end_more b rest line_end)) (ap begins_record here ∙ ap not line_end)

-- the record ends with the text
pub ends_last : (text : List ℕ) (place : ℕ) (s : State) → begins_record text ≡ true → place ≡ length text → Inside text place s → EndsAt text (length text)
unfolding next_record
ends_last text place s begins is so_far =
    let fields = so_far.1 ++ so_far.2 ∷ [] in
    let none : drop place text ≡ [] = drop_all place text (omega (arith, is)) in
    let no_rest : drop (length text) text ≡ [] = drop_all (length text) text (omega arith) in
    let end : next_record default_config s so_far.1 so_far.2 [] ≡ Some (fields, st.StartRecord, []) = rw (ends_inside s so_far.0) refl in
    let read : next_record default_config st.StartRecord [] [] text ≡ Some (fields, st.StartRecord, []) =
    from_field text begins ∙ from_place text place s so_far ∙ ap (next_record default_config s so_far.1 so_far.2) none ∙ end in
    let whole : csv_record text ≡ Some fields = ap (option_map (λ p. p.0)) read in
    let alone : csv_record (take (length text) text) ≡ Some fields = ap csv_record (take_all (length text) text (omega arith)) ∙ whole in
    ends_with text (length text) fields st.StartRecord [] begins alone read (ap (records default_config) (sym no_rest)) (ap begins_record no_rest)

-- ---- a record without quotes

-- the states outside quotes
abbrev is_outside : State → Bool
is_outside st.StartField = true
is_outside st.InField = true
is_outside other = false

outside_inside : (s : State) → is_outside s ≡ true → is_inside s ≡ true
outside_inside st.StartField is = refl
outside_inside st.InField is = refl
outside_inside st.StartRecord is = absurd cc
outside_inside st.InQuoted is = absurd cc
outside_inside st.AfterQuote is = absurd cc
outside_inside st.InEscape is = absurd cc
outside_inside st.InComment is = absurd cc
outside_inside st.AfterCr is = absurd cc

-- a byte that is neither a quote nor a line end leaves the reader outside quotes
step_outside : (s : State) (b : ℕ) → is_outside s ≡ true → (b == 34) ≡ false → is_line_end b ≡ false → is_outside (step default_config s b).0 ≡ true
step_outside st.StartField b is quote plain = elim (cases_Bool (b == 44)) [ inl comma ↦ rw (quote, comma) refl | inr other ↦ rw (quote, other, plain) refl ]
step_outside st.InField b is quote plain = elim (cases_Bool (b == 44)) [ inl comma ↦ rw comma refl | inr other ↦ rw (other, plain) refl ]
step_outside st.StartRecord b is quote plain = absurd cc
step_outside st.InQuoted b is quote plain = absurd cc
step_outside st.AfterQuote b is quote plain = absurd cc
step_outside st.InEscape b is quote plain = absurd cc
step_outside st.InComment b is quote plain = absurd cc
step_outside st.AfterCr b is quote plain = absurd cc

-- outside quotes a line end ends the record
ends_outside : (s : State) (b : ℕ) → is_outside s ≡ true → (b ≡ 13) ⊎ (b ≡ 10) → act.EndRecord ≡ (step default_config s b).1
ends_outside st.StartField b is line_end = elim line_end [ inl return ↦ rw return refl | inr feed ↦ rw feed refl ]
ends_outside st.InField b is line_end = elim line_end [ inl return ↦ rw return refl | inr feed ↦ rw feed refl ]
ends_outside st.StartRecord b is line_end = absurd cc
ends_outside st.InQuoted b is line_end = absurd cc
ends_outside st.AfterQuote b is line_end = absurd cc
ends_outside st.InEscape b is line_end = absurd cc
ends_outside st.InComment b is line_end = absurd cc
ends_outside st.AfterCr b is line_end = absurd cc

-- bytes without quotes and line ends leave the reader outside quotes
abbrev Runs : State → List (List ℕ) → List ℕ → List ℕ → Type 0
Runs s fields field bytes = (t : State) × (is_outside t ≡ true) × (more_fields : List (List ℕ)) × (more : List ℕ)
    × ((rest : List ℕ) → next_record default_config s fields field (bytes ++ rest) ≡ next_record default_config t more_fields more rest)

runs : (bytes : List ℕ) (s : State) (fields : List (List ℕ)) (field : List ℕ) → is_outside s ≡ true → list_any is_special bytes ≡ false → Runs s fields field bytes
runs [] s fields field is plain = (s, is, fields, field, λ rest. refl)
runs (b ∷ bs) s fields field is plain =
    let quote : (b == 34) ≡ false = or-left _ _ (or-left _ _ (or-left _ _ plain)) in
    let return : (b == 13) ≡ false = or-right _ _ (or-left _ _ (or-left _ _ plain)) in
    let feed : (b == 10) ≡ false = or-right _ _ (or-left _ _ plain) in
    let line_end : is_line_end b ≡ false = rw (return, feed) refl in
    let a = (step default_config s b).1 in
    let t = (step default_config s b).0 in
    let later = runs bs t (fields_after a fields field) (field_after a b field) (step_outside s b is quote line_end) (or-right _ _ plain) in
    (later.0, later.1, later.2, later.3, λ rest. goes_on s t a fields field b (bs ++ rest) refl refl (ends_none s b (outside_inside s is) line_end) ∙ later.4 rest)

-- no byte before this place of a text is a quote or a line end
abbrev pub IsPlainTo : List ℕ → ℕ → Type 0
IsPlainTo text place = list_any is_special (take place text) ≡ false

plain_inside : (text : List ℕ) (place : ℕ) (r : Runs st.StartField [] [] (take place text)) → Inside text place r.0
plain_inside text place r = (outside_inside r.0 r.1, r.2, r.3, r.4)

-- without a quote the record ends at the first line end
pub plain_ends : (text : List ℕ) (place : ℕ) → begins_record text ≡ true → place < length text → IsPlainTo text place → (get_or text place 0 ≡ 13) ⊎ (get_or text place 0 ≡ 10) → EndsAt text place
plain_ends text place begins within plain line_end =
    let r = runs (take place text) st.StartField [] [] refl plain in
    ends_here text place r.0 act.EndRecord begins within (ends_outside r.0 (get_or text place 0) r.1 line_end) refl (plain_inside text place r)

-- or at the end of the text
pub plain_last : (text : List ℕ) → begins_record text ≡ true → IsPlainTo text (length text) → EndsAt text (length text)
plain_last text begins plain =
    let r = runs (take (length text) text) st.StartField [] [] refl plain in
    ends_last text (length text) r.0 begins refl (plain_inside text (length text) r)

-- ---- the first quote or line end

pub plain_before : (text : List ℕ) (place : ℕ) → place ≤ length text → Nowhere (Passes is_special text) 0 place → IsPlainTo text place
plain_before text place within nowhere = list_any_none is_special (take place text) (λ i d inside.
    let here : i < place = omega (arith, inside, length-take place text, within) in
    elim (cases_Bool (is_special (get_or (take place text) i d))) [
      | inl is ↦ absurd (nowhere i (omega arith) here (rw (get_or-take place text i d here, get_or_default_zero text i d (omega (arith, here, within))) at is))
      | inr other ↦ other
    ])

-- a special byte other than a quote is a line end
pub is_end_byte : (b : ℕ) → is_special b ≡ true → b ≢ 34 → (b ≡ 13) ⊎ (b ≡ 10)
is_end_byte b is other = elim (cases_Bool (b == 13)) [
  | inl return ↦ inl (eqb-true b 13 return)
  | inr no_return ↦ elim (cases_Bool (b == 10)) [
    | inl feed ↦ inr (eqb-true b 10 feed)
    | inr no_feed ↦ absurd (false≢true (rw (ne_eqb b 34 other, no_return, no_feed) at is))
  ]
]
