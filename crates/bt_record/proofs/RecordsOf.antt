-- The records of a text: the first record, then those of the text after it. Serves iterating over them.
use Rattle.std.proofs.Common.{ℕ, zero, suc, Bool, List, [], ◌∷◌, ◌≡◌, ◌==◌, ◌<◌, ◌≤◌, ◌+◌, ◌-◌, ◌++◌, ◌∙◌, refl, ap, sym, arith, true, false, inl, inr, drop, get_or, length, take, Option, Some, None}
use Rattle.std.proofs.lemmas.Bool.{cases_Bool, false≢true}
use Rattle.std.proofs.lemmas.List.{nil_from_length, take_all}
use Rattle.std.specs.Prelude.{IfSome, if◌then◌else◌}
use Rattle.csv.specs.Machine.{Read, ends_at_end, field_after, fields_after, in_field, is_end, next_record, step}
use Rattle.csv.specs.Reading.{default_config, records, records_from, records_next}
use Rattle.csv.specs.declared.parser.Action.{Action}
use Rattle.csv.specs.declared.parser.State.{State}
use Rattle.csv.specs.declared.parser.State.TheVariants as st
use Rattle.bt_record.specs.inside.RecordParts.{is_line_end}

-- ---- the state between two records

-- after a CR a text is read as at its start
after_return : (text : List ℕ) → next_record default_config st.AfterCr [] [] text ≡ next_record default_config st.StartRecord [] [] text
unfolding next_record
after_return [] = refl
after_return (b ∷ bs) = elim (cases_Bool (b == 10)) [
  | inl feed ↦ elim (cases_Bool (b == 13)) [ inl return ↦ rw (feed, return) refl | inr other ↦ rw (feed, other) refl ]
  | inr other ↦ rw other refl
]

abbrev is_between : State → Bool
is_between st.StartRecord = true
is_between st.AfterCr = true
is_between other = false

field_ends : (c : ℕ) → is_end (in_field default_config c).1 ≡ true → is_between (in_field default_config c).0 ≡ true
field_ends c ends = elim (cases_Bool (c == 44)) [
  | inl comma ↦ absurd (false≢true (rw comma at ends))
  | inr other ↦ elim (cases_Bool (c == 13)) [
    | inl return ↦ rw (other, return) refl
    | inr no_return ↦ elim (cases_Bool (c == 10)) [
      | inl feed ↦ rw (other, no_return, feed) refl
      | inr plain ↦ absurd (false≢true (rw (other, no_return, plain) at ends))
    ]
  ]
]

start_ends : (c : ℕ) → is_end (step default_config st.StartField c).1 ≡ true → is_between (step default_config st.StartField c).0 ≡ true
start_ends c ends = elim (cases_Bool (c == 34)) [
  | inl quote ↦ absurd (false≢true (rw quote at ends))
  | inr other ↦ rw other (field_ends c (rw other at ends))
]

like_field : (c : ℕ) → is_line_end c ≡ false → step default_config st.StartRecord c ≡ step default_config st.StartField c
like_field c other = rw other refl

like_record : (c : ℕ) → (c == 10) ≡ false → step default_config st.AfterCr c ≡ step default_config st.StartRecord c
like_record c other = rw other refl

-- the same for two states in which a byte does the same
ends_alike : (p q : State × Action) → p ≡ q → (is_end q.1 ≡ true → is_between q.0 ≡ true) → is_end p.1 ≡ true → is_between p.0 ≡ true
ends_alike p q same is ends = ap (λ (r : State × Action). is_between r.0) same ∙ is (ap (λ (r : State × Action). is_end r.1) (sym same) ∙ ends)

record_starts : (c : ℕ) → is_end (step default_config st.StartRecord c).1 ≡ true → is_between (step default_config st.StartRecord c).0 ≡ true
record_starts c ends = elim (cases_Bool (is_line_end c)) [
  | inl line_end ↦ absurd (false≢true (rw line_end at ends))
  | inr other ↦ ends_alike (step default_config st.StartRecord c) (step default_config st.StartField c) (like_field c other) (start_ends c) ends
]

-- after a record the reader is between two records
step_ends : (s : State) (c : ℕ) → is_end (step default_config s c).1 ≡ true → is_between (step default_config s c).0 ≡ true
step_ends st.StartRecord c ends = record_starts c ends
step_ends st.StartField c ends = start_ends c ends
step_ends st.InField c ends = field_ends c ends
step_ends st.InQuoted c ends = elim (cases_Bool (c == 34)) [
  | inl quote ↦ absurd (false≢true (rw quote at ends))
  | inr other ↦ absurd (false≢true (rw other at ends))
]
step_ends st.AfterQuote c ends = elim (cases_Bool (c == 34)) [
  | inl quote ↦ absurd (false≢true (rw quote at ends))
  | inr other ↦ rw other (field_ends c (rw other at ends))
]
step_ends st.InEscape c ends = absurd cc
step_ends st.InComment c ends = elim (cases_Bool (c == 10)) [
  | inl feed ↦ absurd (false≢true (rw feed at ends))
  | inr other ↦ absurd (false≢true (rw other at ends))
]
step_ends st.AfterCr c ends = elim (cases_Bool (c == 10)) [
  | inl feed ↦ absurd (false≢true (rw feed at ends))
  | inr other ↦ ends_alike (step default_config st.AfterCr c) (step default_config st.StartRecord c) (like_record c other) (record_starts c) ends
]

-- ---- what is left after a record

-- a record read from this many bytes leaves fewer bytes, and the reader between two records
abbrev Leaves : ℕ → Read → Type 0
Leaves n r = (is_between r.1 ≡ true) × (length r.2 ≤ n - 1)

more_bytes : (n m : ℕ) (found : Option Read) → n ≤ m → IfSome found (Leaves n) → IfSome found (Leaves m)
more_bytes n m None le left = tt
more_bytes n m (Some r) le left = (left.0, omega (arith, le, left.1))

leaves : (s : State) (fields : List (List ℕ)) (field text : List ℕ) → IfSome (next_record default_config s fields field text) (Leaves (length text))
unfolding next_record
leaves s fields field [] =
    elim (ends_at_end s) as (λ b. IfSome (if b then Some (fields ++ (field ∷ []), st.StartRecord, []) else None) (Leaves 0)) [
      | true ↦ (refl, omega arith)
      | false ↦ tt
    ]
leaves s fields field (c ∷ rest) =
    let a = (step default_config s c).1 in
    let t = (step default_config s c).0 in
    let later = next_record default_config t (fields_after a fields field) (field_after a c field) rest in
    elim (is_end a) as (λ b. is_end a ≡ b → IfSome (if b then Some (fields_after a fields field, t, rest) else later) (Leaves (length (c ∷ rest)))) [
      | true ↦ λ ends. (step_ends s c ends, omega arith)
      | false ↦ λ more. more_bytes (length rest) (length (c ∷ rest)) later (omega arith) (leaves t (fields_after a fields field) (field_after a c field) rest)
    ] refl

-- ---- one record after the other

-- between two records it makes no difference whether there was a CR
from_between : (n : ℕ) (s : State) (text : List ℕ) → is_between s ≡ true → records_from default_config n s text ≡ records_from default_config n st.StartRecord text
unfolding records_from
from_between zero s text is = refl
from_between (suc n) st.StartRecord text is = refl
from_between (suc n) st.AfterCr text is = ap (records_next (records_from default_config n)) (after_return text)
from_between (suc n) st.StartField text is = absurd cc
from_between (suc n) st.InField text is = absurd cc
from_between (suc n) st.InQuoted text is = absurd cc
from_between (suc n) st.AfterQuote text is = absurd cc
from_between (suc n) st.InEscape text is = absurd cc
from_between (suc n) st.InComment text is = absurd cc

one_turn : (n : ℕ) (s : State) (text : List ℕ) → records_from default_config (suc n) s text ≡ records_next (records_from default_config n) (next_record default_config s [] [] text)
unfolding records_from
one_turn n s text = refl

none_of_nothing : next_record default_config st.StartRecord [] [] [] ≡ None
unfolding next_record
none_of_nothing = refl

-- the records after one that was read from this many bytes, with more iterations than bytes
turns_after : (n m size : ℕ) (found : Option Read)
    → ((text : List ℕ) → length text < n → length text < m
    → records_from default_config n st.StartRecord text ≡ records_from default_config m st.StartRecord text)
    → size < n → size < m → IfSome found (Leaves (suc size)) → records_next (records_from default_config n) found ≡ records_next (records_from default_config m) found
turns_after n m size None same more_n more_m left = refl
turns_after n m size (Some r) same more_n more_m left =
    let rest : records_from default_config n r.1 r.2 ≡ records_from default_config m r.1 r.2 =
    from_between n r.1 r.2 left.0 ∙ same r.2 (omega (arith, left.1, more_n)) (omega (arith, left.1, more_m)) ∙ sym (from_between m r.1 r.2 left.0) in
    ap (λ (others : List (List (List ℕ))). r.0 ∷ others) rest

-- more iterations than bytes are enough
turns : (n m : ℕ) (text : List ℕ) → length text < n → length text < m → records_from default_config n st.StartRecord text ≡ records_from default_config m st.StartRecord text
turns zero m text more_n more_m = absurd (omega (arith, more_n))
turns (suc n) zero text more_n more_m = absurd (omega (arith, more_m))
turns (suc n) (suc m) [] more_n more_m = rw (one_turn n st.StartRecord [], one_turn m st.StartRecord [], none_of_nothing) refl
turns (suc n) (suc m) (b ∷ bs) more_n more_m =
    let following = turns_after n m (length bs) (next_record default_config st.StartRecord [] [] (b ∷ bs)) (turns n m) (omega (arith, more_n))
    (omega (arith, more_m)) (leaves st.StartRecord [] [] (b ∷ bs)) in
    one_turn n st.StartRecord (b ∷ bs) ∙ following ∙ sym (one_turn m st.StartRecord (b ∷ bs))

-- a text with nothing left has no records
pub no_more : records default_config [] ≡ []
unfolding records_from
no_more = rw none_of_nothing refl

-- the records of a text that is read from a state
abbrev from_state : State → List ℕ → List (List (List ℕ))
from_state s text = records_from default_config (length text + 1) s text

opened : (s : State) (text : List ℕ) → from_state s text ≡ records_next (records_from default_config (length text)) (next_record default_config s [] [] text)
opened s text =
    let one_more : length text + 1 ≡ suc (length text) = omega arith in
    ap (λ (n : ℕ). records_from default_config n s text) one_more ∙ one_turn (length text) s text

-- if no record was read, there is none
pub none_from : (s : State) (text : List ℕ) → next_record default_config s [] [] text ≡ None → from_state s text ≡ []
none_from s text none = opened s text ∙ ap (records_next (records_from default_config (length text))) none

-- the records of what is left after a record do not depend on the number of iterations
left_after : (text : List ℕ) (r : Read) → Leaves (length text) r → records_from default_config (length text) r.1 r.2 ≡ from_state r.1 r.2
unfolding records_from
left_after [] r left =
    let nothing : r.2 ≡ [] = nil_from_length r.2 (omega (arith, left.1)) in
    sym (from_between (length r.2 + 1) r.1 r.2 left.0 ∙ rw nothing (rw none_of_nothing refl))
left_after (b ∷ bs) r left =
    from_between (length (b ∷ bs)) r.1 r.2 left.0 ∙ turns (length (b ∷ bs)) (length r.2 + 1) r.2 (omega (arith, left.1)) (omega arith) ∙ sym (from_between (length r.2 + 1) r.1 r.2 left.0)

-- the record that was read from a state is the first, and those that are read from the next state follow
pub next_from : (s : State) (text : List ℕ) (r : Read) → next_record default_config s [] [] text ≡ Some r → from_state s text ≡ r.0 ∷ from_state r.1 r.2
next_from s text r read =
    let left : Leaves (length text) r = rw read at (leaves s [] [] text) in
    opened s text ∙ ap (records_next (records_from default_config (length text))) read ∙ ap (λ (others : List (List (List ℕ))). r.0 ∷ others) (left_after text r left)

-- the record that was read is the first, and those of the rest follow
pub first_record : (b : ℕ) (bs : List ℕ) (r : Read) → next_record default_config st.StartRecord [] [] (b ∷ bs) ≡ Some r → records default_config (b ∷ bs) ≡ r.0 ∷ records default_config r.2
first_record b bs r read =
    let left : Leaves (length (b ∷ bs)) r = rw read at (leaves st.StartRecord [] [] (b ∷ bs)) in
    next_from st.StartRecord (b ∷ bs) r read ∙ ap (λ (others : List (List (List ℕ))). r.0 ∷ others) (from_between (length r.2 + 1) r.1 r.2 left.0)

reads_over : (b : ℕ) (bs : List ℕ) → is_line_end b ≡ true → next_record default_config st.StartRecord [] [] (b ∷ bs) ≡ next_record default_config st.StartRecord [] [] bs
unfolding next_record
reads_over b bs is = rw is refl

-- a line end before a record is skipped
pub line_end_more : (b : ℕ) (bs : List ℕ) → is_line_end b ≡ true → records default_config (b ∷ bs) ≡ records default_config bs
line_end_more b bs is =
    let size = suc (length bs) in
    opened st.StartRecord (b ∷ bs) ∙ ap (records_next (records_from default_config size)) (reads_over b bs is) ∙ sym (one_turn size st.StartRecord bs)
    ∙ turns (suc size) (length bs + 1) bs (omega arith) (omega arith)

-- the same, by the first byte of a text and the bytes after it
pub line_end_first : (text : List ℕ) → 1 ≤ length text → true ≡ is_line_end (get_or text 0 0) → records default_config (take (length text - 1) (drop 1 text)) ≡ records default_config text
line_end_first [] some is = absurd (omega (arith, some))
line_end_first (b ∷ bs) some is =
    let rest : take (length (b ∷ bs) - 1) bs ≡ bs = take_all (length (b ∷ bs) - 1) bs (omega arith) in
    ap (records default_config) rest ∙ sym (line_end_more b bs (sym is))

-- if no byte is left, there are no records
pub none_left : (text : List ℕ) → length text < 1 → records default_config text ≡ []
unfolding records_from
none_left [] none = rw none_of_nothing refl
none_left (b ∷ bs) none = absurd (omega (arith, none))
