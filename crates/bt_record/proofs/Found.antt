-- Which texts csv's reader finds a record in, and at least how many fields it has. Serves lines and their reader.
use Rattle.std.proofs.Common.{ℕ, Bool, List, [], ◌∷◌, ◌++◌, ◌≡◌, ◌==◌, ◌||◌, ◌<◌, ◌≤◌, ◌∙◌, refl, ap, sym, arith, true, false, inl, inr, length, length-append, Option, Some, None}
use Rattle.std.proofs.lemmas.Bool.{cases_Bool, false≢true, true≢false}
use Rattle.std.proofs.Math.Dec.{eqb-suc-zero}
use Rattle.std.specs.List.{list_all, list_any}
use Rattle.std.specs.Prelude.{IfSome, if◌then◌else◌, is_some, option_map, unwrap_or}
use Rattle.csv.specs.Machine.{Read, ends_at_end, field_after, fields_after, is_end, next_record, step}
use Rattle.csv.specs.Reading.{default_config, strip_bom}
use Rattle.csv.specs.declared.parser.Action.{Action}
use Rattle.csv.specs.declared.parser.Action.TheVariants as act
use Rattle.csv.specs.declared.parser.State.{State}
use Rattle.csv.specs.declared.parser.State.TheVariants as st
use Rattle.csv.proofs.RoundTrip.{record-same}
use Rattle.bt_record.specs.Records.{csv_record, has_mark, is_refused, record_of, fields_in}

-- ---- the number of fields

fewer : (a : Action) (fields : List (List ℕ)) (field : List ℕ) → length fields ≤ length (fields_after a fields field)
fewer act.Skip fields field = omega arith
fewer act.Copy fields field = omega arith
fewer act.EndField fields field = omega (arith, length-append fields (field ∷ []))
fewer act.EndRecord fields field = omega (arith, length-append fields (field ∷ []))

fewer_at_end : (a : Action) (fields : List (List ℕ)) (field : List ℕ) → is_end a ≡ true → length fields < length (fields_after a fields field)
fewer_at_end act.Skip fields field ends = absurd cc
fewer_at_end act.Copy fields field ends = absurd cc
fewer_at_end act.EndField fields field ends = absurd cc
fewer_at_end act.EndRecord fields field ends = omega (arith, length-append fields (field ∷ []))

-- the fields of a record that was read
abbrev all_fields : Read → List (List ℕ)
all_fields r = r.0

weaker : (found : Option Read) (n m : ℕ) → n ≤ m → IfSome found (λ r. m < length (all_fields r)) → IfSome found (λ r. n < length (all_fields r))
weaker None n m le more = tt
weaker (Some r) n m le more = omega (arith, le, more)

one_longer : (fields : List (List ℕ)) (field : List ℕ) → length fields < length (fields ++ (field ∷ []))
one_longer fields field = omega (arith, length-append fields (field ∷ []))

-- a record has more fields than were read before its end
grows : (s : State) (fields : List (List ℕ)) (field text : List ℕ) → IfSome (next_record default_config s fields field text) (λ r. length fields < length (all_fields r))
unfolding next_record
grows s fields field [] =
    elim (ends_at_end s) as (λ b. IfSome (if b then Some (fields ++ (field ∷ []), st.StartRecord, []) else None) (λ r. length fields < length (all_fields r))) [
      | true ↦ one_longer fields field
      | false ↦ tt
    ]
grows s fields field (c ∷ rest) =
    let a = (step default_config s c).1 in
    let t = (step default_config s c).0 in
    let later = next_record default_config t (fields_after a fields field) (field_after a c field) rest in
    elim (is_end a) as (λ b. is_end a ≡ b → IfSome (if b then Some (fields_after a fields field, t, rest) else later) (λ r. length fields < length (all_fields r))) [
      | true ↦ λ ends. fewer_at_end a fields field ends
      | false ↦ λ more. weaker later (length fields) (length (fields_after a fields field)) (fewer a fields field) (grows t (fields_after a fields field) (field_after a c field) rest)
    ] refl

more_fields : (found : Option Read) (n : ℕ) → is_some (option_map (λ p. p.0) found) ≡ true → IfSome found (λ r. n < length (all_fields r)) → n < length (unwrap_or (option_map (λ p. p.0) found) [])
more_fields None n some more = absurd cc
more_fields (Some r) n some more = more

-- if this many fields were read and the text goes on, the record has more
pub many_fields : (text rest : List ℕ) (s : State) (fields : List (List ℕ)) (field : List ℕ) → is_some (csv_record text) ≡ true
    → next_record default_config st.StartRecord [] [] text ≡ next_record default_config s fields field rest → length fields < length (fields_in text)
many_fields text rest s fields field some same =
    let found = next_record default_config s fields field rest in
    let here : is_some (option_map (λ p. p.0) found) ≡ true = ap (λ (o : Option Read). is_some (option_map (λ p. p.0) o)) (sym same) ∙ some in
    let more = more_fields found (length fields) here (grows s fields field rest) in
    omega (arith, more, ap (λ (o : Option Read). length (unwrap_or (option_map (λ p. p.0) o) [])) same)

-- ---- whether there is a record

-- the states inside a record
abbrev pub is_inside : State → Bool
is_inside st.StartField = true
is_inside st.InField = true
is_inside st.InQuoted = true
is_inside st.AfterQuote = true
is_inside other = false

pub ends_inside : (s : State) → is_inside s ≡ true → ends_at_end s ≡ true
ends_inside st.StartRecord inside = absurd cc
ends_inside st.AfterCr inside = absurd cc
ends_inside st.StartField inside = refl
ends_inside st.InField inside = refl
ends_inside st.InQuoted inside = refl
ends_inside st.AfterQuote inside = refl
ends_inside st.InEscape inside = absurd cc
ends_inside st.InComment inside = absurd cc

in_field_inside : (c : ℕ) → is_end (step default_config st.InField c).1 ≡ false → is_inside (step default_config st.InField c).0 ≡ true
in_field_inside c more = elim (cases_Bool (c == 44)) [
  | inl comma ↦ rw comma refl
  | inr other ↦ elim (cases_Bool ((c == 13) || (c == 10))) [
    | inl ends ↦ absurd (true≢false (rw (other, ends) at more))
    | inr plain ↦ rw (other, plain) refl
  ]
]

-- a byte inside a record leaves the reader inside it, or ends the record
pub step_inside : (s : State) (c : ℕ) → is_inside s ≡ true → is_end (step default_config s c).1 ≡ false → is_inside (step default_config s c).0 ≡ true
step_inside st.StartRecord c inside more = absurd cc
step_inside st.AfterCr c inside more = absurd cc
step_inside st.InEscape c inside more = absurd cc
step_inside st.InComment c inside more = absurd cc
step_inside st.InField c inside more = in_field_inside c more
step_inside st.StartField c inside more = elim (cases_Bool (c == 34)) [
  | inl quote ↦ rw quote refl
  | inr other ↦ rw other (in_field_inside c (rw other at more))
]
step_inside st.InQuoted c inside more = elim (cases_Bool (c == 34)) [
  | inl quote ↦ rw quote refl
  | inr other ↦ rw other refl
]
step_inside st.AfterQuote c inside more = elim (cases_Bool (c == 34)) [
  | inl quote ↦ rw quote refl
  | inr other ↦ rw other (in_field_inside c (rw other at more))
]

-- inside a record, a record is found
found_inside : (s : State) (fields : List (List ℕ)) (field text : List ℕ) → is_inside s ≡ true → is_some (next_record default_config s fields field text) ≡ true
unfolding next_record
found_inside s fields field [] inside = rw (ends_inside s inside) refl
found_inside s fields field (c ∷ rest) inside =
    let a = (step default_config s c).1 in
    let t = (step default_config s c).0 in
    let later = next_record default_config t (fields_after a fields field) (field_after a c field) rest in
    elim (is_end a) as (λ b. is_end a ≡ b → is_some (if b then Some (fields_after a fields field, t, rest) else later) ≡ true) [
      | true ↦ λ ends. refl
      | false ↦ λ more. found_inside t (fields_after a fields field) (field_after a c field) rest (step_inside s c inside more)
    ] refl

fields_some : (found : Option Read) → is_some found ≡ true → is_some (option_map (λ p. p.0) found) ≡ true
fields_some None some = some
fields_some (Some r) some = refl

pub or-left : (a b : Bool) → (a || b) ≡ false → a ≡ false
or-left false b e = refl
or-left true b e = absurd cc

pub or-right : (a b : Bool) → (a || b) ≡ false → b ≡ false
or-right false b e = e
or-right true b e = absurd cc

-- line feeds alone have no record
pub feeds_alone : (text : List ℕ) → list_all (λ b. b == 10) text ≡ true → csv_record text ≡ None
unfolding next_record
feeds_alone [] all = refl
feeds_alone (b ∷ bs) all = elim (cases_Bool (b == 10)) [
  | inl feed ↦
      let rest : list_all (λ x. x == 10) bs ≡ true = rw feed at all in
      let later = feeds_alone bs rest in
      elim (cases_Bool (b == 13)) [ inl return ↦ rw return later | inr other ↦ rw (other, feed) later ]
  | inr other ↦ absurd (false≢true (rw other at all))
]

-- a text without carriage returns has a record if it has any byte but line feeds
pub some_record : (text : List ℕ) → list_all (λ b. b == 10) text ≡ false → list_any (λ b. b == 13) text ≡ false → is_some (csv_record text) ≡ true
unfolding next_record
some_record [] all none = absurd cc
some_record (b ∷ bs) all none =
    let return : (b == 13) ≡ false = or-left (b == 13) (list_any (λ x. x == 13) bs) none in
    let later : list_any (λ x. x == 13) bs ≡ false = or-right (b == 13) (list_any (λ x. x == 13) bs) none in
    elim (cases_Bool (b == 10)) [
      | inl feed ↦ rw (return, feed) (some_record bs (rw feed at all) later)
      | inr other ↦ fields_some (next_record default_config st.StartRecord [] [] (b ∷ bs)) (ap is_some (record-same [] [] b bs return other) ∙ found_inside st.StartField [] [] (b ∷ bs) refl)
    ]

-- ---- lines

-- the record of a text, unless it is refused
abbrev unless_refused : List ℕ → Option (List (List ℕ))
unless_refused text = if is_refused text then None else csv_record text

none_there : (line text : List ℕ) → text ≡ strip_bom line → None ≡ unless_refused text → None ≡ record_of line
none_there line text cut none = none ∙ ap unless_refused cut

none_if_refused : (text : List ℕ) → is_refused text ≡ true → None ≡ unless_refused text
none_if_refused text refused = rw refused refl

pub none_of_feeds : (line text : List ℕ) → text ≡ strip_bom line → list_all (λ b. b == 10) text ≡ true → None ≡ record_of line
none_of_feeds line text cut all = none_there line text cut (elim (cases_Bool (is_refused text)) [
  | inl refused ↦ none_if_refused text refused
  | inr other ↦ rw other (sym (feeds_alone text all))
])

pub none_after_mark : (line text : List ℕ) → text ≡ strip_bom line → has_mark text ≡ true → None ≡ record_of line
none_after_mark line text cut mark = none_there line text cut (none_if_refused text (refused_by_mark (length text == 0) (has_mark text) (list_any (λ b. b == 13) text) mark))
  where
    refused_by_mark : (empty mark return : Bool) → mark ≡ true → (empty || mark || return) ≡ true
    refused_by_mark true true return is = refl
    refused_by_mark false true return is = refl
    refused_by_mark empty false return is = absurd cc

pub none_with_return : (line text : List ℕ) → text ≡ strip_bom line → list_any (λ b. b == 13) text ≡ true → None ≡ record_of line
none_with_return line text cut return = none_there line text cut (none_if_refused text (refused_by_return (length text == 0) (has_mark text) (list_any (λ b. b == 13) text) return))
  where
    refused_by_return : (empty mark return : Bool) → return ≡ true → (empty || mark || return) ≡ true
    refused_by_return true mark true is = refl
    refused_by_return false true true is = refl
    refused_by_return false false true is = refl
    refused_by_return empty mark false is = absurd cc

-- the line of a text that none of these tests refuses is not empty, and its record is that of the text
pub record_there : (line text : List ℕ) → text ≡ strip_bom line → list_all (λ b. b == 10) text ≡ false → has_mark text ≡ false → list_any (λ b. b == 13) text ≡ false
    → Some (fields_in text) ≡ record_of line
record_there line text cut other mark return =
    let fit : is_refused text ≡ false = rw (some_bytes text other, mark, return) refl in
    let there : unless_refused text ≡ csv_record text = rw fit refl in
    the_fields (csv_record text) (some_record text other return) ∙ sym there ∙ ap unless_refused cut
  where
    some_bytes : (t : List ℕ) → list_all (λ b. b == 10) t ≡ false → (length t == 0) ≡ false
    some_bytes [] is = absurd cc
    some_bytes (b ∷ bs) is = eqb-suc-zero (length bs)

    the_fields : (found : Option (List (List ℕ))) → is_some found ≡ true → Some (unwrap_or found []) ≡ found
    the_fields None some = absurd cc
    the_fields (Some fields) some = refl
