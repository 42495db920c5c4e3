-- A line without quotes and line ends is read as its parts between commas. Serves reading a record.
use Rattle.std.proofs.Common.{ℕ, Bool, List, [], ◌∷◌, ◌++◌, ◌≡◌, ◌∙◌, refl, ap, true, false, ◌||◌, ◌==◌, append_assoc, inl, inr, Option, Some}
use Rattle.std.proofs.lemmas.List.{append-nil}
use Rattle.std.proofs.lemmas.Bool.{cases_Bool}
use Rattle.std.specs.List.{list_any, onto_first}
use Rattle.std.specs.Prelude.{is_some, option_map, unwrap_or}
use Rattle.csv.specs.Machine.{next_record}
use Rattle.csv.specs.Reading.{default_config}
use Rattle.csv.specs.declared.parser.State.TheVariants as st
use Rattle.csv.proofs.RoundTrip.{start-same, record-same}
use Rattle.bt_record.specs.inside.Pieces.{part}
use Rattle.bt_record.specs.Records.{csv_record, fields_in}
use Rattle.bt_value.specs.PlainFields.{is_special, parts_of}

or-left : (a b : Bool) → (a || b) ≡ false → a ≡ false
or-left false b e = refl
or-left true b e = cc e

or-right : (a b : Bool) → (a || b) ≡ false → b ≡ false
or-right false b e = e
or-right true b e = cc e

-- the current field comes before the first part
abbrev pub before_first_part : List ℕ → List (List ℕ) → List (List ℕ)
before_first_part field [] = []
before_first_part field (part ∷ parts) = (field ++ part) ∷ parts

pub parts-some : (text : List ℕ) → (first : List ℕ) × (rest : List (List ℕ)) × (parts_of text ≡ first ∷ rest)
parts-some [] = ([], [], refl)
parts-some (b ∷ bs) = elim (cases_Bool (b == 44)) [
  | inl comma ↦ ([], parts_of bs, rw comma refl)
  | inr other ↦ let more = parts-some bs in (b ∷ more.0, more.1, rw (other, more.2) refl)
]

pub more-first : (field : List ℕ) (b : ℕ) (parts : List (List ℕ)) (first : List ℕ) (rest : List (List ℕ)) → parts ≡ first ∷ rest
    → before_first_part (field ++ (b ∷ [])) parts ≡ before_first_part field (onto_first b parts)
more-first field b parts first rest e = rw e (ap (λ (x : List ℕ). x ∷ rest) (append_assoc field (b ∷ []) first))

pub nil-first : (parts : List (List ℕ)) → before_first_part [] parts ≡ parts
nil-first [] = refl
nil-first (part ∷ parts) = refl

-- at the start of a field, a plain text is read as inside one
start-plain : (fields : List (List ℕ)) (text : List ℕ) → list_any is_special text ≡ false
    → next_record default_config st.StartField fields [] text ≡ next_record default_config st.InField fields [] text
unfolding next_record
start-plain fields [] plain = refl
start-plain fields (b ∷ bs) plain = start-same fields [] b bs (or-left _ _ (or-left _ _ (or-left _ _ plain)))

in-plain : (text : List ℕ) (fields : List (List ℕ)) (field : List ℕ) → list_any is_special text ≡ false
    → next_record default_config st.InField fields field text ≡ Some (fields ++ before_first_part field (parts_of text), st.StartRecord, [])
unfolding next_record
in-plain [] fields field plain = rw (append-nil field) refl
in-plain (b ∷ bs) fields field plain = elim (cases_Bool (b == 44)) [
  | inl comma ↦
      let rest = in-plain bs (fields ++ (field ∷ [])) [] (or-right _ _ plain) in
      rw comma (start-plain (fields ++ (field ∷ [])) bs (or-right _ _ plain) ∙ rest ∙ rw (nil-first (parts_of bs), append_assoc fields (field ∷ []) (parts_of bs), append-nil field) refl)
  | inr other ↦
      let quote : (b == 34) ≡ false = or-left _ _ (or-left _ _ (or-left _ _ plain)) in
      let return : (b == 13) ≡ false = or-right _ _ (or-left _ _ (or-left _ _ plain)) in
      let feed : (b == 10) ≡ false = or-right _ _ (or-left _ _ plain) in
      let rest = in-plain bs fields (field ++ (b ∷ [])) (or-right _ _ plain) in
      let parts = parts-some bs in
      rw (other, return, feed) (rest ∙ rw (more-first field b (parts_of bs) parts.0 parts.1 parts.2) refl)
]

-- a line that has a byte, but no quote and no line end, is read as its parts between commas
plain_record : (b : ℕ) (bs : List ℕ) → list_any is_special (b ∷ bs) ≡ false → csv_record (b ∷ bs) ≡ Some (parts_of (b ∷ bs))
plain_record b bs plain =
    let return = or-right _ _ (or-left _ _ (or-left _ _ plain)) in
    let feed = or-right _ _ (or-left _ _ plain) in
    let start = record-same [] [] b bs return feed ∙ start-plain [] (b ∷ bs) plain ∙ in-plain (b ∷ bs) [] [] plain in
    ap (option_map (λ p. p.0)) start ∙ ap Some (nil-first (parts_of (b ∷ bs)))

-- the same for a text that has a record
pub plain_text : (text : List ℕ) → is_some (csv_record text) ≡ true → list_any is_special text ≡ false → fields_in text ≡ parts_of text
unfolding next_record
plain_text [] found plain = absurd cc
plain_text (b ∷ bs) found plain = ap (λ (o : Option (List (List ℕ))). unwrap_or o []) (plain_record b bs plain)
