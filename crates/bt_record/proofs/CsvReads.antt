-- Reading a record with a reader of csv. Serves the records that it has left.
use Rattle.std.proofs.Common.{ℕ, Bor, Bool, List, [], ◌∷◌, ◌++◌, ◌≡◌, ◌∙◌, ◌&&◌, ◌==◌, refl, ap, sym, not, true, false, inl, inr, arith}
use Rattle.std.proofs.Common.{drop, length, min, nat_le, take, ◌≤◌, ◌<◌, Option, Some, Result, Ok, Err}
use Rattle.std.proofs.lemmas.Bool.{cases_Bool}
use Rattle.std.proofs.lemmas.Bool.Decides.{nat_tests}
use Rattle.std.proofs.lemmas.List.{take_all}
use Rattle.csv.specs.Reading.{ReadRecord, Reached, Ready, default_config, has_failed, reader_config, reader_trim, source_of, strip_bom}
use Rattle.csv.specs.declared.error.Error.{Error}
use Rattle.csv.specs.declared.reader.Reader.{Reader}
use Rattle.csv.specs.declared.reader.Trim.TheVariants as trim
use Rattle.csv.proofs.ReadFacts.{rows-end, rows-more}
use Rattle.bt_record.specs.inside.CsvReads.{ReadsEach, records_after, records_left}
use Rattle.bt_record.proofs.RecordsOf.{next_from, none_from}

-- the bytes of a text in memory
abbrev pub bytes_of : Bor (List ℕ) → Option (List ℕ)
bytes_of text = Some text.now

-- unless it has failed, the bytes of a reader of a text in memory are known
known : (a : Reader (Bor (List ℕ))) → has_failed a ≡ false → (text : List ℕ) × (source_of bytes_of a ≡ Some text)
known a goes = elim (cases_Bool (not a.bom_checked && (a.at == 0) && (a.filled == 0))) [
  | inl first ↦ (strip_bom a.rdr.now, rw (goes, first) refl)
  | inr later ↦ (drop a.at (take a.filled a.buffer) ++ a.rdr.now, rw (goes, later) refl)
]

-- a record that was read is the first of those that were left
first_left : (a b : Reader (Bor (List ℕ))) (fields : List (List ℕ)) → has_failed a ≡ false → reader_config a ≡ default_config → ReadRecord bytes_of a b true fields
    → records_left bytes_of a ≡ fields ∷ records_left bytes_of b
unfolding Reached
first_left a b fields goes config read =
    let text = known a goes in
    let more = rows-more bytes_of a b fields default_config a.state text.0 text.0 [] config text.1 (refl, refl) read in
    let last = more.2.3 in
    ap (records_after a.state) text.1 ∙ next_from a.state text.0 more.2.0 more.2.1
    ∙ (λ i. sym more.2.2 i ∷ records_after (last.0 i) (Some (last.1 i)))
    ∙ ap (λ (bytes : Option (List ℕ)). fields ∷ records_after b.state bytes) (sym more.1)

-- if no record was read, none was left
none_left : (a b : Reader (Bor (List ℕ))) (fields : List (List ℕ)) → has_failed a ≡ false → reader_config a ≡ default_config → ReadRecord bytes_of a b false fields
    → records_left bytes_of a ≡ []
none_left a b fields goes config read =
    let text = known a goes in
    ap (records_after a.state) text.1 ∙ none_from a.state text.0 (rows-end bytes_of a b fields default_config text.0 config text.1 read)

-- a read of a record: what it gives, for a reader that has failed and for others
pub record Reads (a b : Reader (Bor (List ℕ))) (r : Result Bool Error) (found : Bool) (fields : List (List ℕ)) : Type 0 where
  pub each : ReadsEach a
  pub is : r ≡ Ok found
  pub failed : has_failed a ≡ true → r ≡ Ok false
  pub reads : reader_trim a ≡ trim.None → Ready a → ReadRecord bytes_of a b found fields

not_found : (r : Result Bool Error) → r ≡ Ok true → r ≡ Ok false → ⊥
not_found (Ok true) is isnt = absurd cc
not_found (Ok false) is isnt = absurd cc
not_found (Err e) is isnt = absurd cc

-- a number of fields that is limited by their number
pub take_least : (fields : List (List ℕ)) (most n : ℕ) → n ≡ min (length fields) most → take n fields ≡ take most fields
take_least fields most n is = elim (cases_Bool (nat_le (length fields) most)) [
  | inl few ↦
      let all : length fields ≤ most = grind (arith, nat_tests) in
      take_all n fields (omega (arith, is, all)) ∙ sym (take_all most fields all)
  | inr many ↦
      let limit : most < length fields = grind (arith, nat_tests) in
      ap (λ k. take k fields) (omega (arith, is, limit))
]

pub took : (a b : Reader (Bor (List ℕ))) (r : Result Bool Error) (found : Bool) (fields : List (List ℕ)) → Reads a b r found fields → found ≡ true
    → records_left bytes_of a ≡ fields ∷ records_left bytes_of b
took a b r false fields given is = absurd cc
took a b r true fields given is = elim (cases_Bool (has_failed a)) [
  | inl failed ↦ absurd (not_found r given.is (given.failed failed))
  | inr goes ↦ let each = given.each goes in first_left a b fields goes each.0 (given.reads each.1 each.3)
]

pub took_none : (a b : Reader (Bor (List ℕ))) (r : Result Bool Error) (found : Bool) (fields : List (List ℕ)) → Reads a b r found fields → found ≡ false → records_left bytes_of a ≡ []
took_none a b r true fields given is = absurd cc
took_none a b r false fields given is = elim (cases_Bool (has_failed a)) [
  | inl failed ↦ rw failed refl
  | inr goes ↦ let each = given.each goes in none_left a b fields goes each.0 (given.reads each.1 each.3)
]
