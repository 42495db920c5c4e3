-- Names of columns, and the definition that they make.
use Rattle.std.proofs.Common.{◌≡◌, ℕ, suc, ◌+◌, ◌<◌, ◌≤◌, ◌==◌, ◌&&◌, Bool, true, false, nat_le, List, [], ◌∷◌, ◌++◌, append_assoc, get_or, length}
use Rattle.std.proofs.Common.{refl, sym, ap, subst, ◌∙◌, Option, Some, None, is_some, option_map, Result, Ok, Err, arith, if◌then◌else◌}
use Rattle.std.specs.Prelude.{option_and_then}
use Rattle.std.specs.List.{All}
use Rattle.std.specs.Cmp.Lexicographic.{pointwise}
use Rattle.std.specs.Option.{is_none}
use Rattle.std.specs.Result.{IfErr, result_err, result_map_both}
use Rattle.std.proofs.lemmas.List.{length-map}
use Rattle.bt_row.specs.Ops.{at_column, named_from}
use Rattle.bt_value.specs.Results.{both_read, or_refused}
use Rattle.bt_value.specs.Refusals.{lower}
use Rattle.bt_value.specs.Values.{value_of}
use Rattle.bt_value.specs.declared.refusal.Refusal.{Refusal}
use Rattle.bt_value.specs.declared.refusal.Refusal.TheVariants.{BadField, NoSuchColumn, TooMany}
use Rattle.bt_row.specs.declared.rows.schema.Column.{Column}
use Rattle.bt_value.specs.declared.value.Kind.{Kind}
use Rattle.bt_value.specs.declared.value.Kind.TheVariants as kind
use Rattle.bt_value.specs.declared.value.Value.{Value}
use Rattle.bt_value.proofs.offered.Kinds.{fits_kind_of, value_fits}
use Rattle.bt_keycode.specs.Codes.{kind_of}
use Rattle.bt_fanout.specs.Definitions.{chosen, condition_at, condition_in, kinds_of, most_included, most_on, places_of}
use Rattle.bt_fanout.specs.Entries.{HasKind, HasPlace, SuitsKinds}
use Rattle.bt_fanout.specs.declared.definition.Condition.{Condition}
use Rattle.bt_row.specs.declared.rows.filter.Filter.{Filter}
use Rattle.bt_fanout.proofs.offered.Suiting.{all_more, all_none}

-- ---- places one by one

placed : (old : List ℕ) (place : ℕ) (found : Option (List ℕ)) →
    option_map (λ others. old ++ others) (option_map (λ places. place ∷ places) found) ≡ option_map (λ others. (old ++ place ∷ []) ++ others) found
placed old place None = refl
placed old place (Some places) = ap Some (sym (append_assoc old (place ∷ []) places))

-- a name that no column has
pub no_place : (columns : List Column) (name : List ℕ) (names : List (List ℕ)) → named_from 0 name columns ≡ None → places_of columns (name ∷ names) ≡ None
no_place columns name names is = ap (λ found. option_and_then (λ (d : ℕ × Kind). option_map (λ places. d.0 ∷ places) (places_of columns names)) found) is

-- ---- what a definition says of the columns

-- a column with a name is one of the columns, of this kind
abbrev IsThere : ℕ → List Column → ℕ × Kind → Type 0
IsThere start columns c = (i : ℕ) × ((c.0 ≡ start + i) × ((i < length (kinds_of columns)) × (get_or (kinds_of columns) i kind.Flag ≡ c.1)))

is_there : (start : ℕ) (name : List ℕ) (columns : List Column) (c : ℕ × Kind) → named_from start name columns ≡ Some c → IsThere start columns c
is_there start name [] c e = cc
is_there start name (column ∷ columns) c e = by_test (pointwise ◌==◌ column.name name) (is_there (suc start) name columns c) e
  where
    by_test : (b : Bool) → (named_from (suc start) name columns ≡ Some c → IsThere (suc start) columns c) →
        (if b then Some (start, column.kind) else named_from (suc start) name columns) ≡ Some c → IsThere start (column ∷ columns) c
    by_test true others f =
        let same : (start, column.kind) ≡ c = cc in
        (0, (ap (λ (d : ℕ × Kind). d.0) (sym same) ∙ omega arith, (omega arith, ap (λ (d : ℕ × Kind). d.1) same)))
    by_test false others f =
        let later = others f in
        (suc later.0, (omega (arith, later.1.0), (omega (arith, later.1.1.0), later.1.1.1)))

-- a value that is written as a field of a kind is of that kind
value_kind : (k : Kind) (field : List ℕ) (v : Value) → value_of k field ≡ Some v → kind_of v ≡ k
value_kind k field v e = fits_kind_of k v (value_fits k field v e)

abbrev Fits : List Column → Option Condition → Type 0
Fits columns condition = HasPlace condition (length (kinds_of columns)) × HasKind condition (kinds_of columns)

-- the condition of a filter is one of the columns
condition_fits : (columns : List Column) (filter : Option Filter) (condition : Option Condition) → condition_in columns filter ≡ Ok condition → Fits columns condition
condition_fits columns None condition e = let same : None ≡ condition = cc in subst (Fits columns) same (tt, tt)
condition_fits columns (Some filter) condition e = by_column (named_from 0 filter.column columns) refl e
  where
    by_value : (c : ℕ × Kind) → IsThere 0 columns c → (o : Option Value) → value_of c.1 filter.constant ≡ o →
        result_map_both Some (λ e. e) (or_refused (BadField 1) (option_map (λ constant. record { place = c.0; test = filter.test; constant = constant }) o)) ≡ Ok condition → Fits columns condition
    by_value c there None is f = cc
    by_value c there (Some v) is f =
        let made : Condition = record { place = c.0; test = filter.test; constant = v } in
        let same : Some made ≡ condition = cc in
        let place : c.0 ≡ there.0 = there.1.0 ∙ omega arith in
        subst (Fits columns) same
        (subst (λ p. p < length (kinds_of columns)) (sym place) there.1.1.0, ap (λ p. get_or (kinds_of columns) p kind.Flag) place ∙ there.1.1.1 ∙ sym (value_kind c.1 filter.constant v is))

    by_column : (o : Option (ℕ × Kind)) → named_from 0 filter.column columns ≡ o → result_map_both Some (λ e. e) (at_column (condition_at filter) o) ≡ Ok condition → Fits columns condition
    by_column None is f = cc
    by_column (Some c) is f = by_value c (is_there 0 filter.column columns c is) (value_of c.1 filter.constant) refl f

-- the places of names are places of columns
places_within : (columns : List Column) (names : List (List ℕ)) (places : List ℕ) → places_of columns names ≡ Some places → All (λ place. place < length (kinds_of columns)) places
places_within columns [] places e = let same : [] ≡ places = cc in subst (All (λ place. place < length (kinds_of columns))) same (all_none (λ place. place < length (kinds_of columns)))
places_within columns (name ∷ names) places e = by_parts (named_from 0 name columns) (places_of columns names) refl (places_within columns names) e
  where
    by_parts : (o : Option (ℕ × Kind)) (others : Option (List ℕ)) → named_from 0 name columns ≡ o →
        ((more : List ℕ) → others ≡ Some more → All (λ place. place < length (kinds_of columns)) more) →
        option_and_then (λ (c : ℕ × Kind). option_map (λ places. c.0 ∷ places) others) o ≡ Some places → All (λ place. place < length (kinds_of columns)) places
    by_parts None others is within f = cc
    by_parts (Some c) None is within f = cc
    by_parts (Some c) (Some more) is within f =
        let same : c.0 ∷ more ≡ places = cc in
        let there = is_there 0 name columns c is in
        let place : c.0 ≡ there.0 = there.1.0 ∙ omega arith in
        subst (All (λ place. place < length (kinds_of columns))) same
        (all_more (λ place. place < length (kinds_of columns)) c.0 more (subst (λ p. p < length (kinds_of columns)) (sym place) there.1.1.0) (within more refl))

abbrev AreWithin : List Column → List ℕ × List ℕ → Type 0
AreWithin columns places = All (λ place. place < length (kinds_of columns)) places.0 × All (λ place. place < length (kinds_of columns)) places.1

chosen_within : (columns : List Column) (on include : List (List ℕ)) (places : List ℕ × List ℕ) → chosen columns on include ≡ Ok places → AreWithin columns places
chosen_within columns on include places e = by_count (nat_le (length on) most_on && nat_le (length include) most_included) e
  where
    by_places : (first others : Option (List ℕ)) → places_of columns on ≡ first → places_of columns include ≡ others →
        or_refused NoSuchColumn (option_and_then (λ (ps : List ℕ). option_map (λ (qs : List ℕ). (ps, qs)) others) first) ≡ Ok places → AreWithin columns places
    by_places None others is are f = cc
    by_places (Some ps) None is are f = cc
    by_places (Some ps) (Some qs) is are f =
        let same : (ps, qs) ≡ places = cc in
        subst (AreWithin columns) same (places_within columns on ps is, places_within columns include qs are)

    by_count : (b : Bool) → (if b then or_refused NoSuchColumn
        (option_and_then (λ first. option_map (λ others. (first, others)) (places_of columns include)) (places_of columns on)) else Err TooMany) ≡ Ok places
        → AreWithin columns places
    by_count true f = by_places (places_of columns on) (places_of columns include) refl refl f
    by_count false f = cc

-- a definition that is made by names suits rows of the columns' kinds
pub parts_suit : (columns schema : List Column) (on include : List (List ℕ)) (filter : Option Filter) (condition : Option Condition) (places : List ℕ × List ℕ) (keys : ℕ) →
    columns ≡ schema → keys ≤ length schema → both_read (condition_in columns filter) (chosen columns on include) ≡ Ok (condition, places) →
    SuitsKinds (record { on = places.0; include = places.1; condition = condition; keys = keys }) (kinds_of schema)
parts_suit columns schema on include filter condition places keys same few e = by_parts (condition_in columns filter) (chosen columns on include) refl refl e
  where
    by_parts : (a : Result (Option Condition) Refusal) (b : Result (List ℕ × List ℕ) Refusal) → condition_in columns filter ≡ a → chosen columns on include ≡ b →
        both_read a b ≡ Ok (condition, places) → SuitsKinds (record { on = places.0; include = places.1; condition = condition; keys = keys }) (kinds_of schema)
    by_parts (Ok one) (Ok other) is are f =
        let bound : keys ≤ length (kinds_of columns) = omega (arith, few, ap length same, length-map columns (λ (c : Column). c.kind)) in
        let both : (one, other) ≡ (condition, places) = cc in
        let fits = condition_fits columns filter condition (is ∙ ap (λ (z : Option Condition × (List ℕ × List ℕ)). Ok z.0) both) in
        let within = chosen_within columns on include places (are ∙ ap (λ (z : Option Condition × (List ℕ × List ℕ)). Ok z.1) both) in
        subst (λ cs. SuitsKinds (record { on = places.0; include = places.1; condition = condition; keys = keys }) (kinds_of cs)) same
        (record {
          within = record { on = within.0; include = within.1; condition = fits.0 };
          constant = fits.1;
          keys = bound;
        })
    by_parts (Ok one) (Err r) is are f = cc
    by_parts (Err r) (Ok other) is are f = cc
    by_parts (Err r) (Err s) is are f = cc

-- ---- faults

-- if one name is a column, the other names decide whether all are
pub one_there : (columns : List Column) (name : List ℕ) (names : List (List ℕ)) → is_none (named_from 0 name columns) ≡ false →
    is_some (places_of columns (name ∷ names)) ≡ is_some (places_of columns names)
one_there columns name names there = by_column (named_from 0 name columns) (places_of columns names) there
  where
    by_column : (o : Option (ℕ × Kind)) (others : Option (List ℕ)) → is_none o ≡ false → is_some (option_and_then (λ (c : ℕ × Kind). option_map (λ places. c.0 ∷ places) others) o) ≡ is_some others
    by_column None others e = cc
    by_column (Some c) None e = refl
    by_column (Some c) (Some places) e = refl

-- a fault of the second part, and the result together with the first part
pub both_faulty : {S T : Type 0} (first : Result S Refusal) (second : Result T Refusal) (fault result : Refusal) → Some fault ≡ result_err second →
    both_read {T = Unit {0}} first (Err fault) ≡ Err result → both_read first second ≡ Err result
both_faulty first (Ok y) fault result is e = cc
both_faulty (Ok x) (Err other) fault result is e =
    let same : fault ≡ other = cc in
    let answer : fault ≡ result = cc in
    ap Err (sym same ∙ answer)
both_faulty (Err r) (Err other) fault result is e =
    let same : fault ≡ other = cc in
    let answer : lower r fault ≡ result = cc in
    ap Err (ap (lower r) (sym same) ∙ answer)

pub stays_refused : {A : Type 0} (U : Type 0) (both : Result A Refusal) (refusal : Refusal) → both ≡ Err refusal → IfErr both (λ e. ◌≡◌ {A = Result U Refusal} (Err refusal) (Err e))
stays_refused U (Ok a) refusal is = cc
stays_refused U (Err e) refusal is = let same : refusal ≡ e = cc in ap Err same
