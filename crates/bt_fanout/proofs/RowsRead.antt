-- The rows that a step of building reads: their entries, how many they are, and the cover after them.
use Rattle.std.proofs.Common.{◌≡◌, ℕ, suc, ◌-◌, ◌<◌, ◌≤◌, ◌==◌, ◌&&◌, Bool, true, false, not, List, [], ◌∷◌, ◌++◌}
use Rattle.std.proofs.Common.{fold, length, refl, ap, ◌∙◌, Option, Some, None, if◌then◌else◌, arith}
use Rattle.std.specs.Prelude.{nat_lt}
use Rattle.std.specs.List.{All, list_all}
use Rattle.std.proofs.lemmas.Bool.Decides.{nat_tests}
use Rattle.std.proofs.lemmas.List.{length-take}
use Rattle.std.proofs.lemmas.List.Elements.{All-head, All-tail, All-weaker, All-filter, All-take}
use Rattle.std.proofs.lemmas.List.Sums.{AllPass-from_list_all, list_all-from_AllPass}
use Rattle.bt_value.specs.declared.value.Value.{Value}
use Rattle.bt_message.specs.Effects.{Rows}
use Rattle.bt_message.specs.Messages.{Messages}
use Rattle.bt_fanout.specs.Covers.{cover_after, is_covered, last_key, next_cover, next_rows, put_of_entry, puts_of, uncovered}
use Rattle.bt_fanout.specs.Effects.{EntryMessage}
use Rattle.bt_fanout.specs.Entries.{Definition, HasPlace, IsWithin, entry_of, has_place, is_within}
use Rattle.bt_fanout.specs.inside.Portions.{Puts, puts_after_row, puts_are}
use Rattle.bt_fanout.specs.inside.Readings.{RowsRead, after_row, moved_by, moved_cover, none_read, read_row}
use Rattle.bt_fanout.specs.inside.RowEntries.{entry_within}
use Rattle.bt_fanout.specs.declared.cover.Cover.{Cover}
use Rattle.bt_fanout.specs.declared.cover.Cover.TheVariants.{UpTo, Whole}
use Rattle.bt_fanout.specs.declared.definition.Condition.{Condition}

-- ---- rows that have all places of a definition

test_below : (place columns : ℕ) → place < columns → nat_lt place columns ≡ true
test_below place columns h = grind (arith, nat_tests)

below_test : (place columns : ℕ) → nat_lt place columns ≡ true → place < columns
below_test place columns h = grind (arith, nat_tests)

test_all : (places : List ℕ) (columns : ℕ) → All (λ place. place < columns) places → list_all (λ place. nat_lt place columns) places ≡ true
test_all places columns h =
    list_all-from_AllPass (λ place. nat_lt place columns) places (All-weaker (λ place. place < columns) (λ place. nat_lt place columns ≡ true) (λ place. test_below place columns) places h)

all_test : (places : List ℕ) (columns : ℕ) → list_all (λ place. nat_lt place columns) places ≡ true → All (λ place. place < columns) places
all_test places columns h =
    All-weaker (λ place. nat_lt place columns ≡ true) (λ place. place < columns) (λ place. below_test place columns) places (AllPass-from_list_all (λ place. nat_lt place columns) places h)

test_place : (condition : Option Condition) (columns : ℕ) → HasPlace condition columns → has_place condition columns ≡ true
test_place None columns h = refl
test_place (Some condition) columns h = test_below condition.place columns h

place_test : (condition : Option Condition) (columns : ℕ) → has_place condition columns ≡ true → HasPlace condition columns
place_test None columns h = tt
place_test (Some condition) columns h = below_test condition.place columns h

three : (a b c : Bool) → a ≡ true → b ≡ true → c ≡ true → (a && b && c) ≡ true
three a b c p q r = λ i. p i && q i && r i

of_three : (a b c : Bool) → (a && b && c) ≡ true → (a ≡ true) × (b ≡ true) × (c ≡ true)
of_three true true c h = (refl, refl, h)
of_three true false c h = cc
of_three false b c h = cc

module _ (def : Definition) (columns : ℕ) where
  abbrev on : Bool
  on = list_all (λ place. nat_lt place columns) def.on

  abbrev include : Bool
  include = list_all (λ place. nat_lt place columns) def.include

  -- the test of `IsWithin`
  pub within_true : IsWithin def columns → is_within def columns ≡ true
  within_true h = three on include (has_place def.condition columns) (test_all def.on columns h.on) (test_all def.include columns h.include) (test_place def.condition columns h.condition)

  pub within_tested : is_within def columns ≡ true → IsWithin def columns
  within_tested h =
      let tested = of_three on include (has_place def.condition columns) h in
      record { on = all_test def.on columns tested.0; include = all_test def.include columns tested.1; condition = place_test def.condition columns tested.2 }

-- ---- the messages of the entries

module _ (def : Definition) where
  abbrev pub HasPlaces : List ℕ × List Value → Type 0
  HasPlaces row = IsWithin def (length row.1)

  puts_within : (rows : Rows (List Value)) → All HasPlaces rows → puts_of {D = List Value} (entry_within def) rows ≡ puts_of (entry_of def) rows
  puts_within [] within = refl
  puts_within (r ∷ rows) within =
      ap (λ (ms : Messages EntryMessage). put_of_entry (entry_within def r.0 r.1) ++ ms) (puts_within rows (All-tail HasPlaces r rows within))
      ∙ ap (λ b. put_of_entry (if b then entry_of def r.0 r.1 else None) ++ puts_of (entry_of def) rows) (within_true def (length r.1) (All-head HasPlaces r rows within))

  -- of rows that are read one by one
  pub messages_read : (rows : Rows (List Value)) → All HasPlaces rows → (fold puts_after_row (def, []) rows).1 ≡ puts_of (entry_of def) rows
  messages_read rows within = ap (λ (p : Puts). p.1) (puts_are (def, []) rows) ∙ puts_within rows within

  pub next_within : (count : ℕ) (cover : Cover) (rows : Rows (List Value)) → All HasPlaces rows → All HasPlaces (next_rows count cover rows)
  next_within count cover rows within = All-take HasPlaces count (uncovered cover rows) (All-filter (λ row. not (is_covered cover row.0)) HasPlaces rows within)

-- ---- how many rows are left, and the last one

left_read : (read : RowsRead) (rows : Rows (List Value)) → (fold after_row read rows).left ≡ read.left - length rows
left_read read [] = omega arith
left_read read (r ∷ rows) = left_read (after_row read r) rows ∙ omega arith

last_read : (read : RowsRead) (r : List ℕ × List Value) (rows : Rows (List Value)) → read.left ≡ suc (length rows) → (fold after_row read (r ∷ rows)).last ≡ Some (last_key r.0 rows)
last_read read r [] h = ap (λ n. if n == 1 then Some r.0 else read.last) h
last_read read r (s ∷ rows) h = last_read (after_row read r) s rows (omega (arith, h))

-- the cover after rows
cover_read : (count : ℕ) (cover : Cover) (rows : Rows (List Value)) → length rows ≤ count → moved_cover cover (fold after_row (none_read count) rows) ≡ next_cover count cover rows
cover_read count cover [] h = refl
cover_read count cover (r ∷ rows) h =
    let read = fold after_row (none_read count) (r ∷ rows) in
    let left : read.left ≡ count - suc (length rows) = left_read (none_read count) (r ∷ rows) in
    elim (nat_lt (suc (length rows)) count) as (λ b. nat_lt (suc (length rows)) count ≡ b → moved_cover cover read ≡ (if b then Whole else UpTo (last_key r.0 rows))) [
      | true ↦ λ b. let more : nat_lt 0 read.left ≡ true = grind (arith, nat_tests, b, left) in ap (λ t. if t then Whole else moved_by cover read.last) more
      | false ↦ λ b.
          let none : nat_lt 0 read.left ≡ false = grind (arith, nat_tests, b, left) in
          let all : count ≡ suc (length rows) = grind (arith, nat_tests, b, h) in
          ap (λ t. if t then Whole else moved_by cover read.last) none ∙ ap (moved_by cover) (last_read (none_read count) r rows all)
    ] refl

module _ (count : ℕ) (cover : Cover) (rows : Rows (List Value)) (read : RowsRead) (is : read ≡ fold after_row (none_read count) (next_rows count cover rows)) where
  few : length (next_rows count cover rows) ≤ count
  few = omega (arith, length-take count (uncovered cover rows))

  left : read.left ≡ count - length (next_rows count cover rows)
  left = ap (λ (r : RowsRead). r.left) is ∙ left_read (none_read count) (next_rows count cover rows)

  pub left-within : read.left ≤ count
  left-within = omega (arith, left)

  pub count_is : count - read.left ≡ length (next_rows count cover rows)
  count_is = omega (arith, left, few)

  pub cover_is : moved_cover cover read ≡ cover_after count cover rows
  cover_is = ap (moved_cover cover) is ∙ cover_read count cover (next_rows count cover rows) few

-- ---- both in one pass

beside : (read : RowsRead) (puts : Puts) (rows : Rows (List Value)) → ◌≡◌ {A = RowsRead × Puts} (fold read_row (read, puts) rows) (fold after_row read rows, fold puts_after_row puts rows)
beside read puts [] = refl
beside read puts (r ∷ rows) = beside (after_row read r) (puts_after_row puts r) rows

module _ (def : Definition) (count : ℕ) (rows : Rows (List Value)) (begun : RowsRead) (none : Puts) (begins : begun ≡ none_read count) (is_none : ◌≡◌ {A = Puts} none (def, []))
    (read : RowsRead) (puts : Puts) (is : ◌≡◌ {A = RowsRead × Puts} (read, puts) (fold read_row (begun, none) rows)) where
  pub counted : read ≡ fold after_row (none_read count) rows
  counted = ap (λ (both : RowsRead × Puts). both.0) (is ∙ beside begun none rows) ∙ ap (λ (r : RowsRead). fold after_row r rows) begins

  pub put_beside : ◌≡◌ {A = Puts} puts (fold puts_after_row (def, []) rows)
  put_beside = ap (λ (both : RowsRead × Puts). both.1) (is ∙ beside begun none rows) ∙ ap (λ (p : Puts). fold puts_after_row p rows) is_none
