-- The refusals and the messages of concatenated lists of lines.
use Rattle.std.proofs.Common.{ℕ, List, [], ◌∷◌, ◌++◌, ◌+◌, ◌<◌, ◌≡◌, true, false, drop, length, get_or, take, refl, sym, ap, ◌∙◌, arith, Option, Some, None, unwrap_or, if◌then◌else◌}
use Rattle.std.proofs.lemmas.Bool.Decides.{nat_tests}
use Rattle.std.proofs.lemmas.List.{drop_more, length-take-le, take_more}
use Rattle.std.proofs.lemmas.Option.{none-some}
use Rattle.bt_batch.specs.Batches.{read_batch, read_message}
use Rattle.bt_value.specs.Refusals.{is_lower, lowest, lowest_from, lower}
use Rattle.bt_row.specs.Schemas.{Schema}
use Rattle.bt_rowtype.specs.declared.item.Item.{Item}
use Rattle.bt_value.specs.declared.refusal.Refusal.{Refusal}

-- ---- the lowest refusal of concatenated lists

pub lowest_from-append : (found : Option Refusal) (xs ys : List Refusal) → lowest_from found (xs ++ ys) ≡ lowest_from (lowest_from found xs) ys
lowest_from-append found [] ys = refl
lowest_from-append None (x ∷ xs) ys = lowest_from-append (Some x) xs ys
lowest_from-append (Some found) (x ∷ xs) ys = lowest_from-append (Some (lower found x)) xs ys

lower_chain : (a b c : Refusal) → is_lower b a ≡ true → is_lower c b ≡ true → is_lower c a ≡ true
lower_chain a b c p q = grind (arith, nat_tests)

not_lower_chain : (a b c : Refusal) → is_lower b a ≡ false → is_lower c b ≡ false → is_lower c a ≡ false
not_lower_chain a b c p q = grind (arith, nat_tests)

-- the least of three doesn't depend on which two are compared first
lower-assoc : (a b c : Refusal) → lower (lower a b) c ≡ lower a (lower b c)
lower-assoc a b c = elim (is_lower b a) as (λ p. is_lower b a ≡ p → lower (if p then b else a) c ≡ lower a (lower b c)) [
  | true ↦ λ p. elim (is_lower c b) as (λ q. is_lower c b ≡ q → (if q then c else b) ≡ lower a (if q then c else b)) [
    | true ↦ λ q. sym (ap (λ t. if t then c else a) (lower_chain a b c p q))
    | false ↦ λ q. sym (ap (λ t. if t then b else a) p)
  ] refl
  | false ↦ λ p. elim (is_lower c b) as (λ q. is_lower c b ≡ q → lower a c ≡ lower a (if q then c else b)) [
    | true ↦ λ q. refl
    | false ↦ λ q. ap (λ t. if t then c else a) (not_lower_chain a b c p q) ∙ sym (ap (λ t. if t then b else a) p)
  ] refl
] refl

unwrapped : (x y : Refusal) → Some x ≡ Some y → x ≡ y
unwrapped x y e = ap (λ o. unwrap_or o x) e

-- the least of others is compared in their place
compared : (a x r : Refusal) (xs : List Refusal) → lowest_from (Some x) xs ≡ Some r → lowest_from (Some (lower a x)) xs ≡ Some (lower a r)
compared a x r [] e = ap (λ z. Some (lower a z)) (unwrapped x r e)
compared a x r (y ∷ ys) e = ap (λ z. lowest_from (Some z) ys) (lower-assoc a x y) ∙ compared a (lower x y) r ys e

pub lowest_instead : (found : Option Refusal) (xs : List Refusal) (r : Refusal) → lowest xs ≡ Some r → lowest_from found xs ≡ lowest_from found (r ∷ [])
lowest_instead None xs r e = e
lowest_instead (Some a) [] r e = absurd (none-some r e)
lowest_instead (Some a) (x ∷ xs) r e = compared a x r xs e

still_found : (x : Refusal) (xs : List Refusal) → lowest_from (Some x) xs ≡ None → ⊥
still_found x [] e = none-some x (sym e)
still_found x (y ∷ ys) e = still_found (lower x y) ys e

-- if there is no least one, there is none
pub none_at_all : (xs : List Refusal) → lowest xs ≡ None → xs ≡ []
none_at_all [] e = refl
none_at_all (x ∷ xs) e = absurd (still_found x xs e)

-- ---- concatenated lines

pub read_batch-append : (schema : Schema) (item : ℕ) (lines more : List Item) → read_batch schema item (lines ++ more) ≡ read_batch schema item lines ++ read_batch schema (item + length lines) more
read_batch-append schema item [] more = ap (λ i. read_batch schema i more) (omega arith)
read_batch-append schema item (line ∷ lines) more =
    ap (λ reads. read_message schema item line ∷ reads)
    (read_batch-append schema (item + 1) lines more ∙ ap (λ i. read_batch schema (item + 1) lines ++ read_batch schema i more) (omega arith))

-- the lines from a place on are the one there, and those after it
pub read_next : (schema : Schema) (before place : ℕ) (lines : List Item) (d : Item) → place < length lines →
    read_batch schema (before + place + 1) (drop place lines) ≡ read_message schema (before + place + 1) (get_or lines place d) ∷ read_batch schema (before + (place + 1) + 1) (drop (place + 1) lines)
read_next schema before place lines d within =
    let item = before + place + 1 in
    let next : item + 1 ≡ before + (place + 1) + 1 = omega arith in
    ap (read_batch schema item) (drop_more lines place d within)
    ∙ ap (λ i. read_message schema item (get_or lines place d) ∷ read_batch schema i (drop (place + 1) lines)) next

-- the lines before the next place are those before this one, and the one there
pub read_taken : (schema : Schema) (before place : ℕ) (lines : List Item) (d : Item) → place < length lines →
    read_batch schema (before + 1) (take (place + 1) lines) ≡ read_batch schema (before + 1) (take place lines) ++ read_message schema (before + place + 1) (get_or lines place d) ∷ []
read_taken schema before place lines d within =
    let item : before + 1 + length (take place lines) ≡ before + place + 1 = omega (arith, within, length-take-le place lines (omega (arith, within))) in
    ap (read_batch schema (before + 1)) (take_more lines place d within)
    ∙ read_batch-append schema (before + 1) (take place lines) (get_or lines place d ∷ [])
    ∙ ap (λ i. read_batch schema (before + 1) (take place lines) ++ read_message schema i (get_or lines place d) ∷ []) item
