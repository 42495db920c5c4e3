-- The first fields of a record, at most one more than there are columns. They decide whether it is a row or the header.
use Rattle.std.proofs.Common.{ℕ, Bool, List, ◌≡◌, ◌≢◌, ◌+◌, ◌<◌, ◌≤◌, ◌⊎◌, refl, ap, arith, inl, inr, length, length-take, nat_le, take}
use Rattle.std.proofs.lemmas.Bool.{cases_Bool, ne_eqb}
use Rattle.std.proofs.lemmas.Bool.Decides.{nat_tests}
use Rattle.std.proofs.lemmas.List.{take_all}
use Rattle.bt_row.specs.Schemas.{read_as}
use Rattle.bt_row.specs.declared.rows.schema.Column.{Column}

-- a list and its first items are the same, or neither has this many items
same_or_longer : (n : ℕ) (l : List (List ℕ)) → (take (n + 1) l ≡ l) ⊎ ((length (take (n + 1) l) ≢ n) × (length l ≢ n))
same_or_longer n l = elim (cases_Bool (nat_le (length l) (n + 1))) [
  | inl few ↦
      let all : length l ≤ n + 1 = grind (arith, nat_tests) in
      inl (take_all (n + 1) l all)
  | inr many ↦
      let more : n + 1 < length l = grind (arith, nat_tests) in
      let cut = length-take (n + 1) l in
      inr (λ e. omega (arith, e, more, cut), λ e. omega (arith, e, more))
]

pub first_fields : (columns : List Column) (item : ℕ) (fields : List (List ℕ)) → read_as columns item (take (length columns + 1) fields) ≡ read_as columns item fields
first_fields columns item fields = elim (same_or_longer (length columns) fields) [
  | inl same ↦ ap (read_as columns item) same
  | inr other ↦ rw (ne_eqb _ _ other.0, ne_eqb _ _ other.1) refl
]
