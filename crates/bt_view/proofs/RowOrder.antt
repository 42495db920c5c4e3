-- The groups of the rows of a range come one after the other. Serves grouped sums.
use Rattle.std.proofs.Common.{◌≡◌, ◌∙◌, ◌≤◌, ℕ, zero, suc, arith, Bool, true, false, T, List, [], ◌∷◌, ◌⊎◌, inl, inr, refl, sym, ap, subst, cond, map, take}
use Rattle.std.specs.FinMap.Entries.{below_all}
use Rattle.std.specs.Ordering.{is_eq, is_lt, ordering_then}
use Rattle.std.specs.declared.cmp.Ordering.{Ordering}
use Rattle.std.specs.declared.cmp.Ordering.TheVariants.{Less, Equal, Greater}
use Rattle.bt_row.specs.Schemas.{Schema}
use Rattle.bt_value.specs.Values.{AreInRange, value_cmp, values_cmp}
use Rattle.bt_value.specs.declared.value.Kind.{Kind}
use Rattle.bt_value.specs.declared.value.Value.{Value}
use Rattle.bt_keycode.specs.Codes.{HaveSameKinds, code_of}
use Rattle.bt_keycode.specs.Keys.{Key, is_before, is_between}
use Rattle.bt_keycode.proofs.offered.Codes.{codes_ordered}
use Rattle.bt_keycode.proofs.offered.Order.{not_after, not_before_itself, same_key}
use Rattle.bt_keycode.proofs.offered.Ranges.{take_in_range}
use Rattle.bt_form.specs.Messages.{Rows, between}
use Rattle.bt_keycode.proofs.offered.Truths.{t_first, t_second}
use Rattle.bt_table.specs.Standing.{AllStand, KeysRise, Stands}
use Rattle.bt_table.proofs.offered.Kinds.{key_kinds}
use Rattle.bt_show.specs.inside.Neighbours.{Ascend, IsOfKinds, NoneBefore}
use Rattle.bt_view.specs.Ranges.{rows_within}
use Rattle.bt_show.specs.declared.range.KeyRange.{KeyRange}

-- ---- the order of first values

abbrev NotBehind : Ordering → Type 0
NotBehind o = (o ≡ Less) ⊎ (o ≡ Equal)

-- if a list of values comes before another one, its first values do not come after those of the other
firsts : (n : ℕ) (vs ws : List Value) → T (is_lt (values_cmp vs ws)) → NotBehind (values_cmp (take n vs) (take n ws))
firsts zero vs ws before = inr refl
firsts (suc n) [] [] before = absurd before
firsts (suc n) [] (w ∷ ws) before = inl refl
firsts (suc n) (v ∷ vs) [] before = absurd before
firsts (suc n) (v ∷ vs) (w ∷ ws) before = by_first (value_cmp v w) before (firsts n vs ws)
  where
    by_first : (o : Ordering) → T (is_lt (ordering_then o (values_cmp vs ws))) → (T (is_lt (values_cmp vs ws)) → NotBehind (values_cmp (take n vs) (take n ws)))
        → NotBehind (ordering_then o (values_cmp (take n vs) (take n ws)))
    by_first Less before others = inl refl
    by_first Equal before others = others before
    by_first Greater before others = absurd before

-- the code of the other ones does not come before theirs
not_before : (left right : List Value) → HaveSameKinds left right → AreInRange left → AreInRange right → NotBehind (values_cmp left right) → is_before (code_of right) (code_of left) ≡ false
not_before left right kinds f g order =
    let codes = codes_ordered left right kinds f g in
    elim order [
      | inl less ↦ not_after (code_of left) (code_of right) (ap is_lt (codes ∙ less))
      | inr equal ↦ subst (λ k. is_before k (code_of left) ≡ false) (same_key (code_of left) (code_of right) (ap is_eq (codes ∙ equal))) (not_before_itself (code_of left))
    ]

-- ---- the rows of a table

take_fewer : (n keys : ℕ) (row : List Value) → n ≤ keys → take n (take keys row) ≡ take n row
take_fewer zero keys row few = refl
take_fewer (suc n) zero row few = absurd (omega (arith, few))
take_fewer (suc n) (suc keys) [] few = refl
take_fewer (suc n) (suc keys) (v ∷ vs) few = ap (λ vs. v ∷ vs) (take_fewer n keys vs (omega (arith, few)))

module _ (schema : Schema) (columns : ℕ) (few : columns ≤ schema.keys) (range : KeyRange) where
  abbrev kinds : List Kind
  kinds = map (λ c. c.kind) (take columns schema.columns)

  of_kinds : (key : Key) (row : List Value) → Stands schema key row → IsOfKinds columns kinds row
  of_kinds key row stands = record { of_kinds = key_kinds columns schema.columns row stands.fits; in_range = take_in_range columns row stands.in_range }

  abbrev keyed : Rows (List Value) → List (List Value × List Value)
  keyed rows = map (λ row. (take schema.keys row.1, row.1)) rows

  none_before : (key : Key) (row : List Value) (rows : Rows (List Value)) → Stands schema key row → AllStand schema rows → T (below_all values_cmp (take schema.keys row) (keyed rows))
      → NoneBefore columns (code_of (take columns row)) (rows_within range rows)
  none_before key row [] stands all below = tt
  none_before key row (other ∷ rows) stands all below = by_test (is_between range.from range.to other.0) (none_before key row rows stands all.1 (t_second _ _ below))
    where
      left : IsOfKinds columns kinds row
      left = of_kinds key row stands

      right : IsOfKinds columns kinds other.1
      right = of_kinds other.0 other.1 all.0

      order : NotBehind (values_cmp (take columns row) (take columns other.1))
      order =
          subst NotBehind (λ i. values_cmp (take_fewer columns schema.keys row few i) (take_fewer columns schema.keys other.1 few i))
          (firsts columns (take schema.keys row) (take schema.keys other.1) (t_first _ _ below))

      by_test : (b : Bool) → NoneBefore columns (code_of (take columns row)) (rows_within range rows)
          → NoneBefore columns (code_of (take columns row))
          (map (λ r. r.1) (cond b (other ∷ between range.from range.to rows) (between range.from range.to rows)))
      by_test true more = (not_before (take columns row) (take columns other.1) (left.of_kinds ∙ sym right.of_kinds) left.in_range right.in_range order, more)
      by_test false more = more

  pub ascend : (rows : Rows (List Value)) → AllStand schema rows → KeysRise schema rows → Ascend columns kinds (rows_within range rows)
  ascend [] all rise = tt
  ascend (row ∷ rows) all rise = by_test (is_between range.from range.to row.0) (ascend rows all.1 (t_second _ _ rise))
    where
      by_test : (b : Bool) → Ascend columns kinds (rows_within range rows) → Ascend columns kinds (map (λ r. r.1) (cond b (row ∷ between range.from range.to rows) (between range.from range.to rows)))
      by_test true more = (of_kinds row.0 row.1 all.0, none_before row.0 row.1 rows all.0 all.1 (t_first _ _ rise), more)
      by_test false more = more
