-- The rows that a step of building reads are those between the cover before it and the cover after it.
use Rattle.std.proofs.Common.{◌≡◌, ℕ, zero, suc, ◌<◌, ◌&&◌, Bool, true, false, cond, not, T, List, [], ◌∷◌, filter, length, refl, sym, ap, ◌∙◌, arith, take, if◌then◌else◌}
use Rattle.std.specs.Prelude.{nat_lt}
use Rattle.std.specs.FinMap.Entries.{below_all, is_sorted, is_sorted-where_key}
use Rattle.std.proofs.lemmas.Bool.Decides.{nat_tests}
use Rattle.bt_keycode.specs.Keys.{is_before, key_cmp}
use Rattle.bt_keycode.proofs.offered.Order.{not_after, not_before_itself}
use Rattle.bt_keycode.proofs.offered.Truths.{t_first, t_second, true_t}
use Rattle.bt_message.specs.Effects.{Rows}
use Rattle.bt_fanout.specs.Covers.{cover_after, is_covered, last_key, moved_to, next_rows, uncovered}
use Rattle.bt_fanout.specs.declared.cover.Cover.{Cover}
use Rattle.bt_fanout.specs.declared.cover.Cover.TheVariants.{Nothing, UpTo, Whole}
use Rattle.bt_fanout.specs.inside.Readings.{adds_nothing, rows_between}
use Rattle.bt_fanout.proofs.Builds.{AllOut, below_take, last_later, out_covered, short}
use Rattle.bt_fanout.proofs.offered.Suiting.{all_covered, none_covered}

filter_both : {X : Type 0} (p q : X → Bool) (xs : List X) → filter (λ x. p x && q x) xs ≡ filter q (filter p xs)
filter_both p q [] = refl
filter_both p q (x ∷ xs) = elim (p x) as (λ b. cond (b && q x) (x ∷ filter (λ x. p x && q x) xs) (filter (λ x. p x && q x) xs) ≡ filter q (cond b (x ∷ filter p xs) (filter p xs))) [
  | true ↦ ap (λ zs. cond (q x) (x ∷ zs) zs) (filter_both p q xs)
  | false ↦ filter_both p q xs
]

module _ {X : Type 0} where
  up_to : List ℕ → List ℕ × X → Bool
  up_to last r = not (is_before last r.0)

  none_later : (k : List ℕ) (rows : Rows X) → T (below_all key_cmp k rows) → filter (λ r. not (is_before k r.0)) rows ≡ []
  none_later k [] h = refl
  none_later k (r ∷ rows) h =
      let before : is_before k r.0 ≡ true = true_t _ (t_first _ _ h) in
      ap (λ b. cond (not b) (r ∷ filter (λ s. not (is_before k s.0)) rows) (filter (λ s. not (is_before k s.0)) rows)) before ∙ none_later k rows (t_second _ _ h)

  kept : (k : List ℕ) (u : List ℕ × X) (us zs : Rows X) → is_before k u.0 ≡ false → filter (λ r. not (is_before k r.0)) us ≡ zs → filter (λ r. not (is_before k r.0)) (u ∷ us) ≡ u ∷ zs
  kept k u us zs b others =
      ap (λ t. cond (not t) (u ∷ filter (λ r. not (is_before k r.0)) us) (filter (λ r. not (is_before k r.0)) us)) b ∙ ap (λ (rs : Rows X). u ∷ rs) others

  -- the first rows are those up to the last key among them
  front_kept : (m : ℕ) (u : List ℕ × X) (us : Rows X) → T (is_sorted key_cmp (u ∷ us)) → filter (λ r. not (is_before (last_key u.0 (take m us)) r.0)) (u ∷ us) ≡ u ∷ take m us
  front_kept zero u us h = kept u.0 u us [] (not_before_itself u.0) (none_later u.0 us (t_first _ _ h))
  front_kept (suc m) u [] h = kept u.0 u [] [] (not_before_itself u.0) refl
  front_kept (suc m) u (v ∷ vs) h =
      let all : T (below_all key_cmp u.0 (v ∷ vs)) = t_first _ _ h in
      let less = last_later u.0 v.0 (take m vs) (true_t _ (t_first _ _ all)) (below_take u.0 m vs (t_second _ _ all)) in
      kept (last_key v.0 (take m vs)) u (v ∷ vs) (v ∷ take m vs) (not_after u.0 (last_key v.0 (take m vs)) less) (front_kept m v vs (t_second _ _ h))

  none_in : (cover : Cover) (rows : Rows X) → AllOut cover rows → filter (λ r. is_covered cover r.0) rows ≡ []
  none_in cover [] h = refl
  none_in cover (r ∷ rows) h =
      ap (λ b. cond b (r ∷ filter (λ s. is_covered cover s.0) rows) (filter (λ s. is_covered cover s.0) rows)) h.0 ∙ none_in cover rows h.1

  moved : (n : ℕ) (cover : Cover) (rows : Rows X) → AllOut cover rows → T (is_sorted key_cmp rows) → filter (λ r. is_covered (moved_to cover (take n rows)) r.0) rows ≡ take n rows
  moved zero cover rows out h = none_in cover rows out
  moved (suc n) cover [] out h = refl
  moved (suc n) cover (u ∷ us) out h = front_kept n u us h

  pub between_next : (n : ℕ) (cover : Cover) (rows : Rows X) → T (is_sorted key_cmp rows) → rows_between cover (cover_after n cover rows) rows ≡ next_rows n cover rows
  between_next n cover rows sorted =
      let left = uncovered cover rows in
      filter_both (λ (r : List ℕ × X). not (is_covered cover r.0)) (λ r. is_covered (cover_after n cover rows) r.0) rows
      ∙ elim (nat_lt (length (take n left)) n) as (λ b. nat_lt (length (take n left)) n ≡ b → filter (λ r. is_covered (if b then Whole else moved_to cover (take n left)) r.0) left ≡ take n left) [
        | true ↦ λ b. let fewer : length (take n left) < n = grind (arith, nat_tests, b) in all_covered left ∙ sym (short n left fewer)
        | false ↦ λ b. moved n cover left (out_covered cover rows) (is_sorted-where_key key_cmp (λ k. not (is_covered cover k)) rows sorted)
      ] refl

  out_of : (p : List ℕ → Bool) (rows : Rows X) → filter (λ r. p r.0 && false) rows ≡ []
  out_of p [] = refl
  out_of p (r ∷ rows) = elim (p r.0) as (λ b. cond (b && false) (r ∷ filter (λ s. p s.0 && false) rows) (filter (λ s. p s.0 && false) rows) ≡ []) [
    | true ↦ out_of p rows
    | false ↦ out_of p rows
  ]

  pub none_added : (earlier later : Cover) (rows : Rows X) → adds_nothing earlier later ≡ true → rows_between earlier later rows ≡ []
  none_added Nothing Nothing rows h = out_of (λ k. true) rows
  none_added Nothing (UpTo last) rows h = cc
  none_added Nothing Whole rows h = cc
  none_added (UpTo last) Nothing rows h = out_of (λ k. not (is_covered (UpTo last) k)) rows
  none_added (UpTo last) (UpTo later) rows h = cc
  none_added (UpTo last) Whole rows h = cc
  none_added Whole later rows h = none_covered rows
