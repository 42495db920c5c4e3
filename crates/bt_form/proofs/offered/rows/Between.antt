-- Rows between two bounds: the rows after messages there depend only on the messages and the rows between the bounds.
use Rattle.std.proofs.Common.{◌≡◌, Bool, Bor, true, false, cond, not, ◌&&◌, T, [], ◌∷◌, ◌++◌, refl, sym, ap, subst, ◌∙◌, true≢false}
use Rattle.std.specs.Ordering.{eq_by_cmp}
use Rattle.std.specs.Option.{option_copied}
use Rattle.std.specs.Prelude.{MatchOption}
use Rattle.std.specs.FinMap.{find, is_sorted, nat_cmp-IsAntisymmetric, slice_cmp-IsAntisymmetric}
use Rattle.std.specs.FinMap.Entries.{below_all, find-where_key, is_sorted-where_key, same_entries}
use Rattle.std.specs.declared.option.Option.{Option}
use Rattle.std.specs.declared.option.Option.TheVariants.{None, Some}
use Rattle.bt_keycode.specs.Keys.{Key, key_cmp, is_before, is_before_lower, is_before_upper, is_between, AllWithin, AllFrom, IsSorted}
use Rattle.bt_form.specs.Messages.{Rows, Messages, between, from as from_key, rows_after, value_after}
use Rattle.bt_keycode.proofs.offered.Order.{before_chain, from_earlier, later_chain, not_after, same_key, total_keys}
use Rattle.bt_form.proofs.offered.rows.RowsAfter.{rows_after-sorted}
use Rattle.bt_keycode.proofs.offered.Truths.{t_first, t_second, true_t}
use Rattle.bt_form.proofs.offered.rows.Values.{find-rows}

pub outside_upper : (b : Bool) → b && false ≡ false
outside_upper true = refl
outside_upper false = refl

module _ {V : Type 0} where
  -- without bounds, these are all rows
  pub between-all : (rs : Rows V) → between None None rs ≡ rs
  between-all [] = refl
  between-all (r ∷ rs) = ap (λ zs. r ∷ zs) (between-all rs)

  pub between-sorted : (from to : Option Key) (rs : Rows V) → T (is_sorted key_cmp rs) → T (is_sorted key_cmp (between from to rs))
  between-sorted from to rs s = is_sorted-where_key key_cmp (is_between from to) rs s

  dropped : (from to : Option Key) (r : Key × V) (rs : Rows V) → is_between from to r.0 ≡ false → between from to (r ∷ rs) ≡ between from to rs
  dropped from to r rs e = ap (λ b. cond b (r ∷ between from to rs) (between from to rs)) e

  -- no row is past the upper bound
  pub none-over : (t k : Key) (from high : Option Key) (rs : Rows V) → is_before k t ≡ false → AllWithin (Some k) high rs → between from (Some t) rs ≡ []
  none-over t k from high [] e w = refl
  none-over t k from high (r ∷ rs) e w =
      dropped from (Some t) r rs (ap (λ b. not (is_before_lower from r.0) && b) (later_chain t k r.0 e w.0.from) ∙ outside_upper _) ∙ none-over t k from high rs e w.1

  find-between : (q : Key) (from to : Option Key) (rs : Rows V) → find key_cmp q (between from to rs) ≡ cond (is_between from to q) (find key_cmp q rs) None
  find-between q from to rs =
      find-where_key key_cmp (is_between from to) q (λ x t. ap (is_between from to) (sym (slice_cmp-IsAntisymmetric nat_cmp-IsAntisymmetric q x t))) rs

  all_from : (k : Key) (rs : Rows V) → T (below_all key_cmp k rs) → AllFrom k rs
  all_from k [] h = tt
  all_from k (r ∷ rs) h = (not_after k r.0 (true_t _ (t_first _ _ h)), all_from k rs (t_second _ _ h))

  pub in_order : (rs : Rows V) → T (is_sorted key_cmp rs) → IsSorted rs
  in_order [] h = tt
  in_order (r ∷ rs) h = (all_from r.0 rs (t_first _ _ h), in_order rs (t_second _ _ h))

  -- rows are sorted as entries are
  pub rows-in_order : (rs same : Rows V) → same ≡ rs → is_sorted key_cmp rs ≡ true → IsSorted same
  rows-in_order rs same is h = subst IsSorted (sym is) (in_order rs (subst T (sym h) tt))

  pub part-sorted : (from to : Option Key) (rs part : Rows V) → is_sorted key_cmp rs ≡ true → part ≡ between from to rs → is_sorted key_cmp part ≡ true
  part-sorted from to rs part h is = ap (is_sorted key_cmp) is ∙ true_t _ (between-sorted from to rs (subst T (sym h) tt))

module _ {V M : Type 0} (effect : Option V → M → Option V) (from to : Option Key) where
  -- at a key between the bounds, the messages between them do what all do
  pub value-inside : (q : Key) (ms : Messages M) (o : Option V) → is_between from to q ≡ true → value_after effect q (between from to ms) o ≡ value_after effect q ms o
  value-inside q [] o e = refl
  value-inside q (m ∷ ms) o e = elim (is_between from to m.0) as (λ b. is_between from to m.0 ≡ b →
      value_after effect q (cond b (m ∷ between from to ms) (between from to ms)) o ≡ value_after effect q ms (cond (eq_by_cmp key_cmp q m.0) (effect o m.1) o)) [
        | true ↦ λ t. value-inside q ms (cond (eq_by_cmp key_cmp q m.0) (effect o m.1) o) e
        | false ↦ λ t. value-inside q ms o e ∙ ap (λ b. value_after effect q ms (cond b (effect o m.1) o)) (sym (elsewhere t (eq_by_cmp key_cmp q m.0) refl))
      ] refl
    where
      elsewhere : is_between from to m.0 ≡ false → (b : Bool) → eq_by_cmp key_cmp q m.0 ≡ b → eq_by_cmp key_cmp q m.0 ≡ false
      elsewhere t true is = absurd (true≢false (sym e ∙ ap (is_between from to) (same_key q m.0 is) ∙ t))
      elsewhere t false is = is

  -- at a key outside the bounds, they do nothing
  value-beyond : (q : Key) (ms : Messages M) (o : Option V) → is_between from to q ≡ false → value_after effect q (between from to ms) o ≡ o
  value-beyond q [] o e = refl
  value-beyond q (m ∷ ms) o e = elim (is_between from to m.0) as (λ b. is_between from to m.0 ≡ b → value_after effect q (cond b (m ∷ between from to ms) (between from to ms)) o ≡ o) [
    | true ↦ λ t. ap (λ b. value_after effect q (between from to ms) (cond b (effect o m.1) o)) (elsewhere t (eq_by_cmp key_cmp q m.0) refl) ∙ value-beyond q ms o e
    | false ↦ λ t. value-beyond q ms o e
  ] refl
    where
      elsewhere : is_between from to m.0 ≡ true → (b : Bool) → eq_by_cmp key_cmp q m.0 ≡ b → eq_by_cmp key_cmp q m.0 ≡ false
      elsewhere t true is = absurd (true≢false (sym t ∙ ap (is_between from to) (sym (same_key q m.0 is)) ∙ e))
      elsewhere t false is = is

  value-between : (q : Key) (ms : Messages M) (o : Option V) →
      value_after effect q (between from to ms) (cond (is_between from to q) o None) ≡ cond (is_between from to q) (value_after effect q ms o) None
  value-between q ms o = elim (is_between from to q) as (λ b. is_between from to q ≡ b →
      value_after effect q (between from to ms) (cond b o None) ≡ cond b (value_after effect q ms o) None) [
        | true ↦ λ e. value-inside q ms o e
        | false ↦ λ e. value-beyond q ms None e
      ] refl

  -- the rows between the bounds after the messages between them
  pub rows-between : (ms : Messages M) (rs : Rows V) → T (is_sorted key_cmp rs) → rows_after effect (between from to ms) (between from to rs) ≡ between from to (rows_after effect ms rs)
  rows-between ms rs s =
      same_entries key_cmp total_keys (slice_cmp-IsAntisymmetric nat_cmp-IsAntisymmetric) _ _
      (rows_after-sorted effect (between from to ms) (between from to rs) (between-sorted from to rs s))
      (between-sorted from to (rows_after effect ms rs) (rows_after-sorted effect ms rs s))
      (λ q.
      find-rows effect q (between from to ms) (between from to rs)
      ∙ ap (value_after effect q (between from to ms)) (find-between q from to rs)
      ∙ value-between q ms (find key_cmp q rs)
      ∙ ap (λ o. cond (is_between from to q) o None) (sym (find-rows effect q ms rs))
      ∙ sym (find-between q from to (rows_after effect ms rs)))

-- ---- bounds next to each other

and_first : (a b : Bool) → not a && b ≡ true → a ≡ false
and_first true b e = absurd (true≢false (sym e))
and_first false b e = refl

and_second : (a b : Bool) → not a && b ≡ true → b ≡ true
and_second true b e = absurd (true≢false (sym e))
and_second false b e = e

-- the two sides of a key between bounds
pub between_from : (low high : Option Key) (q : Key) → is_between low high q ≡ true → is_before_lower low q ≡ false
between_from low high q e = and_first (is_before_lower low q) (is_before_upper high q) e

pub between_below : (low high : Option Key) (q : Key) → is_between low high q ≡ true → is_before_upper high q ≡ true
between_below low high q e = and_second (is_before_lower low q) (is_before_upper high q) e

module _ {X : Type 0} where
  -- the rows between bounds are a part
  pub between-within : (low high : Option Key) (xs : Rows X) → AllWithin low high (between low high xs)
  between-within low high [] = tt
  between-within low high (x ∷ xs) = elim (is_between low high x.0) as (λ b. is_between low high x.0 ≡ b → AllWithin low high (cond b (x ∷ between low high xs) (between low high xs))) [
    | true ↦ λ e. (record { from = between_from low high x.0 e; below = between_below low high x.0 e }, between-within low high xs)
    | false ↦ λ e. between-within low high xs
  ] refl

  -- rows that all lie between the bounds are all of them
  pub all-between : (low high : Option Key) (xs : Rows X) → AllWithin low high xs → between low high xs ≡ xs
  all-between low high [] within = refl
  all-between low high (x ∷ xs) within =
      ap (λ b. cond (not b && is_before_upper high x.0) (x ∷ between low high xs) (between low high xs)) within.0.from
      ∙ ap (λ b. cond b (x ∷ between low high xs) (between low high xs)) within.0.below ∙ ap (λ zs. x ∷ zs) (all-between low high xs within.1)

  -- the rows below another bound, of rows that lie within the first ones
  pub cut-within : (low to high : Option Key) (xs : Rows X) → AllWithin low to xs → AllWithin low high (between None high xs)
  cut-within low to high [] within = tt
  cut-within low to high (x ∷ xs) within = elim (is_before_upper high x.0) as (λ b. is_before_upper high x.0 ≡ b → AllWithin low high (cond b (x ∷ between None high xs) (between None high xs))) [
    | true ↦ λ e. (record { from = within.0.from; below = e }, cut-within low to high xs within.1)
    | false ↦ λ e. cut-within low to high xs within.1
  ] refl

  -- and the others
  pub rest-within : (low to : Option Key) (p : Key) (xs : Rows X) → AllWithin low to xs → AllWithin (Some p) to (from_key p xs)
  rest-within low to p [] within = tt
  rest-within low to p (x ∷ xs) within = elim (is_before x.0 p) as (λ b. is_before x.0 p ≡ b → AllWithin (Some p) to (cond (not b) (x ∷ from_key p xs) (from_key p xs))) [
    | true ↦ λ e. rest-within low to p xs within.1
    | false ↦ λ e. (record { from = e; below = within.0.below }, rest-within low to p xs within.1)
  ] refl

pub later_from : (l : Option Key) (p q : Key) → is_before_lower l p ≡ false → is_before q p ≡ false → is_before_lower l q ≡ false
later_from None p q e f = refl
later_from (Some l) p q e f = later_chain l p q e f

pub earlier_below : (t : Option Key) (p q : Key) → is_before_upper t p ≡ true → is_before q p ≡ true → is_before_upper t q ≡ true
earlier_below None p q e f = refl
earlier_below (Some t) p q e f = before_chain q p t f e

pub same_upper : (a s t : Bool) → s ≡ true → t ≡ true → a && s ≡ a && t
same_upper a s t e f = ap (λ b. a && b) (e ∙ sym f)

module _ {V : Type 0} (low to : Option Key) (p : Key) (from_low : is_before_lower low p ≡ false) (below_to : is_before_upper to p ≡ true) where
  none_first : (rs : Rows V) → AllFrom p rs → between low (Some p) rs ≡ []
  none_first [] all = refl
  none_first (r ∷ rs) all =
      ap (λ b. cond (not (is_before_lower low r.0) && b) (r ∷ between low (Some p) rs) (between low (Some p) rs)) all.0
      ∙ ap (λ b. cond b (r ∷ between low (Some p) rs) (between low (Some p) rs)) (outside_upper (not (is_before_lower low r.0))) ∙ none_first rs all.1

  all_second : (rs : Rows V) → AllFrom p rs → between low to rs ≡ between (Some p) to rs
  all_second [] all = refl
  all_second (r ∷ rs) all =
      ap (λ b. cond (not b && is_before_upper to r.0) (r ∷ between low to rs) (between low to rs)) (later_from low p r.0 from_low all.0)
      ∙ ap (λ zs. cond (is_before_upper to r.0) (r ∷ zs) zs) (all_second rs all.1)
      ∙ sym (ap (λ b. cond (not b && is_before_upper to r.0) (r ∷ between (Some p) to rs) (between (Some p) to rs)) all.0)

  -- rows between two bounds are those up to a key between them, and those from it on
  pub split-between : (rs : Rows V) → IsSorted rs → between low to rs ≡ between low (Some p) rs ++ between (Some p) to rs
  split-between [] sorted = refl
  split-between (r ∷ rs) sorted = elim (is_before r.0 p) as (λ b. is_before r.0 p ≡ b → between low to (r ∷ rs) ≡ between low (Some p) (r ∷ rs) ++ between (Some p) to (r ∷ rs)) [
    | true ↦ λ e.
        let first = not (is_before_lower low r.0) in
        let others = split-between rs sorted.1 in
        let skipped : between (Some p) to (r ∷ rs) ≡ between (Some p) to rs = ap (λ b. cond (not b && is_before_upper to r.0) (r ∷ between (Some p) to rs) (between (Some p) to rs)) e in
        let kept : between low (Some p) (r ∷ rs) ≡ cond (first && is_before_upper to r.0) (r ∷ between low (Some p) rs) (between low (Some p) rs) =
        ap (λ b. cond b (r ∷ between low (Some p) rs) (between low (Some p) rs)) (same_upper first (is_before r.0 p) (is_before_upper to r.0) e (earlier_below to p r.0 below_to e)) in
        either (first && is_before_upper to r.0) r rs others ∙ sym (ap (λ zs. zs ++ between (Some p) to (r ∷ rs)) kept
        ∙ ap (λ zs. cond (first && is_before_upper to r.0) (r ∷ between low (Some p) rs) (between low (Some p) rs) ++ zs) skipped)
    | false ↦ λ e.
        let all : AllFrom p (r ∷ rs) = (e, from_earlier p r.0 rs e sorted.0) in
        all_second (r ∷ rs) all ∙ sym (ap (λ zs. zs ++ between (Some p) to (r ∷ rs)) (none_first (r ∷ rs) all))
  ] refl
    where
      either : (b : Bool) (r : Key × V) (rs : Rows V) → between low to rs ≡ between low (Some p) rs ++ between (Some p) to rs →
          cond b (r ∷ between low to rs) (between low to rs) ≡ cond b (r ∷ between low (Some p) rs) (between low (Some p) rs) ++ between (Some p) to rs
      either true r rs others = ap (λ zs. r ∷ zs) others
      either false r rs others = others

-- nothing lies between a bound and one that is not past it
none_past : (low : Key) (to : Option Key) (q : Key) → is_before_upper to low ≡ false → is_between (Some low) to q ≡ false
none_past low None q ends = absurd (true≢false ends)
none_past low (Some t) q ends = elim (is_before q low) as (λ b. is_before q low ≡ b → not b && is_before q t ≡ false) [
  | true ↦ λ e. refl
  | false ↦ λ e. later_chain t low q ends e
] refl

not_true : (b c : Bool) → b ≡ not c → b ≡ true → c ≡ false
not_true b true is e = absurd (true≢false (sym e ∙ is))
not_true b false is e = refl

pub empty_range : (from : Option (Bor Key)) (to : Option Key) (is_empty : Bool) → MatchOption from (is_empty ≡ false) (λ low. is_empty ≡ not (is_before_upper to low.now)) → is_empty ≡ true →
    (q : Key) → is_between (option_copied from) to q ≡ false
empty_range None to is_empty is e q = absurd (true≢false (sym e ∙ is))
empty_range (Some low) to is_empty is e q = none_past low.now to q (not_true is_empty (is_before_upper to low.now) is e)

pub none_between : {V : Type 0} (from to : Option Key) (rs : Rows V) → ((q : Key) → is_between from to q ≡ false) → between from to rs ≡ []
none_between from to [] none = refl
none_between from to (r ∷ rs) none = dropped from to r rs (none r.0) ∙ none_between from to rs none

-- rows that agree at all keys between two bounds
pub same-between : {V : Type 0} (from to : Option Key) (rs ss : Rows V) → T (is_sorted key_cmp rs) → T (is_sorted key_cmp ss) →
    ((q : Key) → is_between from to q ≡ true → find key_cmp q rs ≡ find key_cmp q ss) → between from to rs ≡ between from to ss
same-between from to rs ss r s alike =
    same_entries key_cmp total_keys (slice_cmp-IsAntisymmetric nat_cmp-IsAntisymmetric) _ _ (between-sorted from to rs r) (between-sorted from to ss s)
    (λ q. find-between q from to rs ∙ inside q (is_between from to q) refl ∙ sym (find-between q from to ss))
  where
    inside : (q : Key) (b : Bool) → is_between from to q ≡ b → cond (is_between from to q) (find key_cmp q rs) None ≡ cond (is_between from to q) (find key_cmp q ss) None
    inside q true e = ap (λ o. cond (is_between from to q) o None) (alike q e)
    inside q false e = ap (λ b. cond b (find key_cmp q rs) None) e ∙ sym (ap (λ b. cond b (find key_cmp q ss) None) e)
