-- A step of building sends the entries that the rows it reads add to the index.
use Rattle.std.proofs.Common.{◌≡◌, ℕ, zero, suc, ◌<◌, Bool, true, false, cond, not, T, List, [], ◌∷◌, ◌++◌, length, take}
use Rattle.std.proofs.Common.{refl, sym, ap, subst, ◌∙◌, Option, Some, None, is_some, if◌then◌else◌, true≢false, arith}
use Rattle.std.specs.Prelude.{nat_lt}
use borrow.Author.Tests.{ltb-true}
use Rattle.std.specs.Ordering.{eq_by_cmp}
use Rattle.std.specs.FinMap.{find}
use Rattle.std.specs.FinMap.Entries.{below_all, is_sorted, is_sorted-where_key}
use Rattle.bt_message.specs.Effects.{Rows, effect_of, rows_after}
use Rattle.bt_keycode.specs.Keys.{is_before, key_cmp}
use Rattle.bt_message.specs.Messages.{sorted_batch}
use Rattle.bt_keycode.proofs.offered.Order.{apart as apart_keys, before_chain, neither_before, not_after, not_before_itself, same_key}
use Rattle.bt_keycode.proofs.offered.Truths.{t_both, t_first, t_second, t_true, true_t}
use Rattle.bt_messages.proofs.offered.Rows.{rows_after-sorted_batch}
use Rattle.bt_fanout.specs.Covers.{cover_after, is_covered, last_key, moved_to, next_rows, put_of_entry, puts_of}
use Rattle.bt_fanout.specs.Selections.{AreApart, EachStands, between, covered, entry_changes, entry_in, keys_of, select}
use Rattle.bt_fanout.specs.declared.cover.Cover.{Cover}
use Rattle.bt_fanout.specs.declared.cover.Cover.TheVariants.{Nothing, UpTo, Whole}
use Rattle.bt_fanout.proofs.Batches.{find-covered, stand-covered}
use Rattle.bt_fanout.proofs.Lookups.{equal_itself, find_below, sorted-select}
use Rattle.bt_fanout.proofs.Owners.{owner}
use Rattle.bt_fanout.proofs.Sendings.{sends, turned}

module _ {X : Type 0} where
  below_less : (j k : List ℕ) (rows : Rows X) → is_before j k ≡ true → T (below_all key_cmp k rows) → T (below_all key_cmp j rows)
  below_less j k [] l h = tt
  below_less j k (r ∷ rows) l h = t_both _ _ (t_true _ (before_chain j k r.0 l (true_t _ (t_first _ _ h)))) (below_less j k rows l (t_second _ _ h))

  pub below_take : (k : List ℕ) (n : ℕ) (rows : Rows X) → T (below_all key_cmp k rows) → T (below_all key_cmp k (take n rows))
  below_take k zero rows h = tt
  below_take k (suc n) [] h = tt
  below_take k (suc n) (r ∷ rows) h = t_both _ _ (t_first _ _ h) (below_take k n rows (t_second _ _ h))

  sorted_take : (n : ℕ) (rows : Rows X) → T (is_sorted key_cmp rows) → T (is_sorted key_cmp (take n rows))
  sorted_take zero rows h = tt
  sorted_take (suc n) [] h = tt
  sorted_take (suc n) (r ∷ rows) h = t_both _ _ (below_take r.0 n rows (t_first _ _ h)) (sorted_take n rows (t_second _ _ h))

  pub last_later : (j k : List ℕ) (rows : Rows X) → is_before j k ≡ true → T (below_all key_cmp j rows) → is_before j (last_key k rows) ≡ true
  last_later j k [] l h = l
  last_later j k (r ∷ rows) l h = last_later j r.0 rows (true_t _ (t_first _ _ h)) (t_second _ _ h)

  -- looking a key up in the first row alone finds what all rows have, if the key is at most that row's, and nothing otherwise
  alone : (k : List ℕ) (u : List ℕ × X) (us : Rows X) → T (is_sorted key_cmp (u ∷ us)) → find key_cmp k (u ∷ []) ≡ cond (not (is_before u.0 k)) (find key_cmp k (u ∷ us)) None
  alone k u us h = elim (eq_by_cmp key_cmp k u.0) as (λ b. eq_by_cmp key_cmp k u.0 ≡ b → cond b (Some u.1) None ≡ cond (not (is_before u.0 k)) (cond b (Some u.1) (find key_cmp k us)) None) [
    | true ↦ λ b. sym (ap (λ t. cond (not t) (Some u.1) None) (ap (λ j. is_before u.0 j) (same_key k u.0 b) ∙ not_before_itself u.0))
    | false ↦ λ b. elim (is_before u.0 k) as (λ t. is_before u.0 k ≡ t → None ≡ cond (not t) (find key_cmp k us) None) [
      | true ↦ λ t. refl
      | false ↦ λ t. elim (is_before k u.0) as (λ s. is_before k u.0 ≡ s → None ≡ find key_cmp k us) [
        | true ↦ λ s. sym (find_below k us (below_less k u.0 us s (t_first _ _ h)))
        | false ↦ λ s. absurd (true≢false (sym (equal_itself k) ∙ ap (eq_by_cmp key_cmp k) (neither_before k u.0 s t) ∙ b))
      ] refl
    ] refl
  ] refl

  -- the first rows are those up to the last key among them
  front : (k : List ℕ) (n : ℕ) (u : List ℕ × X) (us : Rows X) → T (is_sorted key_cmp (u ∷ us)) →
      find key_cmp k (u ∷ take n us) ≡ cond (not (is_before (last_key u.0 (take n us)) k)) (find key_cmp k (u ∷ us)) None
  front k zero u us h = alone k u us h
  front k (suc n) u [] h = alone k u [] h
  front k (suc n) u (v ∷ vs) h = elim (eq_by_cmp key_cmp k u.0) as (λ b. eq_by_cmp key_cmp k u.0 ≡ b →
      cond b (Some u.1) (find key_cmp k (v ∷ take n vs)) ≡ cond (not (is_before (last_key v.0 (take n vs)) k)) (cond b (Some u.1) (find key_cmp k (v ∷ vs))) None) [
        | true ↦ λ b.
            let all : T (below_all key_cmp u.0 (v ∷ vs)) = t_first _ _ h in
            let less = last_later u.0 v.0 (take n vs) (true_t _ (t_first _ _ all)) (below_take u.0 n vs (t_second _ _ all)) in
            let no = ap (λ j. is_before (last_key v.0 (take n vs)) j) (same_key k u.0 b) ∙ not_after u.0 (last_key v.0 (take n vs)) less in
            sym (ap (λ t. cond (not t) (Some u.1) None) no)
        | false ↦ λ b. front k n v vs (t_second _ _ h)
      ] refl

  pub short : (n : ℕ) (rows : Rows X) → length (take n rows) < n → take n rows ≡ rows
  short zero rows h = absurd (omega arith)
  short (suc n) [] h = refl
  short (suc n) (r ∷ rows) h = ap (λ rs. r ∷ rs) (short n rows (omega arith))

  -- each row is found under its key
  abbrev EachFound : Rows X → Rows X → Type 0
  EachFound whole [] = Unit {0}
  EachFound whole (r ∷ rows) = (find key_cmp r.0 whole ≡ Some r.1) × EachFound whole rows

  found_later : (e : List ℕ × X) (whole rows : Rows X) → T (below_all key_cmp e.0 rows) → EachFound whole rows → EachFound (e ∷ whole) rows
  found_later e whole [] h f = tt
  found_later e whole (r ∷ rows) h f =
      let other = turned e.0 r.0 (apart_keys e.0 r.0 r.0 (true_t _ (t_first _ _ h)) (not_before_itself r.0)) in
      (ap (λ b. cond b (Some e.1) (find key_cmp r.0 whole)) other ∙ f.0, found_later e whole rows (t_second _ _ h) f.1)

  each_found : (rows : Rows X) → T (is_sorted key_cmp rows) → EachFound rows rows
  each_found [] h = tt
  each_found (r ∷ rows) h = (ap (λ b. cond b (Some r.1) (find key_cmp r.0 rows)) (equal_itself r.0), found_later r rows rows (t_first _ _ h) (each_found rows (t_second _ _ h)))

  find-keys_of : (k : List ℕ) (rows : Rows X) → is_some (find key_cmp k (keys_of rows)) ≡ is_some (find key_cmp k rows)
  find-keys_of k [] = refl
  find-keys_of k (r ∷ rows) = elim (eq_by_cmp key_cmp k r.0) as (λ b. is_some (cond b (Some tt) (find key_cmp k (keys_of rows))) ≡ is_some (cond b (Some r.1) (find key_cmp k rows))) [
    | true ↦ refl
    | false ↦ find-keys_of k rows
  ]

  -- ---- the rows that were not covered

  abbrev pub AllOut : Cover → Rows X → Type 0
  AllOut cover [] = Unit {0}
  AllOut cover (r ∷ rows) = (is_covered cover r.0 ≡ false) × AllOut cover rows

  pub out_covered : (cover : Cover) (rows : Rows X) → AllOut cover (covered (λ k. not (is_covered cover k)) rows)
  out_covered cover [] = tt
  out_covered cover (r ∷ rows) = elim (is_covered cover r.0) as (λ b. is_covered cover r.0 ≡ b
      → AllOut cover (cond (not b) (r ∷ covered (λ k. not (is_covered cover k)) rows) (covered (λ k. not (is_covered cover k)) rows))) [
        | true ↦ λ b. out_covered cover rows
        | false ↦ λ b. (b, out_covered cover rows)
      ] refl

  out_take : (cover : Cover) (n : ℕ) (rows : Rows X) → AllOut cover rows → AllOut cover (take n rows)
  out_take cover zero rows h = tt
  out_take cover (suc n) [] h = tt
  out_take cover (suc n) (r ∷ rows) h = (h.0, out_take cover n rows h.1)

  out_last : (cover : Cover) (k : List ℕ) (rows : Rows X) → is_covered cover k ≡ false → AllOut cover rows → is_covered cover (last_key k rows) ≡ false
  out_last cover k [] e h = e
  out_last cover k (r ∷ rows) e h = out_last cover r.0 rows h.0 h.1

-- what is covered stays covered
stays : (cover : Cover) (l k : List ℕ) → is_covered cover l ≡ false → is_covered cover k ≡ true → is_before l k ≡ false
stays Nothing l k e h = absurd (true≢false (sym h))
stays Whole l k e h = absurd (true≢false e)
stays (UpTo c) l k e h = elim (is_before l k) as (λ t. is_before l k ≡ t → t ≡ false) [
  | true ↦ λ t. elim (is_before c l) as (λ s. is_before c l ≡ s → true ≡ false) [
    | true ↦ λ s. absurd (true≢false (sym h ∙ ap not (before_chain c l k s t)))
    | false ↦ λ s. absurd (true≢false (sym (ap not s) ∙ e))
  ] refl
  | false ↦ λ t. refl
] refl

read_parts : {X : Type 0} (b d : Bool) (x : Option X) → (b ≡ true → d ≡ true) → cond d x None ≡ cond (is_some (cond d (cond (not b) x None) None)) (cond d (cond (not b) x None) None) (cond b x None)
read_parts true true x h = refl
read_parts true false x h = absurd (true≢false (sym (h refl)))
read_parts false true None h = refl
read_parts false true (Some x) h = refl
read_parts false false x h = refl

read_new : {X : Type 0} (b d : Bool) (x : Option X) → is_some (cond d (cond (not b) x None) None) ≡ true → cond b x None ≡ None
read_new true true x h = absurd (true≢false (sym h))
read_new true false x h = absurd (true≢false (sym h))
read_new false d x h = refl

-- what a key has after a step: what was read, or else what was covered before, which was nothing if something was read
abbrev Adds : {X : Type 0} → Option X → Option X → Option X → Type 0
Adds old read new = (new ≡ cond (is_some read) read old) × (is_some read ≡ true → old ≡ None)

adds : {X : Type 0} (b d : Bool) (x old read new : Option X) → (b ≡ true → d ≡ true) → old ≡ cond b x None → read ≡ cond d (cond (not b) x None) None → new ≡ cond d x None → Adds old read new
adds b d x old read new h o r n =
    (n ∙ read_parts b d x h ∙ ap (λ y. cond (is_some y) y (cond b x None)) (sym r) ∙ ap (λ y. cond (is_some read) read y) (sym o), (λ e. o ∙ read_new b d x (sym (ap is_some r) ∙ e)))

module _ {X : Type 0} where
  abbrev Step : Cover → Cover → Rows X → Rows X → Type 0
  Step cover next rows read = (k : List ℕ) → Adds (find key_cmp k (covered (is_covered cover) rows)) (find key_cmp k read) (find key_cmp k (covered (is_covered next) rows))

  front_any : (k : List ℕ) (n : ℕ) (rows : Rows X) (r : List ℕ × X) (rs : Rows X) → take n rows ≡ r ∷ rs → T (is_sorted key_cmp rows) →
      find key_cmp k (r ∷ rs) ≡ cond (not (is_before (last_key r.0 rs) k)) (find key_cmp k rows) None
  front_any k zero rows r rs e h = cc
  front_any k (suc n) [] r rs e h = cc
  front_any k (suc n) (u ∷ us) r rs e h =
      let a : u ≡ r = cc in
      let b : take n us ≡ rs = cc in
      subst (λ z. find key_cmp k (z ∷ rs) ≡ cond (not (is_before (last_key z.0 rs) k)) (find key_cmp k (u ∷ us)) None) a
      (subst (λ zs. find key_cmp k (u ∷ zs) ≡ cond (not (is_before (last_key u.0 zs) k)) (find key_cmp k (u ∷ us)) None) b (front k n u us h))

  all_read : (cover : Cover) (rows read : Rows X) → read ≡ covered (λ k. not (is_covered cover k)) rows → Step cover Whole rows read
  all_read cover rows read e k =
      adds (is_covered cover k) true (find key_cmp k rows) _ _ _ (λ _. refl) (find-covered (is_covered cover) k rows)
      (ap (find key_cmp k) e ∙ find-covered (λ k. not (is_covered cover k)) k rows) (find-covered (is_covered Whole) k rows)

  some_read : (cover : Cover) (n : ℕ) (rows read : Rows X) → T (is_sorted key_cmp rows) → next_rows n cover rows ≡ read → Step cover (moved_to cover read) rows read
  some_read cover n rows [] h e k = (refl, (λ none. absurd (true≢false (sym none))))
  some_read cover n rows (r ∷ rs) h e k =
      let out = subst (AllOut cover) e (out_take cover n (covered (λ k. not (is_covered cover k)) rows) (out_covered cover rows)) in
      let last = out_last cover r.0 rs out.0 out.1 in
      adds (is_covered cover k) (not (is_before (last_key r.0 rs) k)) (find key_cmp k rows) _ _ _ (λ b. ap not (stays cover (last_key r.0 rs) k last b)) (find-covered (is_covered cover) k rows)
      (front_any k n (covered (λ k. not (is_covered cover k)) rows) r rs e (is_sorted-where_key key_cmp (λ k. not (is_covered cover k)) rows h)
      ∙ ap (λ x. cond (not (is_before (last_key r.0 rs) k)) x None) (find-covered (λ k. not (is_covered cover k)) k rows))
      (find-covered (is_covered (UpTo (last_key r.0 rs))) k rows)

  step : (n : ℕ) (cover : Cover) (rows : Rows X) → T (is_sorted key_cmp rows) → Step cover (cover_after n cover rows) rows (next_rows n cover rows)
  step n cover rows h = elim (nat_lt (length (next_rows n cover rows)) n) as (λ t. nat_lt (length (next_rows n cover rows)) n ≡ t
      → Step cover (if t then Whole else moved_to cover (next_rows n cover rows)) rows (next_rows n cover rows)) [
        | true ↦ λ t. all_read cover rows (next_rows n cover rows) (short n (covered (λ k. not (is_covered cover k)) rows) (omega (arith, ltb-true, t)))
        | false ↦ λ t. some_read cover n rows (next_rows n cover rows) h refl
      ] refl

module _ {X E D : Type 0} (entry : List ℕ → X → Option (List ℕ × E)) (same : E → E → Bool) where
  put_of-is : (e : Option (List ℕ × E)) → put_of_entry {D = D} e ≡ between {D = D} same None e
  put_of-is None = refl
  put_of-is (Some e) = refl

  -- the puts of rows that are new are what is sent for their keys
  puts_are_sent : (cover next : Cover) (rows read : Rows X) → Step cover next rows read → (some : Rows X) → EachFound read some →
      puts_of entry some ≡ entry_changes entry {D = D} same (λ k. find key_cmp k (covered (is_covered cover) rows)) (λ k. find key_cmp k (covered (is_covered next) rows)) (keys_of some)
  puts_are_sent cover next rows read s [] f = refl
  puts_are_sent cover next rows read s (r ∷ some) f =
      let old = covered (is_covered cover) rows in
      let new = covered (is_covered next) rows in
      let rest = entry_changes entry {D = D} same (λ k. find key_cmp k old) (λ k. find key_cmp k new) (keys_of some) in
      let was : find key_cmp r.0 old ≡ None = (s r.0).1 (ap is_some f.0) in
      let is : find key_cmp r.0 new ≡ Some r.1 = (s r.0).0 ∙ ap (λ y. cond (is_some y) y (find key_cmp r.0 old)) f.0 in
      ap (λ ms. put_of_entry {D = D} (entry r.0 r.1) ++ ms) (puts_are_sent cover next rows read s some f.1)
      ∙ ap (λ m. m ++ rest) (put_of-is (entry r.0 r.1))
      ∙ ap (λ x. between {D = D} same (entry_in entry r.0 x) (entry r.0 r.1) ++ rest) (sym was)
      ∙ ap (λ x. between {D = D} same (entry_in entry r.0 (find key_cmp r.0 old)) (entry_in entry r.0 x) ++ rest) (sym is)

module _ {X E D : Type 0} (entry : List ℕ → X → Option (List ℕ × E)) (same : E → E → Bool) (sound : (a b : E) → same a b ≡ true → a ≡ b) (merged : Option E → D
    → E) (Stands : List ℕ → X → Type 0) (apart : AreApart Stands entry) where
  -- The puts of a step of building, sorted by key, change the index of the rows covered before it to that of the rows covered after it.
  pub builds : (n : ℕ) (cover : Cover) (rows : Rows X) → T (is_sorted key_cmp rows) → EachStands Stands rows →
      rows_after (effect_of merged) (sorted_batch (puts_of entry (next_rows n cover rows))) (select entry (covered (is_covered cover) rows))
      ≡ select entry (covered (is_covered (cover_after n cover rows)) rows)
  builds n cover rows h stand =
      let read = next_rows n cover rows in
      let next = cover_after n cover rows in
      let old = covered (is_covered cover) rows in
      let new = covered (is_covered next) rows in
      let steps = step n cover rows h in
      let sorted_read = sorted_take n (covered (λ k. not (is_covered cover k)) rows) (is_sorted-where_key key_cmp (λ k. not (is_covered cover k)) rows h) in
      rows_after-sorted_batch (effect_of merged) (puts_of entry read) (select entry old) (sorted-select entry old)
      ∙ ap (λ ms. rows_after (effect_of merged) ms (select entry old)) (puts_are_sent {D = D} entry same cover next rows read steps read (each_found read sorted_read))
      ∙ sends entry same sound merged old new (keys_of read)
      (is_sorted-where_key key_cmp (is_covered cover) rows h) (is_sorted-where_key key_cmp (is_covered next) rows h)
      (λ k none. sym ((steps k).0 ∙ ap (λ t. cond t (find key_cmp k read) (find key_cmp k old)) (sym (find-keys_of k read) ∙ none)))
      (owner entry Stands apart old new (stand-covered Stands (is_covered cover) rows stand) (stand-covered Stands (is_covered next) rows stand))
