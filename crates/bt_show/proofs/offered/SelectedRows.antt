-- Entries of an index as the rows that it selects, key by key. Serves scans and sums of an index.
use Rattle.std.proofs.Common.{ℕ, zero, suc, ◌≡◌, ◌∙◌, Bool, true, false, List, [], ◌∷◌, Option, Some, None, refl, sym, ap, subst, cond, fold, take}
use Rattle.std.specs.FinMap.{put}
use Rattle.std.specs.FinMap.Entries.{by_order}
use Rattle.std.specs.List.{cons_option}
use Rattle.std.specs.Ordering.{is_eq}
use Rattle.std.specs.Prelude.{option_map}
use Rattle.std.specs.declared.cmp.Ordering.{Ordering}
use Rattle.std.specs.declared.cmp.Ordering.TheVariants.{Less, Equal, Greater}
use Rattle.bt_value.specs.declared.value.Kind.{Kind}
use Rattle.bt_value.specs.declared.value.Value.{Value}
use Rattle.bt_keycode.specs.Keys.{Key, is_between, key_cmp}
use Rattle.bt_keycode.proofs.offered.Order.{same_key}
use Rattle.bt_form.specs.Messages.{Rows, between}
use Rattle.bt_fanout.specs.Selections.{with_entry}
use Rattle.bt_show.specs.inside.Entries.{after_entry, row_of_entry, rows_of_entries}
use Rattle.bt_show.specs.inside.EntryParts.{shown}
use Rattle.bt_show.specs.declared.range.KeyRange.{KeyRange}

module _ (kinds : List Kind) where
  -- rows under the keys of entries, each the row that its entry shows
  abbrev pub AreShown : Rows (List Value) → Rows (List Value) → Type 0
  AreShown [] [] = Unit {0}
  AreShown [] (r ∷ rs) = ⊥
  AreShown (e ∷ es) [] = ⊥
  AreShown (e ∷ es) (r ∷ rs) = (e.0 ≡ r.0) × (row_of_entry kinds e ≡ Some r.1) × AreShown es rs

  shown-put : (k : Key) (v w : List Value) (es rs : Rows (List Value)) → row_of_entry kinds (k, v) ≡ Some w → AreShown es rs → AreShown (put key_cmp k v es) (put key_cmp k w rs)
  shown-put k v w [] [] one all = (refl, one, tt)
  shown-put k v w [] (r ∷ rs) one all = absurd all
  shown-put k v w (e ∷ es) [] one all = absurd all
  shown-put k v w (e ∷ es) (r ∷ rs) one all = by_cmp (key_cmp k e.0) refl (shown-put k v w es rs one all.2)
    where
      puts : Ordering → Ordering → Type 0
      puts o p = AreShown (by_order o ((k, v) ∷ e ∷ es) ((e.0, v) ∷ es) (e ∷ put key_cmp k v es)) (by_order p ((k, w) ∷ r ∷ rs) ((r.0, w) ∷ rs) (r ∷ put key_cmp k w rs))

      case : (o : Ordering) → key_cmp k e.0 ≡ o → AreShown (put key_cmp k v es) (put key_cmp k w rs) → puts o o
      case Less is more = (refl, one, all)
      case Equal is more = (all.0, subst (λ q. row_of_entry kinds (q, v) ≡ Some w) (same_key k e.0 (ap is_eq is)) one, all.2)
      case Greater is more = (all.0, all.1, more)

      by_cmp : (o : Ordering) → key_cmp k e.0 ≡ o → AreShown (put key_cmp k v es) (put key_cmp k w rs) → puts (key_cmp k e.0) (key_cmp k r.0)
      by_cmp o is more = subst (λ p. puts p (key_cmp k r.0)) (sym is) (subst (λ p. puts o p) (sym (ap (key_cmp k) (sym all.0) ∙ is)) (case o is more))

  -- an entry, if there is one, and its row
  abbrev pub IsShown : Option (Key × List Value) → Option (Key × List Value) → Type 0
  IsShown None None = Unit {0}
  IsShown None (Some r) = ⊥
  IsShown (Some e) None = ⊥
  IsShown (Some e) (Some r) = (e.0 ≡ r.0) × (row_of_entry kinds e ≡ Some r.1)

  pub shown-with : (e r : Option (Key × List Value)) (es rs : Rows (List Value)) → IsShown e r → AreShown es rs → AreShown (with_entry e es) (with_entry r rs)
  shown-with None None es rs one all = all
  shown-with None (Some r) es rs one all = absurd one
  shown-with (Some e) None es rs one all = absurd one
  shown-with (Some e) (Some r) es rs one all = subst (λ k. AreShown (put key_cmp e.0 e.1 es) (put key_cmp k r.1 rs)) one.0 (shown-put e.0 e.1 r.1 es rs one.1 all)

  pub shown-between : (range : KeyRange) (es rs : Rows (List Value)) → AreShown es rs → AreShown (between range.from range.to es) (between range.from range.to rs)
  shown-between range [] [] all = tt
  shown-between range [] (r ∷ rs) all = absurd all
  shown-between range (e ∷ es) [] all = absurd all
  shown-between range (e ∷ es) (r ∷ rs) all =
      subst (λ k. AreShown (cond (is_between range.from range.to e.0) (e ∷ between range.from range.to es) (between range.from range.to es))
      (cond (is_between range.from range.to k) (r ∷ between range.from range.to rs) (between range.from range.to rs)))
      all.0 (by_test (is_between range.from range.to e.0) (shown-between range es rs all.2))
    where
      by_test : (b : Bool) → AreShown (between range.from range.to es) (between range.from range.to rs)
          → AreShown (cond b (e ∷ between range.from range.to es) (between range.from range.to es)) (cond b (r ∷ between range.from range.to rs) (between range.from range.to rs))
      by_test true more = (all.0, all.1, more)
      by_test false more = more

  -- the first entries show the first rows
  pub shown-take : (n : ℕ) (es rs : Rows (List Value)) → AreShown es rs → AreShown (take n es) (take n rs)
  shown-take zero es rs all = tt
  shown-take (suc n) [] [] all = tt
  shown-take (suc n) [] (r ∷ rs) all = absurd all
  shown-take (suc n) (e ∷ es) [] all = absurd all
  shown-take (suc n) (e ∷ es) (r ∷ rs) all = (all.0, all.1, shown-take n es rs all.2)

  pub shown-rows : (es rs : Rows (List Value)) → AreShown es rs → rows_of_entries kinds es ≡ rs
  shown-rows [] [] all = refl
  shown-rows [] (r ∷ rs) all = absurd all
  shown-rows (e ∷ es) [] all = absurd all
  shown-rows (e ∷ es) (r ∷ rs) all =
      ap (λ row. cons_option (option_map (λ row. (e.0, row)) row) (rows_of_entries kinds es)) all.1
      ∙ ap (λ k. (k, r.1) ∷ rows_of_entries kinds es) all.0 ∙ ap (λ rows. r ∷ rows) (shown-rows es rs all.2)

-- a visitor of rows after entries that show them
pub gone-along : {S : Type 0} (visited : S → Key × List Value → S) (rows : Rows (List Value)) (visitor : S) (kinds : List Kind) (entries : Rows (List Value))
    (old new : List Kind × S) → rows ≡ rows_of_entries kinds entries
    → ◌≡◌ {A = List Kind × S} old (kinds, visitor) → ◌≡◌ {A = List Kind × S} new (fold (after_entry visited) old entries) → new.1 ≡ fold visited visitor rows
gone-along {S} visited rows visitor kinds entries old new shows begins is =
    ap (λ (r : List Kind × S). r.1) (is ∙ ap (λ (r : List Kind × S). fold (after_entry visited) r entries) begins ∙ shown visited (kinds, visitor) entries)
    ∙ ap (fold visited visitor) (sym shows)
