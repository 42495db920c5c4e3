-- Index messages of a batch.
use Rattle.std.proofs.Common.{◌≡◌, ℕ, Bool, true, false, cond, T, List, [], ◌∷◌, ◌++◌, refl, sym, ap, ◌∙◌, Option, Some, None, is_some, true≢false}
use Rattle.std.specs.Ordering.{eq_by_cmp, is_eq}
use Rattle.std.specs.FinMap.{find}
use Rattle.std.specs.FinMap.Entries.{find-put, find-where_key, is_sorted, is_sorted-where_key}
use Rattle.bt_message.specs.Effects.{Rows, effect_of, rows_after, value_after}
use Rattle.bt_keycode.specs.Keys.{key_cmp}
use Rattle.bt_message.specs.Messages.{Messages, sorted_batch}
use Rattle.bt_keycode.proofs.offered.Order.{same_key, total_keys}
use Rattle.bt_messages.proofs.offered.Rows.{find-rows_after, rows_after-sorted_batch, sorted-rows_after}
use Rattle.bt_fanout.specs.Selections.{AreApart, EachStands, between, covered, entry_changes, entry_in, index_messages, named, select}
use Rattle.bt_fanout.proofs.Lookups.{sorted-select}
use Rattle.bt_fanout.proofs.Owners.{owner}
use Rattle.bt_fanout.proofs.Sendings.{sends}

-- a row is found among the covered ones if its key is covered
pub find-covered : {X : Type 0} (covers : List ℕ → Bool) (k : List ℕ) (rows : Rows X) → find key_cmp k (covered covers rows) ≡ cond (covers k) (find key_cmp k rows) None
find-covered covers k rows = find-where_key key_cmp covers k (λ x t. ap covers (sym (same_key k x (ap is_eq t)))) rows

pub stand-covered : {X : Type 0} (Stands : List ℕ → X → Type 0) (covers : List ℕ → Bool) (rows : Rows X) → EachStands Stands rows → EachStands Stands (covered covers rows)
stand-covered Stands covers [] h = tt
stand-covered Stands covers (r ∷ rows) h = elim (covers r.0) as (λ b. EachStands Stands (cond b (r ∷ covered covers rows) (covered covers rows))) [
  | true ↦ (h.0, stand-covered Stands covers rows h.1)
  | false ↦ stand-covered Stands covers rows h.1
]

module _ {X M : Type 0} (effect : Option X → M → Option X) where
  -- a key that a batch doesn't name keeps its row
  unnamed : (k : List ℕ) (batch : Messages M) (o : Option X) → is_some (find key_cmp k (named batch)) ≡ false → value_after effect k batch o ≡ o
  unnamed k [] o h = refl
  unnamed k (m ∷ ms) o h =
      let e = sym (ap is_some (find-put key_cmp total_keys k m.0 tt (named ms))) ∙ h in
      elim (eq_by_cmp key_cmp k m.0) as (λ t. is_some (cond t (Some tt) (find key_cmp k (named ms))) ≡ false → value_after effect k ms (cond t (effect o m.1) o) ≡ o) [
        | true ↦ λ e. absurd (true≢false e)
        | false ↦ λ e. unnamed k ms o e
      ] e

  same_row : (covers : List ℕ → Bool) (batch : Messages M) (map : Rows X) (k : List ℕ) → is_some (find key_cmp k (covered covers (named batch))) ≡ false →
      find key_cmp k (covered covers map) ≡ find key_cmp k (covered covers (rows_after effect batch map))
  same_row covers batch map k h =
      find-covered covers k map ∙ elim (covers k) as (λ t. is_some (cond t (find key_cmp k (named batch)) None) ≡ false
      → cond t (find key_cmp k map) None ≡ cond t (find key_cmp k (rows_after effect batch map)) None) [
        | true ↦ λ e. sym (find-rows_after effect k batch map ∙ unnamed k batch (find key_cmp k map) e)
        | false ↦ λ e. refl
      ] (sym (ap is_some (find-covered covers k (named batch))) ∙ h)
      ∙ sym (find-covered covers k (rows_after effect batch map))

module _ {X E D : Type 0} (entry : List ℕ → X → Option (List ℕ × E)) (same : E → E → Bool) where
  -- what is sent for covered keys depends on covered rows alone
  entry_changes-covered : (covers : List ℕ → Bool) (old new : Rows X) (ks : Rows (Unit {0})) →
      entry_changes entry {D = D} same (λ k. find key_cmp k old) (λ k. find key_cmp k new) (covered covers ks)
      ≡ entry_changes entry {D = D} same (λ k. find key_cmp k (covered covers old)) (λ k. find key_cmp k (covered covers new)) (covered covers ks)
  entry_changes-covered covers old new [] = refl
  entry_changes-covered covers old new (k ∷ ks) = elim (covers k.0) as (λ b. covers k.0 ≡ b →
      entry_changes entry {D = D} same (λ k. find key_cmp k old) (λ k. find key_cmp k new) (cond b (k ∷ covered covers ks) (covered covers ks))
      ≡ entry_changes entry {D = D} same (λ k. find key_cmp k (covered covers old)) (λ k. find key_cmp k (covered covers new)) (cond b (k ∷ covered covers ks) (covered covers ks))) [
        | true ↦ λ b.
            let was = find-covered covers k.0 old ∙ ap (λ t. cond t (find key_cmp k.0 old) None) b in
            let is = find-covered covers k.0 new ∙ ap (λ t. cond t (find key_cmp k.0 new) None) b in
            ap (λ ms. between {D = D} same (entry_in entry k.0 (find key_cmp k.0 old)) (entry_in entry k.0 (find key_cmp k.0 new)) ++ ms) (entry_changes-covered covers old new ks)
            ∙ ap (λ x. between {D = D} same (entry_in entry k.0 x) (entry_in entry k.0 (find key_cmp k.0 new)) ++ entry_changes entry {D =
            D} same (λ k. find key_cmp k (covered covers old)) (λ k. find key_cmp k (covered covers new)) (covered covers ks)) (sym was)
            ∙ ap (λ x. between {D = D} same (entry_in entry k.0 (find key_cmp k.0 (covered covers old))) (entry_in entry k.0 x) ++ entry_changes entry {D =
            D} same (λ k. find key_cmp k (covered covers old)) (λ k. find key_cmp k (covered covers new)) (covered covers ks)) (sym is)
        | false ↦ λ b. entry_changes-covered covers old new ks
      ] refl

module _ {X E D : Type 0} (entry : List ℕ → X → Option (List ℕ × E)) (same : E → E → Bool) (sound : (a b : E) → same a b ≡ true → a ≡ b) (merged : Option E → D
    → E) (Stands : List ℕ → X → Type 0) (apart : AreApart Stands entry) where
  -- The messages of a batch, sorted by key, change the index of the covered rows before it to that of the covered rows after it.
  pub index_turns : {M : Type 0} (effect : Option X → M → Option X) (covers : List ℕ → Bool) (batch : Messages M) (map : Rows X) → T (is_sorted key_cmp map) →
      EachStands Stands map → EachStands Stands (rows_after effect batch map) →
      rows_after (effect_of merged) (sorted_batch (index_messages entry same effect covers batch map)) (select entry (covered covers map)) ≡ select entry (covered covers (rows_after effect batch map))
  index_turns effect covers batch map s before after =
      let new = rows_after effect batch map in
      rows_after-sorted_batch (effect_of merged) (index_messages entry same effect covers batch map) (select entry (covered covers map)) (sorted-select entry (covered covers map))
      ∙ ap (λ ms. rows_after (effect_of merged) ms (select entry (covered covers map))) (entry_changes-covered {D = D} entry same covers map new (named batch))
      ∙ sends entry same sound merged (covered covers map) (covered covers new) (covered covers (named batch))
      (is_sorted-where_key key_cmp covers map s) (is_sorted-where_key key_cmp covers new (sorted-rows_after effect batch map s))
      (same_row effect covers batch map)
      (owner entry Stands apart (covered covers map) (covered covers new) (stand-covered Stands covers map before) (stand-covered Stands covers new after))
