-- The effects of messages on rows, key by key: older messages before newer ones, and a batch sorted by key like the batch itself.
use Rattle.std.proofs.Common.{◌≡◌, ℕ, Bool, true, false, cond, not, T, List, [], ◌∷◌, refl, sym, ap, ◌∙◌, Option, Some, None, if◌then◌else◌}
use Rattle.std.specs.Ordering.{eq_by_cmp, is_eq}
use Rattle.std.specs.FinMap.{find, nat_cmp-IsAntisymmetric, slice_cmp-IsAntisymmetric}
use Rattle.std.specs.FinMap.Entries.{find-put, find-where_key, is_sorted, is_sorted-put, is_sorted-where_key, same_entries}
use Rattle.std.specs.Cmp.{alike_right, eq_by_cmp_equiv}
use Rattle.bt_message.specs.Effects.{Rows, rows_after, value_after, with_value}
use Rattle.bt_keycode.specs.Keys.{AllFrom, IsSorted, is_before, key_cmp}
use Rattle.bt_message.specs.Messages.{Messages, sorted_batch, with_message, with_messages}
use Rattle.bt_keycode.proofs.offered.Order.{apart, not_before_itself, same_key, total_keys}
use Rattle.bt_messages.proofs.offered.Placed.{sorted-with_messages}

module _ {V M : Type 0} (effect : Option V → M → Option V) where
  turned : (b : Bool) (x y : Option V) → cond (not b) x y ≡ cond b y x
  turned true x y = refl
  turned false x y = refl

  under_test : (b : Bool) (x y z : Option V) → (b ≡ true → x ≡ y) → cond b x z ≡ cond b y z
  under_test true x y z h = h refl
  under_test false x y z h = refl

  find-with_value : (q k : List ℕ) (o : Option V) (rows : Rows V) → find key_cmp q (with_value k o rows) ≡ cond (eq_by_cmp key_cmp q k) o (find key_cmp q rows)
  find-with_value q k (Some value) rows = find-put key_cmp total_keys q k value rows
  find-with_value q k None rows =
      find-where_key key_cmp (λ x. not (eq_by_cmp key_cmp k x)) q (λ x t. ap (λ r. not (is_eq r)) (sym (alike_right total_keys q x k t))) rows
      ∙ turned (eq_by_cmp key_cmp k q) (find key_cmp q rows) None ∙ ap (λ b. cond b None (find key_cmp q rows)) ((eq_by_cmp_equiv total_keys).symm k q)

  -- what is found after messages
  pub find-rows_after : (q : List ℕ) (ms : Messages M) (rows : Rows V) → find key_cmp q (rows_after effect ms rows) ≡ value_after effect q ms (find key_cmp q rows)
  find-rows_after q [] rows = refl
  find-rows_after q (m ∷ ms) rows =
      find-rows_after q ms (with_value m.0 (effect (find key_cmp m.0 rows) m.1) rows)
      ∙ ap (value_after effect q ms)
      (find-with_value q m.0 (effect (find key_cmp m.0 rows) m.1) rows
      ∙ under_test (eq_by_cmp key_cmp q m.0) (effect (find key_cmp m.0 rows) m.1) (effect (find key_cmp q rows) m.1) (find key_cmp q rows)
      (λ e. ap (λ k. effect (find key_cmp k rows) m.1) (sym (same_key q m.0 e))))

  -- messages to larger keys change nothing
  pub value_before : (q k : List ℕ) (ms : Messages M) (o : Option V) → is_before q k ≡ true → AllFrom k ms → value_after effect q ms o ≡ o
  value_before q k [] o e h = refl
  value_before q k (m ∷ ms) o e h =
      ap (λ b. value_after effect q ms (if b then effect o m.1 else o)) (apart q k m.0 e h.0) ∙ value_before q k ms o e h.1

  value_after-with_message : (q : List ℕ) (m : List ℕ × M) (es : Messages M) (o : Option V) → IsSorted es
      → value_after effect q (with_message m es) o ≡ value_after effect q (m ∷ []) (value_after effect q es o)
  value_after-with_message q m [] o h = refl
  value_after-with_message q m (e ∷ es) o h = elim (is_before m.0 e.0) as (λ t. is_before m.0 e.0 ≡ t →
      value_after effect q (if t then m ∷ e ∷ es else e ∷ with_message m es) o ≡ value_after effect q (m ∷ []) (value_after effect q (e ∷ es) o)) [
        | true ↦ λ t. elim (eq_by_cmp key_cmp q m.0) as (λ b. eq_by_cmp key_cmp q m.0 ≡ b →
            value_after effect q (e ∷ es) (if b then effect o m.1 else o) ≡ (if b then effect (value_after effect q (e ∷ es) o) m.1 else value_after effect q (e ∷ es) o)) [
              | true ↦ λ is.
                  let low = ap (λ k. is_before k e.0) (same_key q m.0 is) ∙ t in
                  let all : AllFrom e.0 (e ∷ es) = (not_before_itself e.0, h.0) in
                  value_before q e.0 (e ∷ es) (effect o m.1) low all ∙ ap (λ x. effect x m.1) (sym (value_before q e.0 (e ∷ es) o low all))
              | false ↦ λ is. refl
            ] refl
        | false ↦ λ t. value_after-with_message q m es (if eq_by_cmp key_cmp q e.0 then effect o e.1 else o) h.1
      ] refl

  -- at each key older messages come before newer ones
  pub value_after-with_messages : (q : List ℕ) (ms older : Messages M) (o : Option V) → IsSorted older
      → value_after effect q (with_messages ms older) o ≡ value_after effect q ms (value_after effect q older o)
  value_after-with_messages q [] older o h = refl
  value_after-with_messages q (m ∷ ms) older o h =
      value_after-with_messages q ms (with_message m older) o (sorted-with_messages (m ∷ []) older h) ∙ ap (value_after effect q ms) (value_after-with_message q m older o h)

  sorted-with_value : (k : List ℕ) (o : Option V) (rows : Rows V) → T (is_sorted key_cmp rows) → T (is_sorted key_cmp (with_value k o rows))
  sorted-with_value k None rows h = is_sorted-where_key key_cmp (λ x. not (eq_by_cmp key_cmp k x)) rows h
  sorted-with_value k (Some value) rows h = is_sorted-put key_cmp total_keys k value rows h

  -- rows stay in order of their keys
  pub sorted-rows_after : (ms : Messages M) (rows : Rows V) → T (is_sorted key_cmp rows) → T (is_sorted key_cmp (rows_after effect ms rows))
  sorted-rows_after [] rows h = h
  sorted-rows_after (m ∷ ms) rows h = sorted-rows_after ms _ (sorted-with_value m.0 (effect (find key_cmp m.0 rows) m.1) rows h)

  -- sorted rows are equal if the values found in them are
  pub same_rows : (rows others : Rows V) → T (is_sorted key_cmp rows) → T (is_sorted key_cmp others) → ((q : List ℕ) → find key_cmp q rows ≡ find key_cmp q others) → rows ≡ others
  same_rows rows others = same_entries key_cmp total_keys (slice_cmp-IsAntisymmetric nat_cmp-IsAntisymmetric) rows others

  -- a buffer with a packet does what the buffer does, and then the packet
  pub rows_after-with_messages : (ms older : Messages M) (rows : Rows V) → IsSorted older → T (is_sorted key_cmp rows)
      → rows_after effect (with_messages ms older) rows ≡ rows_after effect ms (rows_after effect older rows)
  rows_after-with_messages ms older rows h r =
      same_rows (rows_after effect (with_messages ms older) rows) (rows_after effect ms (rows_after effect older rows))
      (sorted-rows_after (with_messages ms older) rows r) (sorted-rows_after ms (rows_after effect older rows) (sorted-rows_after older rows r))
      (λ q. find-rows_after q (with_messages ms older) rows ∙ value_after-with_messages q ms older (find key_cmp q rows) h
      ∙ ap (value_after effect q ms) (sym (find-rows_after q older rows)) ∙ sym (find-rows_after q ms (rows_after effect older rows)))

  -- a batch may be sorted before it is applied
  pub rows_after-sorted_batch : (batch : Messages M) (rows : Rows V) → T (is_sorted key_cmp rows) → rows_after effect (sorted_batch batch) rows ≡ rows_after effect batch rows
  rows_after-sorted_batch batch rows r = rows_after-with_messages batch [] rows tt r
