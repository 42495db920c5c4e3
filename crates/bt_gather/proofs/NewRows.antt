-- Puts with rising keys into a leaf without rows: each makes one row.
use Rattle.std.proofs.Common.{◌≡◌, ◌∙◌, ◌&&◌, ℕ, zero, suc, Bool, true, false, [], ◌∷◌, ◌++◌, Option, Some, None, ap, append_assoc, append-nil, arith, drop, length, refl, subst, sym, take, true≢false}
use Rattle.std.specs.FinMap.{find, put}
use Rattle.std.specs.FinMap.Entries.{by_order}
use Rattle.std.specs.Ordering.{ordering_reverse}
use Rattle.std.specs.declared.cmp.Ordering.TheVariants.{Greater}
use Rattle.bt_keycode.specs.Keys.{Key, is_before, key_cmp}
use Rattle.bt_keycode.proofs.offered.Order.{before_chain, is_less, total_keys}
use Rattle.bt_message.specs.Effects.{Rows, effect_of, rows_after, with_value}
use Rattle.bt_message.specs.Messages.{Messages}
use Rattle.bt_message.specs.declared.message.Message.{Message}
use Rattle.bt_message.specs.declared.message.Message.TheVariants.{Put, Del, Ups}
use Rattle.bt_form.specs.Flushes.{first_key}
use Rattle.bt_gather.specs.inside.NewLeaves.{are_new_rows, is_after, is_new_row, is_put}

both : (a b : Bool) → a && b ≡ true → (a ≡ true) × (b ≡ true)
both true b e = (refl, e)
both false b e = absurd (true≢false (sym e))

-- each of these keys comes before this one
abbrev AllAreBefore : {V : Type 0} → Key → Rows V → Type 0
AllAreBefore k [] = Unit {0}
AllAreBefore k (r ∷ rs) = (is_before r.0 k ≡ true) × AllAreBefore k rs

all_still : {V : Type 0} (j k : Key) (rs : Rows V) → is_before j k ≡ true → AllAreBefore j rs → AllAreBefore k rs
all_still j k [] l b = tt
all_still j k (r ∷ rs) l b = (before_chain r.0 j k b.0 l, all_still j k rs l b.1)

all_and : {V : Type 0} (k : Key) (rs : Rows V) (r : Key × V) → AllAreBefore k rs → is_before r.0 k ≡ true → AllAreBefore k (rs ++ r ∷ [])
all_and k [] r b l = (l, tt)
all_and k (x ∷ rs) r b l = (b.0, all_and k rs r b.1 l)

-- a row after all others
put-last : {V : Type 0} (k : Key) (v : V) (rs : Rows V) → AllAreBefore k rs → put key_cmp k v rs ≡ rs ++ (k, v) ∷ []
put-last k v [] b = refl
put-last k v (r ∷ rs) b =
    let later : key_cmp k r.0 ≡ Greater = total_keys.antisymm k r.0 ∙ ap ordering_reverse (is_less (key_cmp r.0 k) b.0) in
    ap (λ o. by_order o ((k, v) ∷ r ∷ rs) ((r.0, v) ∷ rs) (r ∷ put key_cmp k v rs)) later ∙ ap (λ xs. r ∷ xs) (put-last k v rs b.1)

-- the keys of rows come before those of messages after this one
abbrev IsEnd : {V : Type 0} → Option Key → Rows V → Type 0
IsEnd None rs = rs ≡ []
IsEnd (Some last) rs = (k : Key) → is_before last k ≡ true → AllAreBefore k rs

end-before : {V : Type 0} (last : Option Key) (rs : Rows V) (k : Key) → IsEnd last rs → is_after last k ≡ true → AllAreBefore k rs
end-before None rs k e l = subst (AllAreBefore k) (sym e) tt
end-before (Some j) rs k e l = e k l

module _ {V D : Type 0} where
  new-parts : (last : Option Key) (m : Key × Message V D) (ms : Messages (Message V D)) → are_new_rows last (m ∷ ms) ≡ true
      → (is_put m.1 ≡ true) × ((is_after last m.0 ≡ true) × (are_new_rows (Some m.0) ms ≡ true))
  new-parts last m ms new =
      let p = both (is_new_row last m) (are_new_rows (Some m.0) ms) new in
      let q = both (is_put m.1) (is_after last m.0) p.0 in
      (q.0, (q.1, p.1))

  -- the row that a message puts
  abbrev pub row_put : Key → Message V D → Rows V
  row_put k (Put v) = (k, v) ∷ []
  row_put k Del = []
  row_put k (Ups d) = []

  -- the rows that messages put
  abbrev pub rows_put : Messages (Message V D) → Rows V
  rows_put [] = []
  rows_put (m ∷ ms) = row_put m.0 m.1 ++ rows_put ms

  module _ (merged : Option V → D → V) where
    next-row : (k : Key) (m : Message V D) (rs : Rows V) → is_put m ≡ true → AllAreBefore k rs
        → (with_value k (effect_of merged (find key_cmp k rs) m) rs ≡ rs ++ row_put k m) × ((j : Key) → is_before k j ≡ true → AllAreBefore j (rs ++ row_put k m))
    next-row k (Put v) rs p b = (put-last k v rs b, λ j l. all_and j rs (k, v) (all_still k j rs l b) l)
    next-row k Del rs p b = absurd (true≢false (sym p))
    next-row k (Ups d) rs p b = absurd (true≢false (sym p))

    rows-more : (last : Option Key) (ms : Messages (Message V D)) (rs : Rows V) → are_new_rows last ms ≡ true → IsEnd last rs → rows_after (effect_of merged) ms rs ≡ rs ++ rows_put ms
    rows-more last [] rs new e = sym (append-nil rs)
    rows-more last (m ∷ ms) rs new e =
        let p = new-parts last m ms new in
        let next = next-row m.0 m.1 rs p.0 (end-before last rs m.0 e p.1.0) in
        ap (rows_after (effect_of merged) ms) next.0 ∙ rows-more (Some m.0) ms (rs ++ row_put m.0 m.1) p.1.1 next.1 ∙ append_assoc rs (row_put m.0 m.1) (rows_put ms)

    -- the rows of a leaf without rows after messages that put new ones
    pub rows-new : (last : Option Key) (ms : Messages (Message V D)) → are_new_rows last ms ≡ true → rows_after (effect_of merged) ms [] ≡ rows_put ms
    rows-new None ms new = rows-more None ms [] new refl
    rows-new (Some last) ms new = rows-more (Some last) ms [] new (λ k l. tt)

  one-row : (k : Key) (m : Message V D) → is_put m ≡ true → (r : V) × (row_put k m ≡ (k, r) ∷ [])
  one-row k (Put v) p = (v, refl)
  one-row k Del p = absurd (true≢false (sym p))
  one-row k (Ups d) p = absurd (true≢false (sym p))

  -- there are as many rows as messages
  pub rows-length : (last : Option Key) (ms : Messages (Message V D)) → are_new_rows last ms ≡ true → length (rows_put ms) ≡ length ms
  rows-length last [] new = refl
  rows-length last (m ∷ ms) new =
      let p = new-parts last m ms new in
      omega (arith, ap (λ rs. length (rs ++ rows_put ms)) (one-row m.0 m.1 p.0).1, rows-length (Some m.0) ms p.1.1)

  -- the first of them has the key of the first message
  pub first-rows : (last : Option Key) (ms : Messages (Message V D)) → are_new_rows last ms ≡ true → first_key (λ m. m.0) ms ≡ first_key (λ r. r.0) (rows_put ms)
  first-rows last [] new = refl
  first-rows last (m ∷ ms) new = sym (ap (λ rs. first_key (λ r. r.0) (rs ++ rows_put ms)) (one-row m.0 m.1 (new-parts last m ms new).0).1)

  -- the first messages, and the others
  pub rows-take : (n : ℕ) (last : Option Key) (ms : Messages (Message V D)) → are_new_rows last ms ≡ true → rows_put (take n ms) ≡ take n (rows_put ms)
  rows-take zero last ms new = refl
  rows-take (suc n) last [] new = refl
  rows-take (suc n) last (m ∷ ms) new =
      let p = new-parts last m ms new in
      let one = one-row m.0 m.1 p.0 in
      ap (λ rs. rs ++ rows_put (take n ms)) one.1 ∙ ap (λ rs. (m.0, one.0) ∷ rs) (rows-take n (Some m.0) ms p.1.1) ∙ sym (ap (λ rs. take (suc n) (rs ++ rows_put ms)) one.1)

  pub rows-drop : (n : ℕ) (last : Option Key) (ms : Messages (Message V D)) → are_new_rows last ms ≡ true → rows_put (drop n ms) ≡ drop n (rows_put ms)
  rows-drop zero last ms new = refl
  rows-drop (suc n) last [] new = refl
  rows-drop (suc n) last (m ∷ ms) new =
      let p = new-parts last m ms new in
      rows-drop n (Some m.0) ms p.1.1 ∙ sym (ap (λ rs. drop (suc n) (rs ++ rows_put ms)) (one-row m.0 m.1 p.0).1)

  pub new-take : (n : ℕ) (last : Option Key) (ms : Messages (Message V D)) → are_new_rows last ms ≡ true → are_new_rows last (take n ms) ≡ true
  new-take zero last ms new = refl
  new-take (suc n) last [] new = refl
  new-take (suc n) last (m ∷ ms) new =
      let p = both (is_new_row last m) (are_new_rows (Some m.0) ms) new in
      ap (λ b. b && are_new_rows (Some m.0) (take n ms)) p.0 ∙ new-take n (Some m.0) ms p.1

  new-anywhere : (last : Option Key) (ms : Messages (Message V D)) → are_new_rows last ms ≡ true → are_new_rows None ms ≡ true
  new-anywhere last [] new = refl
  new-anywhere last (m ∷ ms) new =
      let p = new-parts last m ms new in
      ap (λ b. (b && true) && are_new_rows (Some m.0) ms) p.0 ∙ p.1.1

  pub new-drop : (n : ℕ) (last : Option Key) (ms : Messages (Message V D)) → are_new_rows last ms ≡ true → are_new_rows None (drop n ms) ≡ true
  new-drop zero last ms new = new-anywhere last ms new
  new-drop (suc n) last [] new = refl
  new-drop (suc n) last (m ∷ ms) new = new-drop n (Some m.0) ms (new-parts last m ms new).1.1

  -- ---- one message after the other

  -- the next message puts a new row
  pub new_next : (last : Option Key) (m : Key × Message V D) (ms ms' : Messages (Message V D)) (all : Bool) → ms' ≡ m ∷ ms → is_new_row last m ≡ true →
      all ≡ are_new_rows last ms' → all ≡ are_new_rows (Some m.0) ms
  new_next last m ms ms' all next is so_far = so_far ∙ ap (are_new_rows last) next ∙ ap (λ b. b && are_new_rows (Some m.0) ms) is

  -- or not
  pub not_new : (last : Option Key) (m : Key × Message V D) (ms ms' : Messages (Message V D)) (all : Bool) → ms' ≡ m ∷ ms → is_new_row last m ≡ false → all ≡ are_new_rows last ms' → all ≡ false
  not_new last m ms ms' all next is so_far = so_far ∙ ap (are_new_rows last) next ∙ ap (λ b. b && are_new_rows (Some m.0) ms) is
