-- The value at a key: after messages, and in rows that are joined.
use Rattle.std.proofs.Common.{◌≡◌, Bool, true, false, cond, not, [], ◌∷◌, ◌++◌, refl, sym, ap, ◌∙◌}
use Rattle.std.specs.Ordering.{eq_by_cmp, is_eq}
use Rattle.std.specs.FinMap.{find}
use Rattle.std.specs.FinMap.Entries.{find-put, find-where_key}
use Rattle.std.specs.Cmp.{alike_right, eq_by_cmp_equiv}
use Rattle.std.specs.declared.option.Option.{Option}
use Rattle.std.specs.declared.option.Option.TheVariants.{None, Some}
use Rattle.bt_keycode.specs.Keys.{Key, key_cmp, is_before, AllWithin}
use Rattle.bt_form.specs.Messages.{Rows, Messages, with_value, rows_after, value_after}
use Rattle.bt_keycode.proofs.offered.Order.{total_keys, same_key, apart, apart_back}

abbrev pub or_else : {V : Type 0} → Option V → Option V → Option V
or_else None y = y
or_else (Some x) y = Some x

pub find-append : {V : Type 0} (q : Key) (rs ss : Rows V) → find key_cmp q (rs ++ ss) ≡ or_else (find key_cmp q rs) (find key_cmp q ss)
find-append q [] ss = refl
find-append q (r ∷ rs) ss = elim (eq_by_cmp key_cmp q r.0) as (λ b. cond b (Some r.1) (find key_cmp q (rs ++ ss)) ≡ or_else (cond b (Some r.1) (find key_cmp q rs)) (find key_cmp q ss)) [
  | true ↦ refl
  | false ↦ find-append q rs ss
]

pub or_else_assoc : {V : Type 0} (x y z : Option V) → or_else (or_else x y) z ≡ or_else x (or_else y z)
or_else_assoc None y z = refl
or_else_assoc (Some x) y z = refl

pub or_else-None : {V : Type 0} (x : Option V) → or_else x None ≡ x
or_else-None None = refl
or_else-None (Some x) = refl

module _ {V M : Type 0} (effect : Option V → M → Option V) where
  turned : (b : Bool) (x y : Option V) → cond (not b) x y ≡ cond b y x
  turned true x y = refl
  turned false x y = refl

  find-with_value : (q k : Key) (o : Option V) (rs : Rows V) → find key_cmp q (with_value k o rs) ≡ cond (eq_by_cmp key_cmp q k) o (find key_cmp q rs)
  find-with_value q k (Some v) rs = find-put key_cmp total_keys q k v rs
  find-with_value q k None rs =
      find-where_key key_cmp (λ x. not (eq_by_cmp key_cmp k x)) q (λ x t. ap (λ r. not (is_eq r)) (sym (alike_right total_keys q x k t))) rs
      ∙ turned (eq_by_cmp key_cmp k q) _ _ ∙ ap (λ b. cond b None (find key_cmp q rs)) ((eq_by_cmp_equiv total_keys).symm k q)

  under_test : (b : Bool) (x y z : Option V) → (b ≡ true → x ≡ y) → cond b x z ≡ cond b y z
  under_test true x y z h = h refl
  under_test false x y z h = refl

  pub find-rows : (q : Key) (ms : Messages M) (rs : Rows V) → find key_cmp q (rows_after effect ms rs) ≡ value_after effect q ms (find key_cmp q rs)
  find-rows q [] rs = refl
  find-rows q (m ∷ ms) rs = find-rows q ms _ ∙ ap (value_after effect q ms)
      (find-with_value q m.0 (effect (find key_cmp m.0 rs) m.1) rs
      ∙ under_test (eq_by_cmp key_cmp q m.0) _ _ _ (λ e. ap (λ k. effect (find key_cmp k rs) m.1) (sym (same_key q m.0 e))))

  pub value-append : (q : Key) (ms ns : Messages M) (o : Option V) → value_after effect q (ms ++ ns) o ≡ value_after effect q ns (value_after effect q ms o)
  value-append q [] ns o = refl
  value-append q (m ∷ ms) ns o = value-append q ms ns _

  -- messages to other keys change nothing
  pub value-above : (q k : Key) (high : Option Key) (ms : Messages M) (o : Option V) → is_before q k ≡ true → AllWithin (Some k) high ms → value_after effect q ms o ≡ o
  value-above q k high [] o l h = refl
  value-above q k high (m ∷ ms) o l h =
      ap (λ b. value_after effect q ms (cond b (effect o m.1) o)) (apart q k m.0 l h.0.from) ∙ value-above q k high ms o l h.1

  pub value-below : (q k : Key) (low : Option Key) (ms : Messages M) (o : Option V) → is_before q k ≡ false → AllWithin low (Some k) ms → value_after effect q ms o ≡ o
  value-below q k low [] o l h = refl
  value-below q k low (m ∷ ms) o l h =
      ap (λ b. value_after effect q ms (cond b (effect o m.1) o)) (apart_back m.0 k q h.0.below l) ∙ value-below q k low ms o l h.1
