-- The order of keys, keys and limits, and sorted lists. Used by the crates above.
use Rattle.std.proofs.Common.{◌≡◌, Bool, true, false, List, [], ◌∷◌, Option, Some, None, refl, sym, ap, ◌∙◌, true≢false, ◌⊎◌, inl, inr}
use Rattle.std.specs.Cmp.{IsTotalOrder, alike_right, tied_itself}
use Rattle.std.specs.Cmp.Lexicographic.{nat_list_cmp_total}
use Rattle.std.specs.FinMap.{nat_cmp-IsAntisymmetric, slice_cmp-IsAntisymmetric}
use Rattle.std.specs.Ordering.{is_lt, is_eq, eq_by_cmp, ordering_reverse}
use Rattle.std.specs.declared.cmp.Ordering.{Ordering}
use Rattle.std.specs.declared.cmp.Ordering.TheVariants.{Less, Equal, Greater}
use Rattle.bt_keycode.specs.Keys.{Key, key_cmp, is_before, IsFrom, IsPast, IsBelow, AllWithin, AllFrom}

pub total_keys : IsTotalOrder key_cmp
total_keys = nat_list_cmp_total

pub is_less : (o : Ordering) → is_lt o ≡ true → o ≡ Less
is_less Less e = refl
is_less Equal e = absurd (true≢false (sym e))
is_less Greater e = absurd (true≢false (sym e))

pub is_equal : (o : Ordering) → is_eq o ≡ true → o ≡ Equal
is_equal Less e = absurd (true≢false (sym e))
is_equal Equal e = refl
is_equal Greater e = absurd (true≢false (sym e))

neither : (o : Ordering) → is_lt o ≡ false → is_lt (ordering_reverse o) ≡ false → o ≡ Equal
neither Less e f = absurd (true≢false e)
neither Equal e f = refl
neither Greater e f = absurd (true≢false f)

-- ---- two keys, and three

-- keys that compare as equal are the same
pub same_key : (a b : Key) → eq_by_cmp key_cmp a b ≡ true → a ≡ b
same_key a b e = slice_cmp-IsAntisymmetric nat_cmp-IsAntisymmetric a b (is_equal (key_cmp a b) e)

-- two keys are the same if neither is before the other
pub neither_before : (a b : Key) → is_before a b ≡ false → is_before b a ≡ false → a ≡ b
neither_before a b p q =
    slice_cmp-IsAntisymmetric nat_cmp-IsAntisymmetric a b (neither (key_cmp a b) p (ap is_lt (sym (total_keys.antisymm b a)) ∙ q))

pub not_before_itself : (a : Key) → is_before a a ≡ false
not_before_itself a = ap is_lt (tied_itself total_keys a)

pub not_after : (a b : Key) → is_before a b ≡ true → is_before b a ≡ false
not_after a b p = ap is_lt (total_keys.antisymm b a ∙ ap ordering_reverse (is_less (key_cmp a b) p))

pub sides : (a b : Key) → (is_before a b ≡ true) ⊎ (is_before a b ≡ false)
sides a b = elim (is_before a b) as (λ t. is_before a b ≡ t → (is_before a b ≡ true) ⊎ (is_before a b ≡ false)) [ true ↦ λ e. inl e | false ↦ λ e. inr e ] refl

pub before_chain : (a b c : Key) → is_before a b ≡ true → is_before b c ≡ true → is_before a c ≡ true
before_chain a b c p q = ap is_lt (total_keys.trans a b c (is_less (key_cmp a b) p) (is_less (key_cmp b c) q))

-- a key before b is before any key at or after b
pub before_later : (a b c : Key) → is_before a b ≡ true → is_before c b ≡ false → is_before a c ≡ true
before_later a b c p q = go (key_cmp b c) refl
  where
    go : (o : Ordering) → key_cmp b c ≡ o → is_before a c ≡ true
    go Less e = before_chain a b c p (ap is_lt e)
    go Equal e = ap is_lt (sym (alike_right total_keys b c a e)) ∙ p
    go Greater e = absurd (true≢false (sym (ap is_lt (total_keys.antisymm c b ∙ ap ordering_reverse e)) ∙ q))

-- c is at or after b, and b at or after a
pub later_chain : (a b c : Key) → is_before b a ≡ false → is_before c b ≡ false → is_before c a ≡ false
later_chain a b c p q = go (is_before c a) refl
  where
    go : (t : Bool) → is_before c a ≡ t → is_before c a ≡ false
    go false e = e
    go true e = absurd (true≢false (sym (before_later c a b e p) ∙ q))

-- a is at or after low, and b is after a
past_later : (low a b : Key) → is_before a low ≡ false → is_before a b ≡ true → is_before low b ≡ true
past_later low a b l h = go (is_before low b) refl
  where
    go : (t : Bool) → is_before low b ≡ t → is_before low b ≡ true
    go true e = e
    go false e = absurd (true≢false (sym (before_later a b low h e) ∙ l))

-- a key before b differs from any key at or after b
pub apart : (a b c : Key) → is_before a b ≡ true → is_before c b ≡ false → eq_by_cmp key_cmp a c ≡ false
apart a b c p q = ap is_eq (is_less (key_cmp a c) (before_later a b c p q))

pub apart_back : (a b c : Key) → is_before a b ≡ true → is_before c b ≡ false → eq_by_cmp key_cmp c a ≡ false
apart_back a b c p q = ap is_eq (total_keys.antisymm c a ∙ ap ordering_reverse (is_less (key_cmp a c) (before_later a b c p q)))

-- ---- limits

-- a key before one that is below a limit is below it
pub below-below : (high : Option Key) (a b : Key) → is_before a b ≡ true → IsBelow high b → IsBelow high a
below-below None a b l h = refl
below-below (Some high) a b l h = before_chain a b high l h

-- a key after one that is past a limit is past it
pub past-past : (low : Option Key) (a b : Key) → is_before a b ≡ true → IsPast low a → IsPast low b
past-past None a b l h = tt
past-past (Some low) a b l h = before_chain low a b h l

-- a key after one that is at or after a limit is past it
pub past-from : (low : Option Key) (a b : Key) → is_before a b ≡ true → IsFrom low a → IsPast low b
past-from None a b l h = tt
past-from (Some low) a b l h = past_later low a b h l

-- a key at or after one that is past a limit is at or after it
pub from-past : (low : Option Key) (a b : Key) → is_before b a ≡ false → IsPast low a → IsFrom low b
from-past None a b l h = refl
from-past (Some low) a b l h = later_chain low a b (not_after low a h) l

-- ---- sorted lists

module _ {X : Type 0} where
  -- "no key before this one", stated with limits, and back
  pub all_within-from : (k : Key) (xs : List (Key × X)) → AllFrom k xs → AllWithin (Some k) None xs
  all_within-from k [] h = tt
  all_within-from k (x ∷ xs) h = (record { from = h.0; below = refl }, all_within-from k xs h.1)

  -- keys at or after one key are at or after an earlier key
  pub from_earlier : (a b : Key) (xs : List (Key × X)) → is_before b a ≡ false → AllFrom b xs → AllFrom a xs
  from_earlier a b [] p h = tt
  from_earlier a b (x ∷ xs) p h = (later_chain a b x.0 p h.0, from_earlier a b xs p h.1)
