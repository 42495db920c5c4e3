-- Lists sorted by key: filtered, divided and joined.
use Rattle.std.proofs.Common.{◌≡◌, Bool, true, false, cond, List, [], ◌∷◌, ◌++◌}
use Rattle.std.specs.FinMap.Entries.{where_key}
use Rattle.std.specs.declared.option.Option.{Option}
use Rattle.std.specs.declared.option.Option.TheVariants.{Some}
use Rattle.bt_keycode.specs.Keys.{Key, key_cmp, is_before, AllFrom, AllWithin, IsSorted}
use Rattle.bt_keycode.proofs.offered.Order.{later_chain, not_after}

module _ {X : Type 0} where
  from-where : (k : Key) (test : Key → Bool) (xs : List (Key × X)) → AllFrom k xs → AllFrom k (where_key key_cmp test xs)
  from-where k test [] h = tt
  from-where k test (x ∷ xs) h = elim (test x.0) as (λ b. AllFrom k (cond b (x ∷ where_key key_cmp test xs) (where_key key_cmp test xs))) [
    | true ↦ (h.0, from-where k test xs h.1)
    | false ↦ from-where k test xs h.1
  ]

  pub sorted-where : (test : Key → Bool) (xs : List (Key × X)) → IsSorted xs → IsSorted (where_key key_cmp test xs)
  sorted-where test [] r = tt
  sorted-where test (x ∷ xs) r = elim (test x.0) as (λ b. IsSorted (cond b (x ∷ where_key key_cmp test xs) (where_key key_cmp test xs))) [
    | true ↦ (from-where x.0 test xs r.0, sorted-where test xs r.1)
    | false ↦ sorted-where test xs r.1
  ]

  pub from-prefix : (k : Key) (xs ys : List (Key × X)) → AllFrom k (xs ++ ys) → AllFrom k xs
  from-prefix k [] ys h = tt
  from-prefix k (x ∷ xs) ys h = (h.0, from-prefix k xs ys h.1)

  pub from-back : (k : Key) (xs ys : List (Key × X)) → AllFrom k (xs ++ ys) → AllFrom k ys
  from-back k [] ys h = h
  from-back k (x ∷ xs) ys h = from-back k xs ys h.1

  -- the parts of a sorted list are sorted
  pub sorted-prefix : (xs ys : List (Key × X)) → IsSorted (xs ++ ys) → IsSorted xs
  sorted-prefix [] ys r = tt
  sorted-prefix (x ∷ xs) ys r = (from-prefix x.0 xs ys r.0, sorted-prefix xs ys r.1)

  pub sorted-back : (xs ys : List (Key × X)) → IsSorted (xs ++ ys) → IsSorted ys
  sorted-back [] ys r = r
  sorted-back (x ∷ xs) ys r = sorted-back xs ys r.1

  pub from-joined : (k : Key) (xs ys : List (Key × X)) → AllFrom k xs → AllFrom k ys → AllFrom k (xs ++ ys)
  from-joined k [] ys h i = i
  from-joined k (x ∷ xs) ys h i = (h.0, from-joined k xs ys h.1 i)

  -- keys between limits that are past a key are from this key on
  from-limit : (a k : Key) (high : Option Key) (xs : List (Key × X)) → is_before a k ≡ true → AllWithin (Some k) high xs → AllFrom a xs
  from-limit a k high [] l w = tt
  from-limit a k high (x ∷ xs) l w = (later_chain a k x.0 (not_after a k l) w.0.from, from-limit a k high xs l w.1)

  -- sorted lists that meet at a key
  pub sorted-append : (low : Option Key) (k : Key) (high : Option Key) (xs ys : List (Key × X)) → IsSorted xs → IsSorted ys → AllWithin low (Some k) xs
      → AllWithin (Some k) high ys → IsSorted (xs ++ ys)
  sorted-append low k high [] ys r q u v = q
  sorted-append low k high (x ∷ xs) ys r q u v =
      (from-joined x.0 xs ys r.0 (from-limit x.0 k high ys u.0.below v), sorted-append low k high xs ys r.1 q u.1 v)
