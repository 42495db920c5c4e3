-- Lists whose keys lie within limits.
use Rattle.std.proofs.Common.{Bool, true, false, cond, List, [], ◌∷◌, ◌++◌}
use Rattle.std.specs.FinMap.Entries.{where_key}
use Rattle.std.specs.declared.option.Option.{Option}
use Rattle.std.specs.declared.option.Option.TheVariants.{Some}
use Rattle.bt_keycode.specs.Keys.{Key, key_cmp, IsPast, IsBelow, AllWithin}
use Rattle.bt_keycode.proofs.offered.Order.{below-below, from-past}

module _ {X : Type 0} where
  pub within-append : (low high : Option Key) (xs ys : List (Key × X)) → AllWithin low high xs → AllWithin low high ys → AllWithin low high (xs ++ ys)
  within-append low high [] ys u v = v
  within-append low high (x ∷ xs) ys u v = (u.0, within-append low high xs ys u.1 v)

  -- keys before k are before a limit past k
  pub within-below : (low : Option Key) (k : Key) (high : Option Key) (xs : List (Key × X)) → IsBelow high k → AllWithin low (Some k) xs → AllWithin low high xs
  within-below low k high [] l w = tt
  within-below low k high (x ∷ xs) l w = (record { from = w.0.from; below = below-below high x.0 k w.0.below l }, within-below low k high xs l w.1)

  -- keys from k on are from a limit before k on
  pub within-from : (low : Option Key) (k : Key) (high : Option Key) (xs : List (Key × X)) → IsPast low k → AllWithin (Some k) high xs → AllWithin low high xs
  within-from low k high [] l w = tt
  within-from low k high (x ∷ xs) l w = (record { from = from-past low k x.0 w.0.from l; below = w.0.below }, within-from low k high xs l w.1)

  pub within-where : (low high : Option Key) (test : Key → Bool) (xs : List (Key × X)) → AllWithin low high xs → AllWithin low high (where_key key_cmp test xs)
  within-where low high test [] w = tt
  within-where low high test (x ∷ xs) w = elim (test x.0) as (λ b. AllWithin low high (cond b (x ∷ where_key key_cmp test xs) (where_key key_cmp test xs))) [
    | true ↦ (w.0, within-where low high test xs w.1)
    | false ↦ within-where low high test xs w.1
  ]
