-- The bounds between which a child is entered.
use Rattle.std.specs.Prelude.{ℕ, cond, List, Option, Some, None, slice_get}
use Rattle.bt_keycode.specs.Keys.{Key, is_before_upper}

-- a key, if there is one and it is before a bound
abbrev pub where_before : Option Key → Option Key → Option Key
where_before to None = None
where_before to (Some k) = cond (is_before_upper to k) (Some k) None

-- the pivot at a place, if there is one and it is before a bound
abbrev pub next_bound : Option Key → ℕ → List Key → Option Key
next_bound to place pivots = where_before to (slice_get pivots place)
