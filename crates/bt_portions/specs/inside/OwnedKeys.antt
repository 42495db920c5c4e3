-- How many keys a portion owns.
use Rattle.std.specs.Prelude.{ℕ, suc, cond, List, [], ◌∷◌}
use Rattle.bt_keycode.specs.Keys.{Key}
use Rattle.bt_form.specs.Portions.{Portion, owns}

-- the number of keys at the front that a portion owns
abbrev pub owned_count : {V M : Type 0} → Portion V M → List Key → ℕ
owned_count p [] = 0
owned_count p (k ∷ ks) = cond (owns k p) (suc (owned_count p ks)) 0
