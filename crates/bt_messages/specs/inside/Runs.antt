-- Sorted messages in runs, one list after the other, so that whole lists of them can be moved.
use Rattle.std.specs.Prelude.{ℕ, ◌≡◌, ◌<◌, ◌^◌, Bool, false, List, [], ◌∷◌, ◌++◌, length}
use Rattle.bt_keycode.specs.Keys.{IsSorted, Key, is_before}
use Rattle.bt_value.specs.Lists.{concatenation}
use Rattle.bt_message.specs.Messages.{Messages}

-- none of these lists is empty
abbrev pub AreSome : {X : Type 0} → List (List X) → Type 0
AreSome [] = Unit {0}
AreSome (r ∷ rs) = (0 < length r) × AreSome rs

-- whether the first message has a key before this one
abbrev pub begins_before : {M : Type 0} → Key → Messages M → Bool
begins_before k [] = false
begins_before k (m ∷ ms) = is_before m.0 k

-- a list and the runs after it, none of which is empty, are sorted together and have that many messages
pub record AreRuns {M : Type 0} (first : Messages M) (rest : List (Messages M)) (n : ℕ) : Type 0 where
  pub some : AreSome rest
  pub sorted : IsSorted (first ++ concatenation rest)
  pub count : n ≡ length (first ++ concatenation rest)
  pub bound : n < 2 ^ 63
